use Rattle.std.proofs.Common.{◌≤◌, length}
use Rattle.op_bind.proofs.RenewedTerms.{AreMet}
use Rattle.op_bind.proofs.renamed_copy.variables_among.Given as goal

abbrev pub invariant-back : goal.invariant-back
invariant-back l = record { met : AreMet l.nodes l.i l.met.keys; within : l.i ≤ length l.nodes }

abbrev pub decreases-back : goal.decreases-back
decreases-back l = l.i
