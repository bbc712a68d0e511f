use Rattle.std.proofs.Common.{length}
use Rattle.op_bind.proofs.TermCopies.{IsBuilding}
use Rattle.op_bind.proofs.copy.build.Given as goal

abbrev pub invariant-back : goal.invariant-back
invariant-back l = IsBuilding l.fn.made l.made l.fn.nodes.items l.nodes.items l.stack.items

abbrev pub decreases-back : goal.decreases-back
decreases-back l = length l.nodes.items
