use Rattle.std.proofs.Common.{◌≡◌, ◌+◌, drop}
use Rattle.op_token.specs.Set.{run as the_run}
use Rattle.op_token.proofs.set.Set.run.Given as goal

abbrev pub invariant-loop-i : goal.invariant-loop-i
invariant-loop-i l = the_run l.self l.rest ≡ l.i + the_run l.self (drop l.i l.rest)
