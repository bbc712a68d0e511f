use Rattle.std.proofs.Common.{◌≤◌}
use Rattle.op_bind.proofs.OccursCheck
use Rattle.op_bind.proofs.bindings.Bindings.weigh.Given as goal

abbrev pub decreases-walk : goal.decreases-walk
decreases-walk l = l.fuel

abbrev pub invariant-walk : goal.invariant-walk
invariant-walk l = OccursCheck.IsWeighing l.self l.v l.r l.fn.fuel l.fuel l.found l.todo.items × (l.fuel ≤ l.fn.fuel)
