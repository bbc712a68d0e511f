use Rattle.std.proofs.Common.{◌≡◌, ◌≤◌, ◌++◌, length, drop, reverse}
use Rattle.op_bind.specs.inner.Pairs.{zip}
use Rattle.op_bind.proofs.unify.push_pairs.Given as goal

abbrev pub decreases-down : goal.decreases-down
decreases-down l = l.n

abbrev pub invariant-down : goal.invariant-down
invariant-down l = (l.n ≤ length l.left) × (reverse l.todo.items ≡ zip (drop l.n l.left) (drop l.n l.right) ++ reverse l.fn.todo.items)
