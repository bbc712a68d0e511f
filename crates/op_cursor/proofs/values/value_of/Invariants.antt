use Rattle.std.proofs.Common.{◌≡◌, ◌≤◌, [], length, take}
use Rattle.op_logic.specs.Bind.{lookup}
use Rattle.op_event.specs.View.{Showing}
use Rattle.op_cursor.specs.inner.Stacks.{values_from}
use Rattle.op_cursor.proofs.values.value_of.Given as goal

abbrev pub invariant-down : goal.invariant-down
invariant-down l = record {
  inside : l.n ≤ length l.values;
  below : (w : Showing) → lookup (values_from w l.values []) l.v ≡ lookup (values_from w (take l.n l.values) []) l.v;
}

abbrev pub decreases-down : goal.decreases-down
decreases-down l = l.n
