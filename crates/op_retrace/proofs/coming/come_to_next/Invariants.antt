use Rattle.std.proofs.Common.{◌≡◌, ◌+◌, ◌-◌, ◌≤◌, length, take}
use Rattle.op_retrace.specs.Holding.{to_show}
use Rattle.op_retrace.specs.inner.Coming.{Passing}
use Rattle.op_retrace.proofs.coming.come_to_next.Given as goal

abbrev pub invariant-loop-ending : goal.invariant-loop-ending
invariant-loop-ending g l = record {
  passing : Passing l.fn.machine l.machine;
  cost : l.steps ≡ l.fn.steps + (l.machine.steps - l.fn.machine.steps);
  later : l.fn.machine.steps ≤ l.machine.steps;
  names : take (length l.fn.machine.tables.names) l.machine.tables.names ≡ l.fn.machine.tables.names;
}

abbrev pub decreases-loop-ending : goal.decreases-loop-ending
decreases-loop-ending g l = length (to_show l.machine).turns
