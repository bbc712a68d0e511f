use Rattle.std.proofs.Common.{◌≡◌, ◌+◌, ◌-◌, ◌≤◌, length}
use Rattle.op_trace.specs.Run.{events_of, worlds_of}
use Rattle.op_session.specs.inner.Feeding.{to_show, most_of}
use Rattle.op_session.proofs.feed.next_event.Given as goal

abbrev pub invariant-loop-ending : goal.invariant-loop-ending
invariant-loop-ending g l = record {
  events : events_of (to_show l.fn.machine).turns ≡ events_of (to_show l.machine).turns;
  worlds : worlds_of (to_show l.fn.machine).turns ≡ worlds_of (to_show l.machine).turns;
  ending : (to_show l.fn.machine).ending ≡ (to_show l.machine).ending;
  world : (to_show l.fn.machine).world ≡ (to_show l.machine).world;
  cost : l.steps ≡ l.fn.steps + (l.machine.steps - l.fn.machine.steps);
  later : l.fn.machine.steps ≤ l.machine.steps;
  table : l.machine.tables.table ≡ l.fn.machine.tables.table;
  most : most_of l.machine ≤ most_of l.fn.machine;
}

abbrev pub decreases-loop-ending : goal.decreases-loop-ending
decreases-loop-ending g l = length (to_show l.machine).turns
