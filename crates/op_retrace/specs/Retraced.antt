-- What callers see of a feed that makes the run again.
use Rattle.op_retrace.specs.declared.retrace.Retrace.TheInside.{Inside}
use Rattle.op_retrace.specs.Holding.{Held}

abbrev pub held_by : Inside → Held
held_by r = record {
  store = r.store;
  goal = r.goal;
  budget = r.budget;
  wanted = r.wanted;
  machine = r.machine;
  place = r.place;
  furthest = r.furthest;
  ending = r.ending;
  fault = r.fault;
}
