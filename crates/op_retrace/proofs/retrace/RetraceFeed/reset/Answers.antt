use Rattle.std.proofs.Common.{refl}
use Rattle.op_retrace.specs.Retraced.{held_by}
use Rattle.op_retrace.proofs.StandingPlaces.{again-here}
use Rattle.op_retrace.proofs.retrace.RetraceFeed.reset.Goals as goal

pub invariant_of-self : goal.invariant_of-self
invariant_of-self c = record {
  goal = c.self.invariant.goal;
  some = c.self.invariant.some;
  limit = c.self.invariant.limit;
  here = λ none. again-here (held_by c.self.inside) c.in-Ok.machine (c.self.invariant.here none) c.in-Ok.ensures;
}

pub returns-in-Ok-clause-resets : goal.returns-in-Ok-clause-resets
returns-in-Ok-clause-resets c = rw (← c.self.view_is) refl
