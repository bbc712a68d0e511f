use Rattle.op_retrace.proofs.StandingPlaces.{starts-here}
use Rattle.op_retrace.proofs.retrace.Retrace.new.Goals as goal

pub invariant_of-result : goal.invariant_of-result
invariant_of-result c = record {
  goal = c.requires.goal;
  some = c.requires.some;
  limit = c.requires.limit;
  here = λ none. starts-here c.args.store c.args.goal c.args.budget c.args.wanted c.in_ok-machine.machine c.in_ok-machine.ensures;
}
