use Rattle.op_inspect.proofs.MeetingVariables.{noted, not-noted}
use Rattle.op_inspect.proofs.variables.note.Goals as goal

pub returns-in_ok-push-clause-met : goal.returns-in_ok-push-clause-met
returns-in_ok-push-clause-met c =
    noted c.args.bindings.now c.args.at.now c.followed-place.result c.outline.result c.followed-place.ensures.acyclic
    c.followed-place.ensures.value c.outline.ensures c.args.places.now.items c.push.new.self.items c.in_ok-push.ensures.items

pub returns-in_default : goal.returns-in_default
returns-in_default c = record {
  there = c.requires.places;
  met = not-noted c.args.bindings.now c.args.at.now c.followed-place.result c.outline.result c.followed-place.ensures.acyclic
      c.followed-place.ensures.value c.outline.ensures c.args.places.now.items c.in_default.not-Var;
}
