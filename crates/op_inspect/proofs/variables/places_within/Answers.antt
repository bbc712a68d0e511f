use Rattle.std.proofs.Common.{ap, ◌∙◌}
use Rattle.op_term.proofs.ArgumentLists.{count-head}
use Rattle.op_term.specs.Arguments.{argument_count}
use Rattle.op_term.specs.Variables.{distinct_variables}
use Rattle.op_bind.specs.State.{value_of}
use Rattle.op_inspect.proofs.MeetingVariables.{walked, walked-smaller}
use Rattle.op_inspect.proofs.variables.places_within.Goals as goal

pub push_args-requires-clause-count : goal.push_args-requires-clause-count
push_args-requires-clause-count c =
    c.arity.ensures ∙ (ap argument_count c.head_of.ensures ∙ count-head (value_of c.args.bindings.now c.in-Some.next))

pub walk-smaller : goal.walk-smaller
walk-smaller c =
    walked-smaller c.args.bindings.now c.pop.new.self.items c.walk.todo.items c.push_args.new.todo.items c.in-Some.next
    c.in-Some.ensures.items c.in_ok-push_args.ensures.terms

pub walk-preserved : goal.walk-preserved
walk-preserved c =
    let s = c.args.bindings.now in
    let rest = c.pop.new.self.items in
    record {
      met = walked s rest c.walk.todo.items c.push_args.new.todo.items c.in-Some.next c.in-Some.ensures.items
          c.in_ok-push_args.ensures.terms c.walk.places.items c.note.new.places.items (distinct_variables (value_of s c.args.term.now))
          c.in_ok-note.ensures.met c.walk.invariant.met;
      places = c.in_ok-note.ensures.there;
      todo = c.in_ok-push_args.ensures.todo;
    }
