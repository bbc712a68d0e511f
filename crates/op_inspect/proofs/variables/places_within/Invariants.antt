use Rattle.std.proofs.Common.{◌≡◌, ◌<◌, [], length, map, All}
use Rattle.op_term.specs.Variables.{distinct_variables}
use Rattle.op_bind.specs.State.{value_of}
use Rattle.op_inspect.specs.inner.Met.{met_back, met_on}
use Rattle.op_inspect.proofs.MeetingVariables.{sizes}
use Rattle.op_inspect.proofs.variables.places_within.Given as goal

abbrev pub invariant-walk : goal.invariant-walk
invariant-walk l = record {
  met : met_back l.bindings (met_on [] (map (value_of l.bindings) l.todo.items)) l.places.items
      ≡ distinct_variables (value_of l.bindings l.term);
  places : All (λ r. r < length l.bindings.terms) l.places.items;
  todo : All (λ r. r < length l.bindings.terms) l.todo.items;
}

abbrev pub decreases-walk : goal.decreases-walk
decreases-walk l = sizes (map (value_of l.bindings) l.todo.items)
