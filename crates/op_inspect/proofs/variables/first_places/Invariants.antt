use Rattle.std.proofs.Common.{◌≡◌, ◌<◌, [], length, map, All}
use Rattle.op_logic.specs.Term.{var}
use Rattle.op_term.specs.Places.{term_at}
use Rattle.op_inspect.specs.inner.Met.{met_back}
use Rattle.op_inspect.proofs.variables.first_places.Given as goal

abbrev pub invariant-first : goal.invariant-first
invariant-first l = record {
  met : met_back l.bindings l.met.keys l.places.items ≡ met_back l.bindings [] l.fn.places.items;
  terms : map (term_at l.bindings.terms) l.found.items ≡ map var l.met.keys;
  found : All (λ r. r < length l.bindings.terms) l.found.items;
  places : All (λ r. r < length l.bindings.terms) l.places.items;
}

abbrev pub decreases-first : goal.decreases-first
decreases-first l = length l.places.items
