use Rattle.std.proofs.Common.{[], ◌≤◌, All}
use Rattle.op_logic.specs.Names.{named}
use Rattle.op_term.specs.Places.{term_at}
use Rattle.op_moves.specs.EventTerm.{event_term}
use Rattle.op_event.specs.View.{event_in}
use Rattle.op_cursor.specs.inner.Parts.{IsPart}
use Rattle.op_cursor.specs.inner.Stacks.{pairs_from, values_from, IsPair}
use Rattle.op_cursor.proofs.MatchingLoop.{IsMatching}
use Rattle.op_cursor.proofs.matching.accepts.Given as goal

abbrev pub invariant-pairs : goal.invariant-pairs
invariant-pairs l = record {
  matching : IsMatching (named l.names (term_at l.whole.terms l.whole.root)) (event_term (event_in l.view)) l.fn.fuel l.fuel
      (values_from l.view l.values.items []) (pairs_from l.whole.terms l.names l.view l.todo.items []);
  values : All (λ x. IsPart l.view x.1) l.values.items;
  there : All (λ p. IsPair l.whole.terms l.names l.view p) l.todo.items;
  falls : l.fuel ≤ l.fn.fuel;
}

abbrev pub decreases-pairs : goal.decreases-pairs
decreases-pairs l = l.fuel
