use Rattle.std.proofs.Common.{◌≡◌, ◌<◌, length, map, All}
use Rattle.op_logic.specs.Names.{HasNames, named}
use Rattle.op_term.specs.Places.{term_at}
use Rattle.op_session.specs.Runnable.{is_runnable}
use Rattle.op_session.specs.inner.Parts.{all_runnable}
use Rattle.op_session.proofs.RunnableBodies.{weight}
use Rattle.op_session.proofs.runnable.is_runnable_term.Given as goal

abbrev pub invariant-walk : goal.invariant-walk
invariant-walk l = record {
  runs : is_runnable (named l.store.names l.term)
      ≡ all_runnable (map (λ p. named l.store.names (term_at l.whole.terms p)) l.todo.items);
  todo : All (λ p. (p < length l.whole.terms) × HasNames (length l.store.names) (term_at l.whole.terms p)) l.todo.items;
}

abbrev pub decreases-walk : goal.decreases-walk
decreases-walk l = weight l.store.names (term_at l.whole.terms) l.todo.items
