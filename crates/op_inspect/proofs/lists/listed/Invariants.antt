use Rattle.std.proofs.Common.{◌≡◌, All}
use Rattle.op_logic.specs.Term.{size}
use Rattle.op_bind.specs.State.{value_of}
use Rattle.op_inspect.specs.Lists.{listed}
use Rattle.op_inspect.specs.Outcomes.{text_at, texts_of, IsKnown}
use Rattle.op_inspect.specs.inner.Seen.{with_elements}
use Rattle.op_inspect.proofs.lists.listed.Given as goal

abbrev pub invariant-spine : goal.invariant-spine
invariant-spine l = record {
  seen : listed (texts_of l.symbols l.bindings) (text_at l.symbols l.bindings l.list)
      ≡ with_elements l.symbols l.bindings l.elements.items
      (listed (texts_of l.symbols l.bindings) (text_at l.symbols l.bindings l.rest));
  rest : IsKnown l.symbols l.bindings l.rest;
  elements : All (IsKnown l.symbols l.bindings) l.elements.items;
}

abbrev pub decreases-spine : goal.decreases-spine
decreases-spine l = size (value_of l.bindings l.rest)
