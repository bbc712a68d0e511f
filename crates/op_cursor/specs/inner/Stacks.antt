-- The code's stacks: pairs that are still to be taken, the top last, and what the pattern's variables stand for, the newest last.
use Rattle.std.specs.Prelude.{◌≡◌, ℕ, List, [], ◌∷◌, All, None, length}
use Rattle.op_logic.specs.Term.{Term}
use Rattle.op_logic.specs.Bind.{Bindings, Pairs, lookup}
use Rattle.op_trace.specs.Database.{Text}
use Rattle.op_moves.specs.Pairs.{variable, head_of, all_matched}
use Rattle.op_event.specs.View.{Showing}
use Rattle.op_cursor.specs.declared.part.Part.{Part}
use Rattle.op_cursor.specs.declared.part.Side.{Side}
use Rattle.op_cursor.specs.inner.Parts.{part_term, side_term, IsPart, IsSide, HasOwnNames}

abbrev pub pairs_from : List (Term ℕ) → List Text → Showing → List (Side × Part) → Pairs Text → Pairs Text
pairs_from ts own v [] ps = ps
pairs_from ts own v (x ∷ xs) ps = pairs_from ts own v xs ((side_term ts own v x.0, part_term v x.1) ∷ ps)

abbrev pub values_from : Showing → List (ℕ × Part) → Bindings Text → Bindings Text
values_from v [] σ = σ
values_from v (x ∷ xs) σ = values_from v xs ((x.0, part_term v x.1) ∷ σ)

-- a pair's left side, and what is taken in its place: where it is a variable that stands for something, this; a variable that is left
-- stands for nothing
pub record IsFollowed (ts : List (Term ℕ)) (values : List (ℕ × Part)) (before after : Side) : Type 0 where
  pub same : (own : List Text) (v : Showing) (t : Term Text) (qs : Pairs Text)
      → all_matched (values_from v values []) ((side_term ts own v before, t) ∷ qs)
      ≡ all_matched (values_from v values []) ((side_term ts own v after, t) ∷ qs)
  pub free : (own : List Text) (v : Showing) (w : ℕ) → variable w ≡ head_of (side_term ts own v after)
      → lookup (values_from v values []) w ≡ None
  pub side : (v : Showing) → IsSide ts v before → All (λ x. IsPart v x.1) values → IsSide ts v after
  pub names : (k : ℕ) → HasOwnNames k ts before → HasOwnNames k ts after

-- both sides of a pair are there
abbrev pub IsPair : List (Term ℕ) → List Text → Showing → Side × Part → Type 0
IsPair ts own v p = IsSide ts v p.0 × HasOwnNames (length own) ts p.0 × IsPart v p.1
