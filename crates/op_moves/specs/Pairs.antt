-- A pattern is matched with a list of pairs, one after the other.
use Rattle.std.specs.Prelude.{ℕ, ℤ, [], ◌∷◌, Bool, false, if◌then◌else◌}
use Rattle.std.specs.Ordering.{int_eq}
use Rattle.op_logic.specs.Term.{Term, var, int, node, arity}
use Rattle.op_logic.specs.Bind.{Bindings, Pairs}
use Rattle.op_trace.specs.Database.{Text}
use Rattle.op_moves.specs.Pattern.{same_name, Matched, Clashes, Goes_on, pairs_more, going_on, matched}

-- the outermost node of a term
pub data Head : Type 0 where
  variable : ℕ → Head
  integer : ℤ → Head
  name : Text → ℕ → Head

abbrev pub head_of : Term Text → Head
head_of (var v) = variable v
head_of (int i) = integer i
head_of (node f ts) = name f (arity ts)

abbrev pub same_head : Head → Head → Bool
same_head (integer i) (integer j) = int_eq i j
same_head (name f n) (name g m) = same_name f n g m
same_head _ _ = false

-- it is no variable
abbrev pub IsNode : Head → Type 0
IsNode (variable v) = ⊥
IsNode (integer i) = Unit {0}
IsNode (name f n) = Unit {0}

-- what pairs come to
abbrev pub all_matched : Bindings Text → Pairs Text → Matched
all_matched σ [] = Goes_on σ 0
all_matched σ (p ∷ ps) = going_on (matched σ p.0 p.1) (λ τ. all_matched τ ps)

-- what one pair came to: a clash, or values and pairs that go on
abbrev pub went_on : Bool → Bindings Text → Pairs Text → Matched
went_on went σ ps = if went then pairs_more 1 (all_matched σ ps) else Clashes 1
