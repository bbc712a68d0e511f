-- What construction makes, and of which names.
use Rattle.std.specs.Prelude.{◌≡◌, ℕ, ◌+◌, List}
use Rattle.op_logic.specs.Term.{Term, var, int, node, no_args}
use Rattle.op_term.specs.Places.{term_at}
use Rattle.op_bind.specs.State.{State, bindings}
use Rattle.op_trace.specs.Database.{Text}
use Rattle.op_inspect.specs.Outcomes.{text_at, IsKnown}

-- a Ref of a term joins, and so many variables are given out
pub record MakesNew (names : List (List ℕ)) (s t : State) (r n : ℕ) (term : Term Text) : Type 0 where
  pub known : IsKnown names t r
  pub text : text_at names t r ≡ term
  pub bound : bindings t ≡ bindings s
  pub count : t.count ≡ s.count + n

-- a name that can have so many arguments: an integer has none
abbrev pub CanName : Term ℕ → ℕ → Type 0
CanName (var v) n = ⊥
CanName (int i) n = n ≡ 0
CanName (node f ts) n = ts ≡ no_args

-- no variable
abbrev pub IsBound : Term ℕ → Type 0
IsBound (var v) = ⊥
IsBound (int i) = Unit {0}
IsBound (node f ts) = Unit {0}

abbrev pub IsBoundAt : State → ℕ → Type 0
IsBoundAt s r = IsBound (term_at s.terms r)
