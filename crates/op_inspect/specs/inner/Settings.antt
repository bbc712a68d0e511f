-- What is made under bindings on the way to an answer.
use Rattle.std.specs.Prelude.{◌≡◌, ℕ, List, length, take}
use Rattle.op_logic.specs.Term.{Term, var, int, node, no_args}
use Rattle.op_term.specs.Places.{term_at}
use Rattle.op_bind.specs.State.{State, bindings}
use Rattle.op_bind.specs.Grown.{Grows}
use Rattle.op_trace.specs.Database.{Text}
use Rattle.op_inspect.specs.Outcomes.{text_at, IsKnown}

pub record Stays (names more : List (List ℕ)) (s t : State) : Type 0 where
  pub kept : take (length names) more ≡ names
  pub grows : Grows s t

-- a Ref of a term joins, and nothing else changes
pub record Makes (names : List (List ℕ)) (s : State) (more : List (List ℕ)) (t : State) (r : ℕ) (term : Term Text) : Type 0 where
  pub known : IsKnown more t r
  pub text : text_at more t r ≡ term
  pub bound : bindings t ≡ bindings s
  pub count : t.count ≡ s.count

-- an integer or an atom
abbrev pub IsAtomic : Term ℕ → Type 0
IsAtomic (var v) = ⊥
IsAtomic (int i) = Unit {0}
IsAtomic (node f ts) = ts ≡ no_args

abbrev pub IsAtomicAt : State → ℕ → Type 0
IsAtomicAt s r = IsAtomic (term_at s.terms r)
