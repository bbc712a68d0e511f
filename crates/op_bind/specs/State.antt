-- What bindings are to their callers.
use Rattle.std.specs.Prelude.{ℕ, ◌-◌, ◌<◌, ◌≤◌, List, [], ◌∷◌, length, take, drop, All, refl}
use Rattle.std.specs.Coded.{Coded, code_by, coded×, coded_ℕ, coded_list}
use Rattle.op_logic.specs.Term.{Term}
use Rattle.op_logic.specs.Bind.{Bindings, apply}
use Rattle.op_logic.specs.inner.Code.{terms_code}
use Rattle.op_term.specs.Places.{term_at}

pub record State : Type 0 where
  -- the term of each Ref
  pub terms : List (Term ℕ)
  -- a variable and the Ref of its term, the newest first
  pub bound : List (ℕ × ℕ)
  -- how many variables were given out
  pub count : ℕ

abbrev pub state_code : Coded State
state_code =
    code_by (List (Term ℕ) × (List (ℕ × ℕ) × ℕ)) (coded× terms_code (coded× (coded_list (coded× coded_ℕ coded_ℕ)) coded_ℕ))
    (λ s. (s.terms, (s.bound, s.count))) (λ p. record { terms = p.0; bound = p.1.0; count = p.1.1 }) (λ _. refl)

-- each variable with its term
abbrev pub resolved : List (Term ℕ) → List (ℕ × ℕ) → Bindings ℕ
resolved ts [] = []
resolved ts (p ∷ ps) = (p.0, term_at ts p.1) ∷ resolved ts ps

abbrev pub bindings : State → Bindings ℕ
bindings s = resolved s.terms s.bound

-- the value of a Ref
abbrev pub value_of : State → ℕ → Term ℕ
value_of s r = apply (bindings s) (term_at s.terms r)

-- how many terms and how many bindings there were
pub record Marked : Type 0 where
  pub terms : ℕ
  pub bound : ℕ

abbrev pub marked_code : Coded Marked
marked_code = code_by (ℕ × ℕ) (coded× coded_ℕ coded_ℕ) (λ m. (m.terms, m.bound)) (λ p. record { terms = p.0; bound = p.1 }) (λ _. refl)

abbrev pub mark_of : State → Marked
mark_of s = record { terms = length s.terms; bound = length s.bound }

-- the oldest bindings, so many of them
abbrev pub oldest : ℕ → List (ℕ × ℕ) → List (ℕ × ℕ)
oldest n ps = drop (length ps - n) ps

-- the state at a mark, but for the numbers that were given out since
abbrev pub undone : State → Marked → State
undone s m = record { terms = take m.terms s.terms; bound = oldest m.bound s.bound; count = s.count }

-- what the mark counted is still there, and what was bound then is bound to terms of then
pub record IsGoodMark (s : State) (m : Marked) : Type 0 where
  pub terms_there : m.terms ≤ length s.terms
  pub bound_there : m.bound ≤ length s.bound
  pub bound_below : All (λ p. p.1 < m.terms) (oldest m.bound s.bound)
