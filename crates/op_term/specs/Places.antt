-- Terms that stand at numbers.
use Rattle.std.specs.Prelude.{ℕ, pos, List, [], ◌∷◌, slice_index_or}
use Rattle.std.specs.Coded.{Coded, code_by, coded×, coded_ℕ}
use Rattle.std.specs.Prelude.{refl}
use Rattle.op_logic.specs.Term.{Term, int, Args, no_args, arg}
use Rattle.op_logic.specs.inner.Code.{terms_code}

-- the term at a number
abbrev pub term_at : List (Term ℕ) → ℕ → Term ℕ
term_at ts i = slice_index_or ts i (int (pos 0))

-- the terms at these numbers, as arguments
abbrev pub args_at : List (Term ℕ) → List ℕ → Args ℕ
args_at ts [] = no_args
args_at ts (i ∷ is) = arg (term_at ts i) (args_at ts is)

-- terms, and the number of one of them
pub record Rooted : Type 0 where
  pub terms : List (Term ℕ)
  pub root : ℕ

abbrev pub rooted_code : Coded Rooted
rooted_code =
    code_by (List (Term ℕ) × ℕ) (coded× terms_code coded_ℕ) (λ r. (r.terms, r.root)) (λ p. record { terms = p.0; root = p.1 }) (λ _. refl)
