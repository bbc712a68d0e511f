-- What holds of all bindings.
use Rattle.std.specs.Prelude.{◌≡◌, ℕ, ◌<◌, ◌==◌, List, [], ◌∷◌, length, slice_index_or, Option, Some, None, false, if◌then◌else◌}
use Rattle.op_logic.specs.Term.{Term, var, int, node, occurs}
use Rattle.op_logic.specs.Bind.{apply, lookup}
use Rattle.op_term.specs.Places.{term_at}
use Rattle.op_bind.specs.State.{resolved}
use Rattle.op_bind.specs.Within.{AllWithin}

-- a variable that is bound to a variable is greater
abbrev pub IsRanked : ℕ → Term ℕ → Type 0
IsRanked v (var w) = w < v
IsRanked v (int i) = Unit {0}
IsRanked v (node f ts) = Unit {0}

-- each binding in turn: its variable was given out and unbound, its term is there and does not lead back to it
abbrev pub AreBound : ℕ → List (Term ℕ) → List (ℕ × ℕ) → Type 0
AreBound n ts [] = Unit {0}
AreBound n ts (p ∷ ps) =
    AreBound n ts ps × (p.0 < n) × (p.1 < length ts) × IsRanked p.0 (term_at ts p.1)
    × (lookup (resolved ts ps) p.0 ≡ None) × (occurs p.0 (apply (resolved ts ps) (term_at ts p.1)) ≡ false)

abbrev pub ref_of : List (ℕ × ℕ) → ℕ → Option ℕ
ref_of [] v = None
ref_of (p ∷ ps) v = if p.0 == v then Some p.1 else ref_of ps v

pub record IsSound (ts : List (Term ℕ)) (ps : List (ℕ × ℕ)) (table : List (Option ℕ)) : Type 0 where
  pub within : AllWithin (length table) ts
  pub are_bound : AreBound (length table) ts ps
  pub looked_up : (v : ℕ) (d : Option ℕ) → v < length table → slice_index_or table v d ≡ ref_of ps v
