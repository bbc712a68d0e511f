-- Terms whose variables are below a number.
use Rattle.std.specs.Prelude.{ℕ, List, [], ◌∷◌}
use Rattle.op_logic.specs.Term.{Term, IsWithin}

-- each variable of each term is below n
abbrev pub AllWithin : ℕ → List (Term ℕ) → Type 0
AllWithin n [] = Unit {0}
AllWithin n (t ∷ ts) = IsWithin n t × AllWithin n ts
