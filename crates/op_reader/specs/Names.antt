-- The named variables of a term, each with its number.
use Rattle.std.specs.Prelude.{ℕ, List, [], ◌∷◌, Option, Some, None, bytes_eq, if◌then◌else◌}

-- names, each with its number
abbrev pub numbered : List (List ℕ) → List ℕ → List (List ℕ × ℕ)
numbered [] vs = []
numbered (w ∷ ws) [] = []
numbered (w ∷ ws) (v ∷ vs) = (w, v) ∷ numbered ws vs

-- the number of a name
abbrev pub number_of : List ℕ → List (List ℕ × ℕ) → Option ℕ
number_of w [] = None
number_of w (n ∷ ns) = if bytes_eq w n.0 then Some n.1 else number_of w ns
