-- What the nodes of a builder mean.
use Rattle.std.specs.Prelude.{◌≡◌, ◌<◌, ◌+◌, ℕ, suc, List, [], ◌∷◌, ◌++◌, length, take, drop}
use Rattle.op_logic.specs.Term.{Term, var, int, node}
use Rattle.op_term.specs.Integers.{IsSmall}
use Rattle.op_term.specs.Places.{args_at}
use Rattle.op_term.specs.declared.builder.Cell.{Cell}
use Rattle.op_term.specs.declared.builder.Shape.{Shape}
use Rattle.op_term.specs.declared.builder.Shape.TheVariants.{Var, Int, Named}

abbrev pub count_of : Shape → ℕ
count_of (Var n) = 0
count_of (Int i) = 0
count_of (Named f n) = n

-- so many of the numbers from a place on
abbrev pub stretch : List ℕ → ℕ → ℕ → List ℕ
stretch parts from n = take n (drop from parts)

-- what a shape makes of its parts
abbrev pub shaped : List (Term ℕ) → List ℕ → Shape → Term ℕ
shaped ts ps (Var n) = var n
shaped ts ps (Int i) = int i
shaped ts ps (Named f n) = node f.0 (args_at ts ps)

abbrev pub parts_of : List ℕ → Cell → List ℕ
parts_of parts c = stretch parts c.from (count_of c.shape)

-- the terms of these cells, after those of the cells before them
abbrev pub terms_after : List (Term ℕ) → List ℕ → List Cell → List (Term ℕ)
terms_after ts parts [] = ts
terms_after ts parts (c ∷ cs) = terms_after (ts ++ shaped ts (parts_of parts c) c.shape ∷ []) parts cs

abbrev pub terms_of : List ℕ → List Cell → List (Term ℕ)
terms_of parts cs = terms_after [] parts cs

-- each number is below n
abbrev pub AllBelow : ℕ → List ℕ → Type 0
AllBelow n [] = Unit {0}
AllBelow n (x ∷ xs) = (x < n) × AllBelow n xs

-- the parts stand one cell after another, and each is a number below its cell's
abbrev pub Laid : ℕ → ℕ → List ℕ → List Cell → Type 0
Laid n at parts [] = at ≡ length parts
Laid n at parts (c ∷ cs) =
    (c.from ≡ at) × AllBelow n (parts_of parts c) × Laid (suc n) (at + count_of c.shape) parts cs

-- an integer has 64 bits
abbrev pub IsSmallShape : Shape → Type 0
IsSmallShape (Var n) = Unit {0}
IsSmallShape (Int i) = IsSmall i
IsSmallShape (Named f n) = Unit {0}

abbrev pub HaveSmallShapes : List Cell → Type 0
HaveSmallShapes [] = Unit {0}
HaveSmallShapes (c ∷ cs) = IsSmallShape c.shape × HaveSmallShapes cs
