-- Boxes and choice points, in the order in which they were made.
use Rattle.std.specs.Prelude.{ℕ, ◌<◌, ◌==◌, List, [], ◌∷◌, reverse, if◌then◌else◌, All}
use Rattle.std.specs.List.Sorted.{IsNonDecreasingBy}
use Rattle.op_frames.specs.declared.boxes.BoxFrame.{BoxFrame}
use Rattle.op_frames.specs.declared.choice.Choice.{Choice}

-- each box has a number that is not less than those before it
abbrev pub AreRising : List BoxFrame → Type 0
AreRising B = IsNonDecreasingBy (λ (b : BoxFrame). b.number) B

-- each box was called in one of lesser number, or at the top
abbrev pub HaveLowerParents : List BoxFrame → Type 0
HaveLowerParents B = All (λ (b : BoxFrame). b.parent < b.number) B

pub record Framed (T : Type 0) : Type 0 where
  pub boxes : List BoxFrame
  pub choices : List (Choice T)

-- a box with its goal, the box that it was called in, and so on, among boxes of which the last comes first; none for 0
abbrev pub chain : List BoxFrame → ℕ → List (ℕ × ℕ)
chain [] n = []
chain (b ∷ B) n = if n == 0 then [] else (if b.number == n then (n, b.goal) ∷ chain B b.parent else chain B n)

-- a box and those around it, inner to outer
abbrev pub open_from : List BoxFrame → ℕ → List (ℕ × ℕ)
open_from B n = chain (reverse B) n

-- the numbers of boxes fall strictly, from the inner one on
abbrev pub AreFalling : List (ℕ × ℕ) → Type 0
AreFalling [] = Unit {0}
AreFalling (p ∷ ps) = All (λ (q : ℕ × ℕ). q.0 < p.0) ps × AreFalling ps
