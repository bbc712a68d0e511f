-- Continuations that share their ends.
use Rattle.std.specs.Prelude.{◌≡◌, ℕ, ◌<◌, ◌≤◌, List, [], ◌∷◌, ◌++◌, length, slice_index_or}
use Rattle.op_trace.specs.World.{head_number}
use Rattle.op_machine.specs.declared.continuations.Item.{Item}
use Rattle.op_machine.specs.declared.continuations.Item.TheVariants as item
use Rattle.op_machine.specs.declared.continuations.Cell.{Cell}

-- the continuation at a number
abbrev pub continuation_in : List (List Item) → ℕ → List Item
continuation_in L n = slice_index_or L n []

abbrev pub only_empty : List (List Item)
only_empty = [] ∷ []

-- the continuations that these cells make, after those that are there
abbrev pub continuations_after : List (List Item) → List Cell → List (List Item)
continuations_after L [] = L
continuations_after L (c ∷ cs) = continuations_after (L ++ (c.item ∷ continuation_in L c.rest) ∷ []) cs

abbrev pub continuations_of : List Cell → List (List Item)
continuations_of cs = continuations_after only_empty cs

-- the boxes that are open in a continuation, the innermost first
abbrev pub opened : List Item → List ℕ
opened [] = []
opened (item.Goal f m ∷ I) = opened I
opened (item.Cut m ∷ I) = opened I
opened (item.Exit k g ∷ I) = k ∷ opened I
opened (item.Execute k g ∷ I) = k ∷ opened I
opened (item.Recover k g ∷ I) = k ∷ opened I

-- each cell leads to a continuation that is there, and knows what is open in its own
abbrev pub AreLinked : List (List Item) → List Cell → Type 0
AreLinked L [] = Unit {0}
AreLinked L (c ∷ cs) =
    (c.rest < length L) × (c.parent ≡ head_number (opened (c.item ∷ continuation_in L c.rest)))
    × (c.depth ≡ length (opened (c.item ∷ continuation_in L c.rest)))
    × AreLinked (L ++ (c.item ∷ continuation_in L c.rest) ∷ []) cs

-- a cell is where the continuation at a number begins
pub record Begins (L : List (List Item)) (n : ℕ) (c : Cell) : Type 0 where
  pub continuation : continuation_in L n ≡ c.item ∷ continuation_in L c.rest
  pub below : c.rest < n
  pub parent : c.parent ≡ head_number (opened (continuation_in L n))
  pub depth : c.depth ≡ length (opened (continuation_in L n))
  -- no more boxes are open than continuations come before
  pub shallow : length (opened (continuation_in L n)) ≤ n
