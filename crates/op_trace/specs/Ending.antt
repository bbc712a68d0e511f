-- The endings of a run: the wanted solution was found, no alternative is left, a ball has left all boxes, it was halted with a number, or
-- one more step would pass the budget.
use Rattle.std.specs.Prelude.{ℤ, List, ℕ}
use Rattle.op_logic.specs.Term.{Term}

pub data Ending : Type 0 where
  Stopped : Ending
  Failed : Ending
  Thrown : Term (List ℕ) → Ending
  Halted : ℤ → Ending
  Spent : Ending
