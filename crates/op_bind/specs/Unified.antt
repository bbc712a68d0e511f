-- What unifying two terms comes to.
use Rattle.std.specs.Prelude.{ℕ, ◌-◌, nat_eq, nat_le, if◌then◌else◌, [], ◌∷◌, Option, Some, None}
use Rattle.op_logic.specs.Term.{Term}
use Rattle.op_logic.specs.Bind.{Solved, unify}
use Rattle.op_bind.specs.State.{State, bindings}

-- two terms that are unified, with so many steps left: the bindings and the steps that are left then
abbrev pub unified : ℕ → State → Term ℕ → Term ℕ → Option (Solved ℕ)
unified left s a b = unify nat_eq left (bindings s) ((a, b) ∷ [])

-- the same, and a step for each of n variables where there is a unifier
abbrev pub with_variables : ℕ → Option (Solved ℕ) → Option (Solved ℕ)
with_variables n None = None
with_variables n (Some (None, left)) = Some (None, left)
with_variables n (Some (Some σ, left)) = if nat_le n left then Some (Some σ, left - n) else None
