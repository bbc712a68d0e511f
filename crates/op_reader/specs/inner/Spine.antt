-- The right spine of a row's tree: what an operator that is added on the right can change. What is left of it is finished.
use Rattle.std.specs.Prelude.{ℕ, zero, suc, nat_le, length, Option, Some, None, option_map, option_and_then, if◌then◌else◌, List, [], ◌∷◌}
use Rattle.op_logic.specs.Term.{Term}
use Rattle.op_term.specs.Ops.{is_prefix, is_postfix}
use Rattle.op_reader.specs.Row.{Member, operand, Operator, Split, root, is_empty, left_bound, right_bound, with_one, tree_of}

-- an operator whose right operand goes on, with its left operand; a prefix operator has none
pub record Arm (N : Type 0) : Type 0 where
  pub op : Operator N
  pub left : Option (Term N)

-- the operators from the root down, and the finished term at the lower end, with its priority: an operand, or what a postfix
-- operator ends
pub record Spine (N : Type 0) : Type 0 where
  pub arms : List (Arm N)
  pub last : Term N
  pub priority : ℕ

abbrev pub ended : {N : Type 0} → Term N → ℕ → Spine N
ended t priority = record { arms = []; last = t; priority = priority }

-- a spine as the right operand of an operator
abbrev pub under : {N : Type 0} → Operator N → Option (Term N) → Spine N → Spine N
under o left s = record { arms = record { op = o; left = left } ∷ s.arms; last = s.last; priority = s.priority }

abbrev pub arms_priority : {N : Type 0} → List (Arm N) → ℕ → ℕ
arms_priority [] priority = priority
arms_priority (a ∷ arms) priority = a.op.priority

-- the priority of the whole tree
abbrev pub whole_priority : {N : Type 0} → Spine N → ℕ
whole_priority s = arms_priority s.arms s.priority

abbrev pub spine_within : {N : Type 0} → ℕ → Spine N → Option (Spine N)
spine_within bound s = if nat_le (whole_priority s) bound then Some s else None

-- of a row that is split at its root, with the left side's tree and the right side's spine
abbrev pub led : {N : Type 0} → Split N → Option (Term N) → Option (Spine N) → Option (Spine N)
led s left right =
    if is_prefix s.root.kind then (if is_empty s.before then option_map (under s.root None) right else None) else
    if is_postfix s.root.kind then
    (if is_empty s.after then option_map (λ l. ended (with_one s.root.name l) s.root.priority) left else None) else
    option_and_then (λ l. option_map (under s.root (Some l)) right) left

-- of a row of at most so many members
unfoldable pub spine_of : {N : Type 0} → ℕ → List (Member N) → Option (Spine N)
spine_of zero ps = None
spine_of (suc n) (operand t ∷ []) = Some (ended t 0)
spine_of (suc n) ps =
    option_and_then
    (λ s. led s (tree_of n (left_bound s.root) s.before) (option_and_then (spine_within (right_bound s.root)) (spine_of n s.after)))
    (root ps)

-- None where the row has no tree within any bound
abbrev pub spine : {N : Type 0} → List (Member N) → Option (Spine N)
spine ps = spine_of (length ps) ps
