-- The tree of a row: operands, with operators before, between and behind them (ISO/IEC 13211-1, 6.3.1 and 6.3.4).
use Rattle.std.specs.Prelude.{◌≡◌, ℕ, zero, suc, ◌-◌, ◌==◌, ◌&&◌, ◌||◌, not, nat_lt, nat_le, max, length, Bool, true, false, if◌then◌else◌}
use Rattle.std.specs.Prelude.{List, [], ◌∷◌, Option, Some, None, option_map, option_and_then}
use Rattle.op_logic.specs.Term.{Term, node, no_args, arg}
use Rattle.op_term.specs.Ops.{is_prefix, is_infix, is_postfix, is_y_left, is_y_right}
use Rattle.op_term.specs.declared.ops.OpKind.{OpKind}

-- an operator in a row, with a priority from 1 to 1200; its kind says where it stands and what its operands may be
pub record Operator (N : Type 0) : Type 0 where
  pub name : N
  pub priority : ℕ
  pub kind : OpKind

-- what a row consists of: finished terms as operands, and operators
pub data Member (N : Type 0) : Type 0 where
  operand : Term N → Member N
  operator : Operator N → Member N

-- the members alternate as they must from a place on where an operand is expected, or isn't: prefix operators, an operand, postfix
-- operators, then an infix operator and the same again
abbrev pub alternates : {N : Type 0} → Bool → List (Member N) → Bool
alternates expected [] = not expected
alternates expected (operand t ∷ ps) = expected && alternates false ps
alternates expected (operator o ∷ ps) =
    if is_prefix o.kind then expected && alternates true ps else not expected && alternates (is_infix o.kind) ps

abbrev pub is_row : {N : Type 0} → List (Member N) → Bool
is_row ps = alternates true ps

-- the greatest priority that an operand may have on the left, and on the right
abbrev pub left_bound : {N : Type 0} → Operator N → ℕ
left_bound o = if is_y_left o.kind then o.priority else o.priority - 1

abbrev pub right_bound : {N : Type 0} → Operator N → ℕ
right_bound o = if is_y_right o.kind then o.priority else o.priority - 1

-- the highest priority of an operator in a row; 0 where there is none
abbrev pub top : {N : Type 0} → List (Member N) → ℕ
top [] = 0
top (operand t ∷ ps) = top ps
top (operator o ∷ ps) = max o.priority (top ps)

-- a row that is split at one of its operators
pub record Split (N : Type 0) : Type 0 where
  pub before : List (Member N)
  pub root : Operator N
  pub after : List (Member N)

abbrev pub split_at : {N : Type 0} → List (Member N) → Operator N → List (Member N) → Split N
split_at before root after = record { before = before; root = root; after = after }

abbrev pub behind : {N : Type 0} → Member N → Split N → Split N
behind p s = record { before = p ∷ s.before; root = s.root; after = s.after }

-- at the first operator of a priority from the left
abbrev pub leftmost : {N : Type 0} → ℕ → List (Member N) → Option (Split N)
leftmost n [] = None
leftmost n (operand t ∷ ps) = option_map (behind (operand t)) (leftmost n ps)
leftmost n (operator o ∷ ps) =
    if o.priority == n then Some (split_at [] o ps) else option_map (behind (operator o)) (leftmost n ps)

-- at the last one
abbrev pub rightmost : {N : Type 0} → ℕ → List (Member N) → Option (Split N)
rightmost n [] = None
rightmost n (operand t ∷ ps) = option_map (behind (operand t)) (rightmost n ps)
rightmost n (operator o ∷ ps) =
    elim (rightmost n ps) [
      | Some s ↦ Some (behind (operator o) s)
      | None ↦ if o.priority == n then Some (split_at [] o ps) else None
    ]

-- no operator of the root's priority stands behind it
abbrev pub is_last : {N : Type 0} → Split N → Bool
is_last s = nat_lt (top s.after) s.root.priority

-- the leftmost operator of the highest priority is the root where it is the only one, or is xfy or fy; else the rightmost one is
-- where it is yfx or yf; else there is no root
abbrev pub root_among : {N : Type 0} → Option (Split N) → Option (Split N) → Option (Split N)
root_among (Some l) (Some r) =
    if is_last l || is_y_right l.root.kind then Some l else
    if is_y_left r.root.kind then Some r else None
root_among _ _ = None

abbrev pub root : {N : Type 0} → List (Member N) → Option (Split N)
root ps = root_among (leftmost (top ps) ps) (rightmost (top ps) ps)

abbrev pub is_empty : {N : Type 0} → List (Member N) → Bool
is_empty [] = true
is_empty (p ∷ ps) = false

abbrev pub with_one : {N : Type 0} → N → Term N → Term N
with_one name t = node name (arg t no_args)

abbrev pub with_two : {N : Type 0} → N → Term N → Term N → Term N
with_two name t u = node name (arg t (arg u no_args))

-- the root with the trees of its sides; a prefix root stands first, and a postfix root last
abbrev pub joined : {N : Type 0} → Split N → Option (Term N) → Option (Term N) → Option (Term N)
joined s left right =
    if is_prefix s.root.kind then (if is_empty s.before then option_map (with_one s.root.name) right else None) else
    if is_postfix s.root.kind then (if is_empty s.after then option_map (with_one s.root.name) left else None) else
    option_and_then (λ l. option_map (with_two s.root.name l) right) left

abbrev pub joined_within : {N : Type 0} → ℕ → Split N → Option (Term N) → Option (Term N) → Option (Term N)
joined_within bound s left right = if nat_le s.root.priority bound then joined s left right else None

-- of a row of at most so many members: a single operand, which has priority 0; or the root within the bound, and the two sides in
-- the same way, each within its bound
unfoldable pub tree_of : {N : Type 0} → ℕ → ℕ → List (Member N) → Option (Term N)
tree_of zero bound ps = None
tree_of (suc n) bound (operand t ∷ []) = Some t
tree_of (suc n) bound ps =
    option_and_then
    (λ s. joined_within bound s (tree_of n (left_bound s.root) s.before) (tree_of n (right_bound s.root) s.after))
    (root ps)

-- the tree of a row within a bound; None where the row is refused
abbrev pub tree : {N : Type 0} → ℕ → List (Member N) → Option (Term N)
tree bound ps = tree_of (length ps) bound ps

-- the row is refused within every bound
abbrev pub HasNoTree : List (Member ℕ) → Type 0
HasNoTree ps = (bound : ℕ) → tree bound ps ≡ None
