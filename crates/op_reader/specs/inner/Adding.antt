-- How a spine changes where an operator is added on the right of its row.
use Rattle.std.specs.Prelude.{◌≡◌, ◌≤◌, ℕ, nat_lt, nat_le, map, Bool, false, if◌then◌else◌, List, [], ◌∷◌, Option, Some, None, option_map}
use Rattle.op_logic.specs.Term.{Term}
use Rattle.op_term.specs.Places.{term_at}
use Rattle.op_reader.specs.Row.{Operator, left_bound, right_bound, with_one, with_two}
use Rattle.op_reader.specs.inner.Spine.{Arm, Spine, ended, under, arms_priority, whole_priority}
use Rattle.op_reader.specs.inner.RowState.{arm_of, operator_of}
use Rattle.op_reader.specs.declared.row.Branch.{Branch}
use Rattle.op_reader.specs.declared.row.Part.{Part}

-- an operator with its right operand
abbrev pub with_right : {N : Type 0} → Arm N → Term N → Term N
with_right a t = elim a.left [ None ↦ with_one a.op.name t | Some l ↦ with_two a.op.name l t ]

abbrev pub arms_term : {N : Type 0} → List (Arm N) → Term N → Term N
arms_term [] t = t
arms_term (a ∷ arms) t = with_right a (arms_term arms t)

-- the whole tree
abbrev pub whole_term : {N : Type 0} → Spine N → Term N
whole_term s = arms_term s.arms s.last

-- what an infix or postfix operator makes of the tree on its left, where that is within its bound
abbrev pub taken : {N : Type 0} → Operator N → (Term N → Spine N) → Spine N → Option (Spine N)
taken o made s = if nat_le (whole_priority s) (left_bound o) then Some (made (whole_term s)) else None

-- an operator that is added goes down the spine past each operator that it may stand on the right of, and changes what is there
unfoldable pub added : {N : Type 0} → Operator N → (Spine N → Option (Spine N)) → List (Arm N) → Term N → ℕ → Option (Spine N)
added o change [] t priority = change (ended t priority)
added o change (a ∷ arms) t priority =
    if nat_le o.priority (right_bound a.op) then option_map (under a.op a.left) (added o change arms t priority) else
    change (record { arms = a ∷ arms; last = t; priority = priority })

abbrev pub added_to : {N : Type 0} → Operator N → (Spine N → Option (Spine N)) → Spine N → Option (Spine N)
added_to o change s = added o change s.arms s.last s.priority

-- going down, each operator is within what may stand on the right of the one above
abbrev pub AreFalling : {N : Type 0} → List (Arm N) → ℕ → Type 0
AreFalling [] priority = Unit {0}
AreFalling (a ∷ arms) priority = (arms_priority arms priority ≤ right_bound a.op) × AreFalling arms priority

-- two spines are the same to any infix or postfix operator of this priority
pub record IsSameTo {N : Type 0} (priority : ℕ) (s r : Spine N) : Type 0 where
  pub to_added : (o : Operator N) (made : Term N → Spine N) → o.priority ≡ priority
      → added_to o (taken o made) s ≡ added_to o (taken o made) r
  pub falls : AreFalling s.arms s.priority → AreFalling r.arms r.priority

abbrev pub branch_bound : Branch → ℕ
branch_bound b = right_bound (operator_of b.name.0 b.meaning)

-- whether no operator of this priority may stand on the right of the last branch
abbrev pub last_is_below : ℕ → List Branch → Bool
last_is_below priority [] = false
last_is_below priority (b ∷ []) = nat_lt (branch_bound b) priority
last_is_below priority (b ∷ c ∷ bs) = last_is_below priority (c ∷ bs)

abbrev pub spine_at : List (Term ℕ) → List Branch → Part → Spine ℕ
spine_at ts bs part = record { arms = map (arm_of ts) bs; last = term_at ts part.node; priority = part.priority }

-- a part is a branch with its right operand
pub record IsClosed (ts : List (Term ℕ)) (b : Branch) (right : Part) (us : List (Term ℕ)) (part : Part) : Type 0 where
  pub term : term_at us part.node ≡ with_right (arm_of ts b) (term_at ts right.node)
  pub priority : part.priority ≡ b.meaning.priority
