-- The state of a row that is taken from the left: what is known of its members so far.
use Rattle.std.specs.Prelude.{◌≡◌, ◌<◌, ℕ, map, Bool, true, false, if◌then◌else◌, List, [], ◌∷◌, ◌++◌, Option, Some, None, option_map}
use Rattle.std.specs.Option.{MatchOption, IfSome}
use Rattle.op_logic.specs.Term.{Term}
use Rattle.op_term.specs.Places.{term_at}
use Rattle.op_term.specs.declared.ops.Meaning.{Meaning}
use Rattle.op_reader.specs.Row.{Member, operand, Operator, tree}
use Rattle.op_reader.specs.inner.Spine.{Arm, Spine, spine}
use Rattle.op_reader.specs.declared.row.Branch.{Branch}
use Rattle.op_reader.specs.declared.row.Part.{Part}

-- the operators down the right side of the tree so far, each with its left operand's node; the finished part at the lower end,
-- unless an operand comes next; and whether the row is refused, for good
pub record RowState : Type 0 where
  pub branches : List Branch
  pub last : Option Part
  pub is_refused : Bool

-- no members
abbrev pub no_members : RowState
no_members = record { branches = []; last = None; is_refused = false }

-- whether an operand comes next; else an operator, or the end
abbrev pub expects_operand : RowState → Bool
expects_operand row = elim row.last [ None ↦ true | Some part ↦ false ]

abbrev pub operator_of : ℕ → Meaning → Operator ℕ
operator_of name meaning = record { name = name; priority = meaning.priority; kind = meaning.kind }

-- with the terms at the nodes' numbers
abbrev pub arm_of : List (Term ℕ) → Branch → Arm ℕ
arm_of ts b = record { op = operator_of b.name.0 b.meaning; left = option_map (term_at ts) b.left }

abbrev pub row_spine : List (Term ℕ) → RowState → Term ℕ → ℕ → Option (Spine ℕ)
row_spine ts row t priority =
    if row.is_refused then None else Some (record { arms = map (arm_of ts) row.branches; last = t; priority = priority })

-- the members so far are these: where an operator comes next, the state is their spine; where an operand comes next, it is
-- their spine with whichever operand
abbrev pub Stands : List (Term ℕ) → List (Member ℕ) → RowState → Type 0
Stands ts ps row =
    MatchOption row.last
    ((t : Term ℕ) → spine (ps ++ operand t ∷ []) ≡ row_spine ts row t 0)
    (λ part. spine ps ≡ row_spine ts row (term_at ts part.node) part.priority)

-- each node of the state is below n
abbrev pub BranchesBelow : ℕ → List Branch → Type 0
BranchesBelow n [] = Unit {0}
BranchesBelow n (b ∷ bs) = IfSome b.left (λ at. at < n) × BranchesBelow n bs

pub record AreBelow (n : ℕ) (row : RowState) : Type 0 where
  pub branches : BranchesBelow n row.branches
  pub last : IfSome row.last (λ part. part.node < n)

-- a node with the row's tree, or none where the row is refused
abbrev pub IsTreeOf : List (Term ℕ) → ℕ → List (Member ℕ) → Option ℕ → Type 0
IsTreeOf ts bound ps found = tree bound ps ≡ option_map (term_at ts) found
