-- The state of a row of no members, and of a row while nodes are added.
use Rattle.std.proofs.Common.{◌≡◌, ℕ, ◌<◌, ◌≤◌, List, [], ◌∷◌, ◌++◌, Option, Some, None, length, ap, sym, ◌∙◌, arith}
use Rattle.std.specs.Bool.{if◌then◌else◌}
use Rattle.std.specs.Option.{IfSome, MatchOption}
use Rattle.op_logic.specs.Term.{Term}
use Rattle.op_term.specs.Places.{term_at}
use Rattle.op_reader.specs.Row.{Member, operand}
use Rattle.op_reader.specs.inner.Spine.{Arm, spine}
use Rattle.op_reader.specs.inner.RowState.{RowState, no_members, row_spine, Stands, AreBelow}
use Rattle.op_reader.specs.declared.row.Part.{Part}
use Rattle.op_reader.proofs.Spines.{spine_single}
use Rattle.op_reader.proofs.ClosedSpines.{IsKept, kept_length, kept_term, arms_kept, branches_more}

pub no_members_stand : (ts : List (Term ℕ)) → Stands ts [] no_members
no_members_stand ts = λ t. spine_single 0 t

pub no_members_below : (n : ℕ) → AreBelow n no_members
no_members_below n = record { branches = tt; last = tt }

last_more : (n m : ℕ) → n ≤ m → (o : Option Part) → IfSome o (λ part. part.node < n) → IfSome o (λ part. part.node < m)
last_more n m l None h = tt
last_more n m l (Some part) h = omega (arith, h)

pub below_later : (ts us : List (Term ℕ)) (row : RowState) → IsKept ts us → AreBelow (length ts) row → AreBelow (length us) row
below_later ts us row k h = record {
  branches = branches_more (length ts) (length us) (kept_length ts us k) row.branches h.branches;
  last = last_more (length ts) (length us) (kept_length ts us k) row.last h.last;
}

spine_later : (ts us : List (Term ℕ)) (row : RowState) → IsKept ts us → AreBelow (length ts) row → (t : Term ℕ) (q : ℕ)
    → row_spine ts row t q ≡ row_spine us row t q
spine_later ts us row k h t q =
    ap (λ (arms : List (Arm ℕ)). if row.is_refused then None else Some (record { arms = arms; last = t; priority = q }))
    (arms_kept ts us k row.branches h.branches)

pub stands_later : (ts us : List (Term ℕ)) (ps : List (Member ℕ)) (row : RowState) → IsKept ts us → AreBelow (length ts) row
    → Stands ts ps row → Stands us ps row
stands_later ts us ps row k h s = at row.last h.last s
  where
    at : (o : Option Part) → IfSome o (λ part. part.node < length ts)
        → MatchOption o ((t : Term ℕ) → spine (ps ++ operand t ∷ []) ≡ row_spine ts row t 0) (λ (p : Part). spine ps
        ≡ row_spine ts row (term_at ts p.node) p.priority)
        → MatchOption o ((t : Term ℕ) → spine (ps ++ operand t ∷ []) ≡ row_spine us row t 0) (λ (p : Part). spine ps
        ≡ row_spine us row (term_at us p.node) p.priority)
    at None b f = λ t. f t ∙ spine_later ts us row k h t 0
    at (Some part) b e =
        e ∙ (spine_later ts us row k h (term_at ts part.node) part.priority ∙ ap (λ (t : Term ℕ). row_spine us row t part.priority)
        (sym (kept_term ts us part.node k b)))
