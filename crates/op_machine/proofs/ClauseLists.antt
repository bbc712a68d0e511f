-- Clauses from one on.
use Rattle.std.proofs.Common.{◌≡◌, ℕ, zero, suc, ◌<◌, ◌≤◌, List, [], ◌∷◌, length, get_or, refl, sym, ap, ◌∙◌, arith}
use Rattle.op_bind.specs.declared.places.Clause.{Clause as NumberedClause}
use Rattle.op_trace.specs.Database.{Clause}
use Rattle.op_trace.specs.Visit as visit
use Rattle.op_store.specs.Stored.{Stored}
use Rattle.op_machine.specs.declared.core_state.Core.{Core}
use Rattle.op_machine.specs.Program.{clauses_from, clause_in}
use Rattle.op_machine.specs.Meaning.{items_now, goal_now, bindings_now}
use Rattle.op_machine.specs.Resume.{with_more}

-- one of them is the first of those from its place on
pub clauses_from-here : (t : Stored) (snapshot : List NumberedClause) (i : ℕ) (r : NumberedClause) → i < length snapshot → r
    ≡ get_or snapshot i r → clauses_from t snapshot i ≡ clause_in t r ∷ clauses_from t snapshot (suc i)
clauses_from-here t [] i r h e = absurd (omega arith)
clauses_from-here t (q ∷ rs) zero r h e = ap (λ (x : NumberedClause). clause_in t x ∷ clauses_from t rs 0) (sym e)
clauses_from-here t (q ∷ rs) (suc i) r h e = clauses_from-here t rs i r (omega arith) e

pub clauses_from-end : (t : Stored) (snapshot : List NumberedClause) (i : ℕ) → length snapshot ≤ i → clauses_from t snapshot i ≡ []
clauses_from-end t [] zero h = refl
clauses_from-end t [] (suc i) h = refl
clauses_from-end t (q ∷ rs) zero h = absurd (omega arith)
clauses_from-end t (q ∷ rs) (suc i) h = clauses_from-end t rs i (omega arith)

-- where some are left, they are
pub clauses_from-some : (t : Stored) (snapshot : List NumberedClause) (i : ℕ) → i < length snapshot → (c : Clause)
    × ((cs : List Clause) × (clauses_from t snapshot i ≡ c ∷ cs))
clauses_from-some t [] i h = absurd (omega arith)
clauses_from-some t (q ∷ rs) zero h = (clause_in t q, (clauses_from t rs 0, refl))
clauses_from-some t (q ∷ rs) (suc i) h = clauses_from-some t rs i (omega arith)

-- those that are left are a choice point
pub with_more-here : (c : Core) (snapshot : List NumberedClause) (i k g n : ℕ) (K : List visit.Choice) → i < length snapshot
    → with_more (clauses_from c.store snapshot i) k (goal_now c g) (bindings_now c) (items_now c n) K
    ≡ visit.More (clauses_from c.store snapshot i) k (goal_now c g) (bindings_now c) (items_now c n) ∷ K
with_more-here c snapshot i k g n K h =
    let some = clauses_from-some c.store snapshot i h in
    ap (λ (x : List Clause). with_more x k (goal_now c g) (bindings_now c) (items_now c n) K) some.1.1
    ∙ ap (λ (x : List Clause). visit.More x k (goal_now c g) (bindings_now c) (items_now c n) ∷ K) (sym some.1.1)

-- and none past the last
pub with_more-end : (c : Core) (snapshot : List NumberedClause) (i k g n : ℕ) (K : List visit.Choice) → length snapshot ≤ i
    → with_more (clauses_from c.store snapshot i) k (goal_now c g) (bindings_now c) (items_now c n) K ≡ K
with_more-end c snapshot i k g n K h =
    ap (λ (x : List Clause). with_more x k (goal_now c g) (bindings_now c) (items_now c n) K) (clauses_from-end c.store snapshot i h)
