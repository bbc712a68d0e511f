-- A clause's head is unified: what its unification leads to.
use Rattle.std.proofs.Common.{◌≡◌, ℕ, ◌+◌, ◌-◌, ◌<◌, ◌≤◌, nat_eq, nat_le, Bool, true, false, List, [], ◌∷◌, length, reverse, Option, Some}
use Rattle.std.proofs.Common.{None, refl, sym, ap, ◌∙◌, subst, arith, if◌then◌else◌}
use Rattle.std.proofs.lemmas.Bool.Decides.{nat_tests}
use Rattle.op_logic.specs.Term.{Term, shift}
use Rattle.op_logic.specs.Bind.{Bindings, Solved, solve, unify}
use Rattle.op_logic.specs.Laws.{rename_solved}
use Rattle.op_logic.specs.Names.{name_at, IsTable, HaveNames}
use Rattle.op_logic.proofs.ShiftedTerms.{shift-names}
use Rattle.op_term.specs.Places.{term_at}
use Rattle.op_bind.specs.State as bind
use Rattle.op_bind.specs.State.{bindings}
use Rattle.op_bind.specs.Grown.{Grows}
use Rattle.op_bind.specs.Unified.{unified, with_variables}
use Rattle.op_trace.specs.declared.barrier.Barrier.TheVariants.{Call}
use Rattle.op_trace.specs.World as world
use Rattle.op_trace.specs.Database.{Text, text_eq, Clause}
use Rattle.op_trace.specs.World.{World}
use Rattle.op_trace.specs.Visit as visit
use Rattle.op_trace.specs.Visit.{is_true, entered}
use Rattle.op_trace.proofs.WalkSteps.{IsLess, within-less}
use Rattle.op_machine.specs.declared.core_state.Core.{Core}
use Rattle.op_machine.specs.declared.core_state.Mode.TheVariants as mode
use Rattle.op_machine.specs.declared.core_state.Outcome.TheVariants as outcome
use Rattle.op_machine.specs.declared.core_state.Step.TheVariants as step
use Rattle.op_bind.specs.declared.places.Clause.{Clause as NumberedClause}
use Rattle.op_machine.specs.Program.{clause_in, goal_named, IsKnown}
use Rattle.op_machine.specs.Meaning.{setup_of, world_in, level_in, level_of, items_now, goal_now, bindings_now, choice_points_in}
use Rattle.op_machine.specs.inner.Invariant.{IsGood, IsBall, HasGoal, HasItems}
use Rattle.op_inspect.proofs.CopiedVariables.{within-more}
use Rattle.op_machine.specs.inner.Moves.{Advances, clause_unified, head_unifier, body_entered, body_before}
use Rattle.op_machine.specs.Resume.{Forward, Backward, Over, Moved, silent, head_unified}
use Rattle.op_machine.proofs.LevelLaws.{Rises, rises-bindings, choice_points-rise, frames-rise, term-rises, items_in-rise, values-rise}
use Rattle.op_machine.proofs.LevelLaws.{failure-rises, level-bindings}
use Rattle.op_machine.proofs.NamedTerms.{shift-named, is_true-shift, unified-named, found, nothing, found-names}
use Rattle.op_machine.proofs.StepLaws.{pay-yes, pay-no}
use Rattle.op_machine.proofs.AdvanceLaws.{silent-advances}

-- what the goal and the head of a clause come to, over numbers
abbrev pub numbered_unifier : Core → NumberedClause → ℕ → Option (Solved ℕ)
numbered_unifier c r g = unified (c.budget - c.steps) c.bindings (term_at c.bindings.terms g) (shift c.bindings.count r.head)

pub numbered-unifier : (c : Core) (r : NumberedClause) (g : ℕ) → IsTable c.store.names → head_unifier c r g
    ≡ rename_solved (name_at c.store.names) (numbered_unifier c r g)
numbered-unifier c r g table =
    ap (λ (x : Term Text). unify text_eq (c.budget - c.steps) (bindings_now c) ((goal_now c g, x) ∷ []))
    (sym (shift-named c.store c.bindings.count r.head))
    ∙ unified-named c.store (c.budget - c.steps) c.bindings (term_at c.bindings.terms g) (shift c.bindings.count r.head) table

-- no more steps are left than there were
pub unifier-less : (c : Core) (r : NumberedClause) (g : ℕ) → IsLess (c.budget - c.steps) (numbered_unifier c r g)
unifier-less c r g =
    within-less {A = Option (Bindings ℕ)} (c.budget - c.steps)
    (solve nat_eq (c.budget - c.steps) (bindings c.bindings)
    ((term_at c.bindings.terms g, shift {N = ℕ} c.bindings.count r.head) ∷ []))

pub found-less : (c : Core) (r : NumberedClause) (g left : ℕ) (o : Option (Bindings ℕ)) → numbered_unifier c r g ≡ Some (o, left)
    → left ≤ c.budget - c.steps
found-less c r g left o e = subst (IsLess (c.budget - c.steps)) e (unifier-less c r g)

-- a machine with further bindings
abbrev pub bound_on : Core → bind.State → ℕ → Core
bound_on c s steps = record c { bindings = s; steps = steps }

pub bound-rises : (c : Core) (s : bind.State) → Grows c.bindings s → Rises (level_in c) (level_of s c.continuations)
bound-rises c s g = rises-bindings c.bindings s c.continuations g

-- more variables were given out
pub ball-more : (n v w : ℕ) (b : Option (Term ℕ)) → v ≤ w → IsBall n v b → IsBall n w b
ball-more n v w None h a = tt
ball-more n v w (Some b) h a = (a.0, within-more v w h b a.1)

pub bound-good : (c : Core) (s : bind.State) (steps : ℕ) → IsGood c → Grows c.bindings s → HaveNames (length c.store.names) (bindings s)
    → IsGood (bound_on c s steps)
bound-good c s steps good g names = record {
  level = level-bindings c.store c.floor.terms c.bindings s c.continuations g names good.level;
  frames = frames-rise c.store c.floor.terms (level_in c) (level_of s c.continuations) (reverse c.frames.choices) (bound-rises c s g)
      good.frames;
  mode = good.mode;
  values = values-rise c.floor.terms (level_in c) (level_of s c.continuations) c.values.items c.names (bound-rises c s g)
      good.level.floor_there good.values;
  failure = failure-rises c.floor.terms (level_in c) (level_of s c.continuations) c.failure (bound-rises c s g)
      good.level.floor_there good.failure;
  ball = ball-more (length c.store.names) c.bindings.count s.count c.ball g.count good.ball;
  boxes = good.boxes;
  boxed = good.boxed;
}

pub bound-names : (c : Core) (r : NumberedClause) (g after : ℕ) (s : bind.State) → IsGood c
    → HasGoal c g → IsKnown (length c.store.names) r
    → numbered_unifier c r g ≡ Some (found (bindings s) after) → HaveNames (length c.store.names) (bindings s)
bound-names c r g after s good goal clause e =
    found-names (length c.store.names) (c.budget - c.steps) c.bindings (term_at c.bindings.terms g) (shift c.bindings.count r.head)
    (bindings s) after
    good.level.bound goal.1 (shift-names (length c.store.names) c.bindings.count r.head clause.1.head_names) e

-- the body that comes next, over texts
abbrev entered_by : Bool → Term Text → ℕ → Term Text → List world.Item → List world.Item
entered_by b t k g J = if b then world.Exit k g ∷ J else world.Goal t (Call k) ∷ world.Exit k g ∷ J

entered-same : (c : Core) (s : bind.State) (r : NumberedClause) (k g b n steps : ℕ) → IsGood c → Grows c.bindings s
    → HasGoal c g → HasItems c n
    → term_at s.terms b ≡ shift c.bindings.count r.body
    → entered c.bindings.count (clause_in c.store r) k (goal_now c g) (items_now c n)
    ≡ body_before (bound_on c s steps) b k (world.Exit k (goal_now (bound_on c s steps) g) ∷ items_now (bound_on c s steps) n)
entered-same c s r k g b n steps good grows goal there value =
    let mid : Core = bound_on c s steps in
    let body : Term Text = (clause_in c.store r).body in
    let is_body : goal_now mid b ≡ shift c.bindings.count body = ap (goal_named c.store) value
    ∙ shift-named c.store c.bindings.count r.body in
    let is_goal : goal_now mid g ≡ goal_now c g = ap (goal_named c.store)
    (term-rises (level_in c) (level_of s c.continuations) g (bound-rises c s grows) goal.0) in
    let is_rest : items_now mid n ≡ items_now c n =
    items_in-rise c.store c.floor.terms (level_in c) (level_of s c.continuations) n (bound-rises c s grows) good.level there in
    ap (λ (x : Bool). entered_by x (shift c.bindings.count body) k (goal_now c g) (items_now c n))
    (sym (ap is_true is_body ∙ is_true-shift c.bindings.count body))
    ∙ (ap (λ (t : Term Text). entered_by (is_true (goal_now mid b)) t k (goal_now c g) (items_now c n)) (sym is_body)
    ∙ (ap (λ (t : Term Text). entered_by (is_true (goal_now mid b)) (goal_now mid b) k t (items_now c n)) (sym is_goal)
    ∙ ap (λ (J : List world.Item). entered_by (is_true (goal_now mid b)) (goal_now mid b) k (goal_now mid g) J) (sym is_rest)))

-- a head that matched: the body is entered, under the bindings that were found
pub head-matches : (c : Core) (s : bind.State) (r : NumberedClause) (k g b n after : ℕ) → IsTable c.store.names → c.steps ≤ c.budget
    → IsGood c → Grows c.bindings s
    → HasGoal c g → HasItems c n
    → numbered_unifier c r g ≡ Some (found (bindings s) (after + r.vars))
    → s.count ≡ c.bindings.count + r.vars
    → term_at s.terms b ≡ shift c.bindings.count r.body
    → clause_unified c r k g n ≡ body_entered (bound_on c s (c.budget - after)) b k g n
head-matches c s r k g b n after table below good grows goal there e count value =
    let vars : ℕ = r.vars in
    let mid : Core = bound_on c s (c.budget - after) in
    let C : Clause = clause_in c.store r in
    let left : after + vars ≤ c.budget - c.steps = found-less c r g (after + vars) (Some (bindings s)) e in
    let w : World = record (world_in c) { steps = c.budget - (after + vars) } in
    let I : List world.Item = entered c.bindings.count C k (goal_now c g) (items_now c n) in
    let h : World → Moved = λ u.
    silent (Forward I (choice_points_in c) (bindings_now mid) (record u { variables = u.variables + vars })) in
    let steps : c.budget - (after + vars) + vars ≡ c.budget - after = omega arith in
    let choices : choice_points_in c ≡ choice_points_in mid =
    sym (choice_points-rise c.store c.floor.terms (level_in c) (level_of s c.continuations) (reverse c.frames.choices)
    (bound-rises c s grows) good.frames) in
    ap (head_unified (setup_of c) C k (goal_now c g) (items_now c n) (choice_points_in c) (world_in c))
    (numbered-unifier c r g table ∙ ap (rename_solved (name_at c.store.names)) e)
    ∙ (pay-yes (setup_of c) vars w h (omega arith)
    ∙ (ap (λ (x : ℕ). silent (Forward I (choice_points_in c) (bindings_now mid)
    (record (world_in c) { steps = x; variables = c.bindings.count + vars }))) steps
    ∙ (ap (λ (x : ℕ). silent (Forward I (choice_points_in c) (bindings_now mid)
    (record (world_in c) { steps = c.budget - after; variables = x }))) (sym count)
    ∙ (ap (λ (J : List world.Item). silent (Forward J (choice_points_in c) (bindings_now mid) (world_in mid)))
    (entered-same c s r k g b n (c.budget - after) good grows goal there value)
    ∙ ap (λ (K : List visit.Choice).
    silent (Forward (body_before mid b k (world.Exit k (goal_now mid g) ∷ items_now mid n)) K (bindings_now mid) (world_in mid)))
    choices))))

-- one that did not match: the machine goes back
pub head-differs : (c : Core) (r : NumberedClause) (k g n after : ℕ) → IsTable c.store.names → numbered_unifier c r g
    ≡ Some (nothing after)
    → clause_unified c r k g n ≡ silent (Backward (choice_points_in c) (record (world_in c) { steps = c.budget - after }))
head-differs c r k g n after table e =
    ap (head_unified (setup_of c) (clause_in c.store r) k (goal_now c g) (items_now c n) (choice_points_in c) (world_in c))
    (numbered-unifier c r g table ∙ ap (rename_solved (name_at c.store.names)) e)

-- one whose steps were not there
pub head-spent : (c : Core) (r : NumberedClause) (k g n : ℕ) → IsTable c.store.names → c.steps ≤ c.budget
    → with_variables r.vars (numbered_unifier c r g) ≡ None
    → clause_unified c r k g n ≡ silent (Over visit.Spent (record (world_in c) { steps = c.budget }))
head-spent c r k g n table below none =
    ap of_unifier (numbered-unifier c r g table) ∙ go (numbered_unifier c r g) (unifier-less c r g) none
  where
    vars : ℕ
    vars = r.vars

    of_unifier : Option (Solved Text) → Moved
    of_unifier o = head_unified (setup_of c) (clause_in c.store r) k (goal_now c g) (items_now c n) (choice_points_in c) (world_in c) o

    unpaid : (σ : Bindings ℕ) (left : ℕ) → left ≤ c.budget - c.steps → (b : Bool) → nat_le vars left ≡ b
        → (if b then Some (found σ (left - vars)) else None) ≡ None
        → of_unifier (rename_solved (name_at c.store.names) (Some (found σ left)))
        ≡ silent (Over visit.Spent (record (world_in c) { steps = c.budget }))
    unpaid σ left less true q f = absurd cc
    unpaid σ left less false q f =
        let short : left < vars = grind (arith, nat_tests) in
        pay-no (setup_of c) vars (record (world_in c) { steps = c.budget - left }) _ (omega arith)

    go : (o : Option (Solved ℕ)) → IsLess (c.budget - c.steps) o → with_variables vars o ≡ None
        → of_unifier (rename_solved (name_at c.store.names) o) ≡ silent (Over visit.Spent (record (world_in c) { steps = c.budget }))
    go None less f = refl
    go (Some (None, left)) less f = absurd cc
    go (Some (Some σ, left)) less f = unpaid σ left less (nat_le vars left) refl f

-- what the machine does then is that move
pub differs-advances : (c : Core) (s : bind.State) (r : NumberedClause) (k g n after left : ℕ) → IsTable c.store.names → IsGood c
    → numbered_unifier c r g ≡ Some (nothing after) → s ≡ c.bindings → left ≡ after
    → Advances c (record c { bindings = s; steps = c.budget - left; mode = mode.Backward }) (clause_unified c r k g n) step.Silent
differs-advances c s r k g n after left table good e kept l =
    subst (λ (b : bind.State). Advances c (record c { bindings = b; steps = c.budget - left; mode = mode.Backward })
    (clause_unified c r k g n) step.Silent) (sym kept)
    (silent-advances c (c.budget - left) mode.Backward (clause_unified c r k g n) good tt
    (head-differs c r k g n after table e
    ∙ ap (λ (x : ℕ). silent (Backward (choice_points_in c) (record (world_in c) { steps = c.budget - x }))) (sym l)))

pub head-spent-advances : (c : Core) (s : bind.State) (r : NumberedClause) (k g n : ℕ) (new : Core) → IsTable c.store.names
    → c.steps ≤ c.budget → IsGood c → with_variables r.vars (numbered_unifier c r g) ≡ None → s ≡ c.bindings
    → new ≡ record c { bindings = s; steps = c.budget; mode = mode.Over outcome.Spent }
    → Advances c new (clause_unified c r k g n) step.Silent
head-spent-advances c s r k g n new table below good e still is =
    subst (λ (x : Core). Advances c x (clause_unified c r k g n) step.Silent) (sym is)
    (subst (λ (b : bind.State). Advances c (record c { bindings = b; steps = c.budget; mode = mode.Over outcome.Spent })
    (clause_unified c r k g n) step.Silent) (sym still)
    (silent-advances c c.budget (mode.Over outcome.Spent) (clause_unified c r k g n) good tt (head-spent c r k g n table below e)))
