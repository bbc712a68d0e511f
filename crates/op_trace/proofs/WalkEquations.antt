-- Fuel doesn't matter: the walk has one equation, by its rows.
use Rattle.std.proofs.Common.{◌≡◌, ℕ, zero, suc, ◌+◌, ◌-◌, ◌≤◌, ◌<◌, nat_le, Bool, true, false, List, [], ◌∷◌, Option, Some, None, refl, ap}
use Rattle.std.proofs.Common.{◌∙◌, arith}
use Rattle.std.proofs.lemmas.Bool.Decides.{nat_tests}
use Rattle.op_logic.specs.Term.{Term, shift}
use Rattle.op_logic.specs.Bind.{Bindings, Solved as Result, solve, unify}
use Rattle.op_trace.specs.declared.port.Port.TheVariants as port
use Rattle.op_trace.specs.declared.barrier.Barrier.{Barrier}
use Rattle.op_trace.specs.declared.barrier.Barrier.TheVariants.{Call, InCondition, AtSuccess}
use Rattle.op_trace.specs.Database.{Text, text_eq, Clause}
use Rattle.op_trace.specs.World.{World, same_barrier, Execution, Recovery, Item, Goal, Cut, Exit, Execute, Shown}
use Rattle.op_trace.specs.Act.{Yield, Fails, Succeeds, Succeeds_again, Runs, Throws, Halts, Act, Setup}
use Rattle.op_trace.specs.Visit.{counted_as, acts, Inside, Clauses, WithoutProcedure, Protected, inside, Again, Catch}
use Rattle.op_trace.specs.Visit.{on_end, is_open, around, fails, catcher_of, ends, caught, catches, last_choice}
use Rattle.op_trace.specs.Visit.{executes_again, entered_box, exits, yields}
use Rattle.op_trace.specs.Visit.{Verdict, Failed, CutTo, Thrown, Stopped, Halted, Spent, Visited, gives, with_turns}
use Rattle.op_trace.specs.Visit.{and_then, on_failed, reaches, selects, control}
use Rattle.op_trace.specs.Visit.{on_condition, cut, with_event, event_of, pays, spends, Control, TrueGoal, FailGoal, CutGoal, Conjunction}
use Rattle.op_trace.specs.Visit.{Disjunction, IfThenElse, BoxedGoal, Visitor, Choice, Redo, Branch, More, Fail, Condition, matched}
use Rattle.op_trace.specs.Visit.{try_clause, alternatives, branches, after, boxed, selected, visit_with, visit_by, visit}
use Rattle.op_trace.proofs.WalkSteps.{VisitsLater, Later, IsLess, within-less, try_clause-later, RestLater, exits-later, visit_with-later}
use Rattle.op_trace.proofs.WalkSteps.{visit_by-later, entered_box-later}

-- two visitors that agree wherever more than n steps were made, and no more than b
abbrev pub Agree : ℕ → ℕ → Visitor → Visitor → Type 0
Agree b n f g = (I : List Item) (σ : Bindings Text) (w : World) → n < w.steps → w.steps ≤ b → f I σ w ≡ g I σ w

pub pays-same : (t : Bool) (s : Setup) (n : ℕ) (w : World) (h i : World → Visited) → nat_le (w.steps + n) s.budget ≡ t
    → (w.steps + n ≤ s.budget → h (record w { steps = w.steps + n }) ≡ i (record w { steps = w.steps + n }))
    → pays t s n w h ≡ pays t s n w i
pays-same true s n w h i test e = let fits : w.steps + n ≤ s.budget = grind (arith, nat_tests) in e fits
pays-same false s n w h i test e = refl

pub spends-same : (s : Setup) (n : ℕ) (w : World) (h i : World → Visited)
    → (w.steps + n ≤ s.budget → h (record w { steps = w.steps + n }) ≡ i (record w { steps = w.steps + n }))
    → spends s n w h ≡ spends s n w i
spends-same s n w h i e = pays-same (nat_le (w.steps + n) s.budget) s n w h i refl e

pub acts-same : (t : Bool) (s : Setup) (a : Act) (w : World) (h i : Yield → World → Visited) → nat_le (w.steps + a.cost) s.budget ≡ t
    → ((u : World) → w.steps ≤ u.steps → u.steps ≤ s.budget → h a.yield u ≡ i a.yield u)
    → acts t s a w h ≡ acts t s a w i
acts-same true s a w h i test e =
    let fits : w.steps + a.cost ≤ s.budget = grind (arith, nat_tests) in
    e (record (counted_as w a.after) { steps = w.steps + a.cost }) (omega arith) fits
acts-same false s a w h i test e = refl

pub on_failed-same : (h i : World → Visited) (r : Verdict) (w : World) → h w ≡ i w → on_failed h r w ≡ on_failed i r w
on_failed-same h i Failed w e = e
on_failed-same h i (CutTo m) w e = refl
on_failed-same h i (Thrown b o) w e = refl
on_failed-same h i Stopped w e = refl
on_failed-same h i (Halted x) w e = refl
on_failed-same h i Spent w e = refl

pub reaches-same : (t : Bool) (h i k : World → Visited) (w : World) → h w ≡ i w → reaches t h k w ≡ reaches t i k w
reaches-same true h i k w e = e
reaches-same false h i k w e = refl

pub on_end-same : (k : ℕ) (h : World → Visited) (i j : Term Text → List ℕ → World → Visited) (r : Verdict) (w : World)
    → ((b : Term Text) (o : List ℕ) → i b o w ≡ j b o w) → on_end k h i r w ≡ on_end k h j r w
on_end-same k h i j Failed w e = refl
on_end-same k h i j (CutTo m) w e = refl
on_end-same k h i j (Thrown b o) w e =
    reaches-same (is_open k o) (i b (around k o)) (j b (around k o)) (gives (Thrown b o)) w (e b (around k o))
on_end-same k h i j Stopped w e = refl
on_end-same k h i j (Halted x) w e = refl
on_end-same k h i j Spent w e = refl

pub on_condition-same : (n : ℕ) (h i : World → Visited) (r : Verdict) (w : World) → h w ≡ i w → on_condition n h r w ≡ on_condition n i r w
on_condition-same n h i Failed w e = e
on_condition-same n h i (CutTo m) w e =
    reaches-same (same_barrier m (InCondition n)) h i (reaches (same_barrier m (AtSuccess n)) (gives Failed) (gives (CutTo m))) w e
on_condition-same n h i (Thrown b o) w e = refl
on_condition-same n h i Stopped w e = refl
on_condition-same n h i (Halted x) w e = refl
on_condition-same n h i Spent w e = refl

pub and_then-same : (v u : Visited) (h i : Verdict → World → Visited) → v ≡ u → h v.verdict v.world ≡ i v.verdict v.world
    → and_then v h ≡ and_then u i
and_then-same v u h i e k = ap (with_turns v.turns) k ∙ ap (λ (x : Visited). and_then x i) e

module _ (f g : Visitor) (s : Setup) (n : ℕ) (agree : Agree s.budget n f g) (later : VisitsLater s.budget f) where
  pub matched-same : (c : Clause) (k : ℕ) (t : Term Text) (J : List Item) (w : World) (o : Option (Result Text))
      → n < w.steps → w.steps ≤ s.budget → IsLess (s.budget - w.steps) o → matched f s c k t J w o ≡ matched g s c k t J w o
  matched-same c k t J w None low high less = refl
  matched-same c k t J w (Some (None, left)) low high less = refl
  matched-same c k t J w (Some (Some τ, left)) low high less =
      spends-same s c.variables (record w { steps = s.budget - left }) _ _ (λ fits. agree _ _ _ (omega arith) fits)

  pub try_clause-same : (c : Clause) (k : ℕ) (t : Term Text) (σ : Bindings Text) (J : List Item) (w : World)
      → n ≤ w.steps → w.steps ≤ s.budget → try_clause f s c k t σ J w ≡ try_clause g s c k t σ J w
  try_clause-same c k t σ J w low high =
      spends-same s 1 w _ _ (λ fits. matched-same c k t J (record w { steps = w.steps + 1 }) _ (omega arith) fits
      (within-less {A = Option (Bindings Text)} (s.budget - (w.steps + 1)) (solve text_eq (s.budget - (w.steps + 1)) σ
      ((t, shift {N = Text} w.variables c.head) ∷ []))))

  pub alternatives-same : (cs : List Clause) (k : ℕ) (t : Term Text) (σ : Bindings Text) (J : List Item) (r : Verdict) (w : World)
      → n ≤ w.steps → w.steps ≤ s.budget → alternatives f s cs k t σ J r w ≡ alternatives g s cs k t σ J r w
  alternatives-same [] k t σ J r w low high = refl
  alternatives-same (c ∷ cs) k t σ J r w low high =
      let tried : Later s.budget w.steps (try_clause f s c k t σ J w) = try_clause-later f s c k t σ J w later high in
      on_failed-same _ _ r w (and_then-same (try_clause f s c k t σ J w) (try_clause g s c k t σ J w) (alternatives f s cs k t σ J)
      (alternatives g s cs k t σ J) (try_clause-same c k t σ J w low high)
      (alternatives-same cs k t σ J (try_clause f s c k t σ J w).verdict (try_clause f s c k t σ J w).world (omega (arith, tried.0))
      tried.1))

  pub branches-same : (t : Term Text) (m : Barrier) (σ : Bindings Text) (J : List Item) (w : World)
      → n ≤ w.steps → w.steps ≤ s.budget → branches f s t m σ J w ≡ branches g s t m σ J w
  branches-same t m σ J w low high = spends-same s 1 w (f (Goal t m ∷ J) σ) (g (Goal t m ∷ J) σ) (λ fits. agree _ _ _ (omega arith) fits)

  pub again-same : (t : Execution) (k : ℕ) (x : Term Text) (σ : Bindings Text) (J : List Item) (w : World)
      → n ≤ w.steps → w.steps ≤ s.budget → executes_again f s t k x σ J w ≡ executes_again g s t k x σ J w
  again-same t k x σ J w low high =
      spends-same s 1 w (f (Execute t k x ∷ J) σ) (g (Execute t k x ∷ J) σ) (λ fits. agree _ _ _ (omega arith) fits)

  pub caught-same : (k : ℕ) (t : Term Text) (σ : Bindings Text) (J : List Item) (b : Term Text) (o : List ℕ) (w : World)
      (q : Option (Result Text))
      → n ≤ w.steps → w.steps ≤ s.budget → IsLess (s.budget - w.steps) q → caught f s k t σ J b o w q ≡ caught g s k t σ J b o w q
  caught-same k t σ J b o w None low high less = refl
  caught-same k t σ J b o w (Some (None, left)) low high less = refl
  caught-same k t σ J b o w (Some (Some τ, left)) low high less =
      let u : World = record w { steps = s.budget - left } in
      let up : n ≤ s.budget - left = omega arith in
      let in_budget : s.budget - left ≤ s.budget = omega arith in
      and_then-same (executes_again f s Recovery k t τ J u) (executes_again g s Recovery k t τ J u) (ends k t σ J) (ends k t σ J)
      (again-same Recovery k t τ J u up in_budget) refl

  pub catches-same : (k : ℕ) (t : Term Text) (σ : Bindings Text) (J : List Item) (b : Term Text) (o : List ℕ) (w : World)
      → n ≤ w.steps → w.steps ≤ s.budget → catches f s k t σ J b o w ≡ catches g s k t σ J b o w
  catches-same k t σ J b o w low high =
      caught-same k t σ J b o w (unify text_eq (s.budget - w.steps) σ ((b, catcher_of t) ∷ [])) low high
      (within-less {A = Option (Bindings Text)} (s.budget - w.steps) (solve text_eq (s.budget - w.steps) σ ((b, catcher_of t) ∷ [])))

  pub after-same : (c : Choice) (r : Verdict) (w : World) → n ≤ w.steps → w.steps ≤ s.budget → after f s c r w ≡ after g s c r w
  after-same (Redo k t σ J) r w low high = refl
  after-same (More cs k t σ J) r w low high = alternatives-same cs k t σ J r w low high
  after-same (Branch t m σ J) r w low high =
      on_failed-same (branches f s t m σ J) (branches g s t m σ J) r w (branches-same t m σ J w low high)
  after-same (Again t k x σ J) r w low high =
      on_failed-same (executes_again f s t k x σ J) (executes_again g s t k x σ J) r w (again-same t k x σ J w low high)
  after-same (Fail k t σ J) r w low high = refl
  after-same (Catch k t σ J) r w low high =
      on_end-same k (fails k t σ J) (catches f s k t σ J) (catches g s k t σ J) r w (λ b o. catches-same k t σ J b o w low high)
  after-same (Condition c t m σ J) r w low high =
      on_condition-same c (branches f s t m σ J) (branches g s t m σ J) r w (branches-same t m σ J w low high)

  -- the walks of the same items, and then the same choice point
  pub chosen-same : (I : List Item) (c : Choice) (σ : Bindings Text) (w : World) → n < w.steps → w.steps ≤ s.budget
      → and_then (f I σ w) (after f s c) ≡ and_then (g I σ w) (after g s c)
  chosen-same I c σ w low high =
      let inner : Later s.budget w.steps (f I σ w) = later I σ w high in
      and_then-same (f I σ w) (g I σ w) (after f s c) (after g s c) (agree I σ w low high)
      (after-same c (f I σ w).verdict (f I σ w).world (omega (arith, inner.0)) inner.1)

  pub entered_box-same : (i : Inside) (k : ℕ) (t : Term Text) (σ : Bindings Text) (J : List Item) (w : World)
      → n < w.steps → w.steps ≤ s.budget → entered_box f s i k t σ J w ≡ entered_box g s i k t σ J w
  entered_box-same (Clauses cs) k t σ J w low high = alternatives-same cs k t σ J Failed w (omega arith) high
  entered_box-same WithoutProcedure k t σ J w low high = agree _ _ _ low high
  entered_box-same Protected k t σ J w low high = agree _ _ _ low high

  pub boxed-same : (t : Term Text) (J : List Item) (σ : Bindings Text) (w : World) → n < w.steps → w.steps ≤ s.budget
      → boxed f s t J σ w ≡ boxed g s t J σ w
  boxed-same t J σ w low high =
      let k : ℕ = w.calls + 1 in
      let u : World = with_event (record w { calls = k }) in
      let i : Inside = inside w.database t in
      let v : Visited = entered_box f s i k t σ J u in
      let inner : Later s.budget w.steps v = entered_box-later f s i k t σ J u later high in
      ap (with_turns (Shown (event_of port.Call k t σ J (record w { calls = k })) u ∷ []))
      (and_then-same v (entered_box g s i k t σ J u) (after f s (last_choice i k t σ J)) (after g s (last_choice i k t σ J))
      (entered_box-same i k t σ J u low high)
      (after-same (last_choice i k t σ J) v.verdict v.world (omega (arith, inner.0)) inner.1))

  -- two walks of the rest of some items, from any bindings
  abbrev pub RestsAgree : (Bindings Text → World → Visited) → (Bindings Text → World → Visited) → Type 0
  RestsAgree p q = (σ : Bindings Text) (w : World) → n ≤ w.steps → w.steps ≤ s.budget → p σ w ≡ q σ w

  pub exits-same : (p q : Bindings Text → World → Visited) (k : ℕ) (t : Term Text) (J : List Item) (σ : Bindings Text) (w : World)
      → RestsAgree p q → RestLater s.budget p → n ≤ w.steps → w.steps ≤ s.budget → exits f s p k t J σ w ≡ exits g s q k t J σ w
  exits-same p q k t J σ w same lp low high =
      let inner : Later s.budget w.steps (p σ (with_event w)) = lp σ (with_event w) high in
      ap (with_turns (Shown (event_of port.Exit k t σ J w) (with_event w) ∷ []))
      (and_then-same (p σ (with_event w)) (q σ (with_event w)) (after f s (Redo k t σ J)) (after g s (Redo k t σ J))
      (same σ (with_event w) low high) refl)

  pub selected-same : (q : Control) (t : Term Text) (m : Barrier) (J : List Item) (σ : Bindings Text) (w : World)
      → n < w.steps → w.steps ≤ s.budget → selected f s q t m J σ w ≡ selected g s q t m J σ w
  selected-same TrueGoal t m J σ w low high = agree _ _ _ low high
  selected-same FailGoal t m J σ w low high = refl
  selected-same CutGoal t m J σ w low high = ap (λ (x : Visited). and_then x (cut m)) (agree J σ w low high)
  selected-same (Conjunction a b) t m J σ w low high = agree _ _ _ low high
  selected-same (Disjunction a b) t m J σ w low high = chosen-same (Goal a m ∷ J) (Branch b m σ J) σ w low high
  selected-same (IfThenElse c a b) t m J σ w low high =
      chosen-same (Goal c (InCondition (w.conditions + 1)) ∷ Cut (AtSuccess (w.conditions + 1)) ∷ Goal a m ∷ J)
      (Condition (w.conditions + 1) b m σ J) σ
      (record w { conditions = w.conditions + 1 }) low high
  selected-same BoxedGoal t m J σ w low high = boxed-same t J σ w low high

  pub selects-same : (t : Term Text) (m : Barrier) (J : List Item) (σ : Bindings Text) (w : World)
      → n ≤ w.steps → w.steps ≤ s.budget → selects f s t m J σ w ≡ selects g s t m J σ w
  selects-same t m J σ w low high =
      spends-same s 1 w _ _ (λ fits. selected-same (control t) t m J σ (record w { steps = w.steps + 1 }) (omega arith) fits)

  pub yields-same : (p q : Bindings Text → World → Visited) (k : ℕ) (t : Term Text) (J : List Item) (σ : Bindings Text) (y : Yield)
      (w : World)
      → RestsAgree p q → RestLater s.budget p → n ≤ w.steps → w.steps ≤ s.budget → yields f s p k t J σ y w ≡ yields g s q k t J σ y w
  yields-same p q k t J σ Fails w same lp low high = refl
  yields-same p q k t J σ (Succeeds τ) w same lp low high = exits-same p q k t J τ w same lp low high
  yields-same p q k t J σ (Succeeds_again τ x) w same lp low high =
      let inner : Later s.budget w.steps (exits f s p k t J τ w) = exits-later f s p k t J τ w later lp high in
      and_then-same (exits f s p k t J τ w) (exits g s q k t J τ w) (after f s (Again x k t σ J)) (after g s (Again x k t σ J))
      (exits-same p q k t J τ w same lp low high)
      (after-same (Again x k t σ J) (exits f s p k t J τ w).verdict (exits f s p k t J τ w).world (omega (arith, inner.0)) inner.1)
  yields-same p q k t J σ (Runs b) w same lp low high = selects-same b (Call k) (Exit k t ∷ J) σ w low high
  yields-same p q k t J σ (Throws b) w same lp low high = refl
  yields-same p q k t J σ (Halts x) w same lp low high = refl

  pub visit_with-same : (I : List Item) (σ : Bindings Text) (w : World) → n ≤ w.steps → w.steps ≤ s.budget
      → visit_with f s I σ w ≡ visit_with g s I σ w
  unfolding visit_with
  visit_with-same [] σ w low high = refl
  visit_with-same (Exit k t ∷ J) σ w low high =
      exits-same (visit_with f s J) (visit_with g s J) k t J σ w (visit_with-same J) (visit_with-later f s later J) low high
  visit_with-same (Cut m ∷ J) σ w low high = ap (λ (x : Visited). and_then x (cut m)) (visit_with-same J σ w low high)
  visit_with-same (Execute x k t ∷ J) σ w low high =
      let a : Act = s.act (s.budget - w.steps) x t σ w in
      acts-same (nat_le (w.steps + a.cost) s.budget) s a w (yields f s (visit_with f s J) k t J σ)
      (yields g s (visit_with g s J) k t J σ) refl
      (λ u l h. yields-same (visit_with f s J) (visit_with g s J) k t J σ a.yield u (visit_with-same J)
      (visit_with-later f s later J) (omega (arith, l)) h)
  visit_with-same (Goal t m ∷ J) σ w low high = selects-same t m J σ w low high

-- more fuel than steps are left gives the same
pub visit_by-same : (f g : ℕ) (s : Setup) (I : List Item) (σ : Bindings Text) (w : World)
    → w.steps ≤ s.budget → s.budget - w.steps < f → s.budget - w.steps < g → visit_by f s I σ w ≡ visit_by g s I σ w
unfolding visit_by
visit_by-same zero g s I σ w below a b = absurd (omega arith)
visit_by-same (suc f) zero s I σ w below a b = absurd (omega arith)
visit_by-same (suc f) (suc g) s I σ w below a b =
    visit_with-same (visit_by f s) (visit_by g s) s w.steps (λ I τ u low high. visit_by-same f g s I τ u high (omega arith) (omega arith))
    (visit_by-later f s) I σ w (omega arith) below

-- the walk, by its rows
pub visit_equations : (s : Setup) (I : List Item) (σ : Bindings Text) (w : World) → w.steps ≤ s.budget
    → visit s I σ w ≡ visit_with (visit s) s I σ w
unfolding visit visit_by
visit_equations s I σ w below =
    visit_with-same (visit_by (s.budget - w.steps) s) (visit s) s w.steps
    (λ I τ u low high. visit_by-same (s.budget - w.steps) (suc (s.budget - u.steps)) s I τ u high (omega arith) (omega arith))
    (visit_by-later (s.budget - w.steps) s) I σ w (omega arith) below
