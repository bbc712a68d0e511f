-- A walk cuts to no barrier but those of its items.
use Rattle.std.proofs.Common.{◌≡◌, inl, inr, ◌⊎◌, ℕ, zero, suc, ◌+◌, ◌-◌, ◌==◌, nat_le, Bool, true, false, List, [], ◌∷◌, Option, Some}
use Rattle.std.proofs.Common.{None, refl, sym, subst, ◌∙◌, ap, arith, if◌then◌else◌}
use Rattle.std.proofs.lemmas.Bool.Decides.{nat_tests}
use Rattle.op_logic.specs.Term.{Term, shift}
use Rattle.op_logic.specs.Bind.{Bindings, unify, Solved as Result}
use Rattle.op_trace.specs.declared.barrier.Barrier.{Barrier}
use Rattle.op_trace.specs.declared.barrier.Barrier.TheVariants.{Call, InCondition, AtSuccess}
use Rattle.op_trace.specs.Database.{Text, text_eq, Clause}
use Rattle.op_trace.specs.World.{World, same_barrier, Execution, First, Recovery, Item, Goal, Cut, Exit, Execute, Has}
use Rattle.op_trace.specs.Act.{Yield, Fails, Succeeds, Succeeds_again, Runs, Throws, Halts, Act, Setup}
use Rattle.op_trace.specs.Visit.{acts, Inside, Clauses, WithoutProcedure, Protected, inside, executes_again, after}
use Rattle.op_trace.specs.Visit.{catcher_of, ends, caught, catches, last_choice}
use Rattle.op_trace.specs.Visit.{entered_box, exits, yields, Verdict}
use Rattle.op_trace.specs.Visit.{Failed, CutTo, Thrown, Stopped, Halted, Spent, Visited, gives, on_failed, reaches, on_end, on_condition}
use Rattle.op_trace.specs.Visit.{cut, pays, is_open, around, selects, fails, raises}
use Rattle.op_trace.specs.Visit.{Control, TrueGoal, FailGoal, CutGoal, Conjunction, Disjunction, IfThenElse, BoxedGoal, control, is_true}
use Rattle.op_trace.specs.Visit.{entered, with_event, shows, Visitor, matched, try_clause, alternatives, branches, boxed, if_then_else}
use Rattle.op_trace.specs.Visit.{selected, visit_with, visit_by, visit}
use Rattle.op_trace.specs.declared.port.Port.TheVariants as port

abbrev pub Only : List Item → Verdict → Type 0
Only I Failed = Unit {0}
Only I (CutTo n) = Has n I
Only I (Thrown b o) = Unit {0}
Only I Stopped = Unit {0}
Only I (Halted i) = Unit {0}
Only I Spent = Unit {0}

abbrev pub VisitsOnly : Visitor → Type 0
VisitsOnly visit = (I : List Item) (σ : Bindings Text) (w : World) → Only I (visit I σ w).verdict

pub only-of : (I J : List Item) (r : Verdict) → ((n : Barrier) → Has n I → Has n J) → Only I r → Only J r
only-of I J Failed h o = tt
only-of I J (CutTo n) h o = h n o
only-of I J (Thrown b x) h o = tt
only-of I J Stopped h o = tt
only-of I J (Halted i) h o = tt
only-of I J Spent h o = tt

pub same-refl : (b : Barrier) → same_barrier b b ≡ true
same-refl (Call n) = grind (arith, nat_tests)
same-refl (InCondition n) = grind (arith, nat_tests)
same-refl (AtSuccess n) = grind (arith, nat_tests)

pub other : {A : Type 0} (x b : Barrier) → same_barrier x b ≡ false → (x ≡ b) ⊎ A → A
other {A} x b e h = elim h [ inl s ↦ differ s | inr a ↦ a ]
  where
    differ : x ≡ b → A
    differ s = let t : true ≡ false = sym (same-refl b) ∙ (ap (λ (y : Barrier). same_barrier y b) (sym s) ∙ e) in cc

pub pays-only : (t : Bool) (s : Setup) (n : ℕ) (w : World) (h : World → Visited) (I : List Item)
    → ((u : World) → Only I (h u).verdict) → Only I (pays t s n w h).verdict
pays-only true s n w h I o = o _
pays-only false s n w h I o = tt

pub acts-only : (t : Bool) (s : Setup) (a : Act) (w : World) (h : Yield → World → Visited) (I : List Item)
    → ((u : World) → Only I (h a.yield u).verdict) → Only I (acts t s a w h).verdict
acts-only true s a w h I o = o _
acts-only false s a w h I o = tt

pub on_failed-only : (h : World → Visited) (r : Verdict) (w : World) (I : List Item)
    → Only I r → ((u : World) → Only I (h u).verdict) → Only I (on_failed h r w).verdict
on_failed-only h Failed w I o k = k w
on_failed-only h (CutTo m) w I o k = o
on_failed-only h (Thrown b x) w I o k = tt
on_failed-only h Stopped w I o k = tt
on_failed-only h (Halted i) w I o k = tt
on_failed-only h Spent w I o k = tt

pub cut-only : (m : Barrier) (J : List Item) (r : Verdict) (w : World) → Only J r → Only (Cut m ∷ J) (cut m r w).verdict
cut-only m J Failed w o = inl refl
cut-only m J (CutTo n) w o = inr o
cut-only m J (Thrown b x) w o = tt
cut-only m J Stopped w o = tt
cut-only m J (Halted i) w o = tt
cut-only m J Spent w o = tt

-- a box ends the cuts to its own call
pub on_end-only : (k : ℕ) (h : World → Visited) (i : Term Text → List ℕ → World → Visited) (J : List Item) (r : Verdict) (w : World)
    → Only (Cut (Call k) ∷ J) r → ((u : World) → Only J (h u).verdict)
    → ((b : Term Text) (x : List ℕ) (u : World) → Only J (i b x u).verdict) → Only J (on_end k h i r w).verdict
on_end-only k h i J Failed w o f e = f w
on_end-only k h i J (CutTo x) w o f e = go (same_barrier x (Call k)) refl
  where
    go : (b : Bool) → same_barrier x (Call k) ≡ b → Only J (reaches b h (gives (CutTo x)) w).verdict
    go true t = f w
    go false t = other x (Call k) t o
on_end-only k h i J (Thrown b x) w o f e = go (is_open k x)
  where
    go : (c : Bool) → Only J (reaches c (i b (around k x)) (gives (Thrown b x)) w).verdict
    go true = e b (around k x) w
    go false = tt
on_end-only k h i J Stopped w o f e = tt
on_end-only k h i J (Halted n) w o f e = tt
on_end-only k h i J Spent w o f e = tt

-- a condition ends the cuts to its own marks
pub on_condition-only : (n : ℕ) (m : Barrier) (h : World → Visited) (J : List Item) (r : Verdict) (w : World)
    → Only (Cut (InCondition n) ∷ Cut (AtSuccess n) ∷ Cut m ∷ J) r → ((u : World) → Only (Cut m ∷ J) (h u).verdict)
    → Only (Cut m ∷ J) (on_condition n h r w).verdict
on_condition-only n m h J Failed w o i = i w
on_condition-only n m h J (CutTo x) w o i = go (same_barrier x (InCondition n)) (same_barrier x (AtSuccess n)) refl refl
  where
    go : (a b : Bool) → same_barrier x (InCondition n) ≡ a → same_barrier x (AtSuccess n) ≡ b
        → Only (Cut m ∷ J) (reaches a h (reaches b (gives Failed) (gives (CutTo x))) w).verdict
    go true b d e = i w
    go false true d e = tt
    go false false d e = other x (AtSuccess n) e (other x (InCondition n) d o)
on_condition-only n m h J (Thrown b x) w o i = tt
on_condition-only n m h J Stopped w o i = tt
on_condition-only n m h J (Halted x) w o i = tt
on_condition-only n m h J Spent w o i = tt

pub entered-only : (f : ℕ) (c : Clause) (k : ℕ) (g : Term Text) (J : List Item) (n : Barrier) → Has n (entered f c k g J)
    → Has n (Cut (Call k) ∷ J)
entered-only f c k g J n = go (is_true c.body)
  where
    go : (b : Bool) → Has n (if b then Exit k g ∷ J else Goal (shift f c.body) (Call k) ∷ Exit k g ∷ J) → Has n (Cut (Call k) ∷ J)
    go true h = inr h
    go false h = h

module _ (visit : Visitor) (s : Setup) (only : VisitsOnly visit) where
  pub matched-only : (c : Clause) (k : ℕ) (g : Term Text) (J : List Item) (w : World) (o : Option (Result Text))
      → Only (Cut (Call k) ∷ J) (matched visit s c k g J w o).verdict
  matched-only c k g J w None = tt
  matched-only c k g J w (Some (None, left)) = tt
  matched-only c k g J w (Some (Some τ, left)) =
      pays-only (nat_le (s.budget - left + c.variables) s.budget) s c.variables (record w { steps = s.budget - left })
      (λ u. visit (entered w.variables c k g J) τ (record u { variables = u.variables + c.variables })) (Cut (Call k) ∷ J)
      (λ u. only-of (entered w.variables c k g J) (Cut (Call k) ∷ J) _ (entered-only w.variables c k g J)
      (only (entered w.variables c k g J) τ _))

  pub try_clause-only : (c : Clause) (k : ℕ) (g : Term Text) (σ : Bindings Text) (J : List Item) (w : World)
      → Only (Cut (Call k) ∷ J) (try_clause visit s c k g σ J w).verdict
  try_clause-only c k g σ J w =
      pays-only (nat_le (w.steps + 1) s.budget) s 1 w (λ u. matched visit s c k g J u (unify text_eq (s.budget - u.steps) σ
      ((g, shift u.variables c.head) ∷ []))) (Cut (Call k) ∷ J)
      (λ u. matched-only c k g J u (unify text_eq (s.budget - u.steps) σ ((g, shift u.variables c.head) ∷ [])))

  pub alternatives-only : (cs : List Clause) (k : ℕ) (g : Term Text) (σ : Bindings Text) (J : List Item) (r : Verdict) (w : World)
      → Only (Cut (Call k) ∷ J) r → Only (Cut (Call k) ∷ J) (alternatives visit s cs k g σ J r w).verdict
  alternatives-only [] k g σ J r w o = o
  alternatives-only (c ∷ cs) k g σ J r w o =
      on_failed-only _ r w (Cut (Call k) ∷ J) o
      (λ u. alternatives-only cs k g σ J (try_clause visit s c k g σ J u).verdict (try_clause visit s c k g σ J u).world
      (try_clause-only c k g σ J u))

  pub branches-only : (t : Term Text) (m : Barrier) (σ : Bindings Text) (J : List Item) (w : World)
      → Only (Cut m ∷ J) (branches visit s t m σ J w).verdict
  branches-only t m σ J w =
      pays-only (nat_le (w.steps + 1) s.budget) s 1 w (visit (Goal t m ∷ J) σ) (Cut m ∷ J) (λ u. only (Goal t m ∷ J) σ u)

  pub again-only : (t : Execution) (k : ℕ) (g : Term Text) (σ : Bindings Text) (J : List Item) (w : World)
      → Only (Cut (Call k) ∷ J) (executes_again visit s t k g σ J w).verdict
  again-only t k g σ J w =
      pays-only (nat_le (w.steps + 1) s.budget) s 1 w (visit (Execute t k g ∷ J) σ) (Cut (Call k) ∷ J)
      (λ u. only-of (Execute t k g ∷ J) (Cut (Call k) ∷ J) (visit (Execute t k g ∷ J) σ u).verdict (λ n h. h) (only
      (Execute t k g ∷ J) σ u))

  pub entered_box-only : (i : Inside) (k : ℕ) (g : Term Text) (σ : Bindings Text) (J : List Item) (w : World)
      → Only (Cut (Call k) ∷ J) (entered_box visit s i k g σ J w).verdict
  entered_box-only (Clauses cs) k g σ J w = alternatives-only cs k g σ J Failed w tt
  entered_box-only Protected k g σ J w =
      only-of (Execute First k g ∷ J) (Cut (Call k) ∷ J) (visit (Execute First k g ∷ J) σ w).verdict (λ n h. h)
      (only (Execute First k g ∷ J) σ w)
  entered_box-only WithoutProcedure k g σ J w =
      only-of (Execute First k g ∷ J) (Cut (Call k) ∷ J) (visit (Execute First k g ∷ J) σ w).verdict (λ n h. h) (only
      (Execute First k g ∷ J) σ w)

  pub ends-only : (k : ℕ) (g : Term Text) (σ : Bindings Text) (J : List Item) (r : Verdict) (w : World)
      → Only (Cut (Call k) ∷ J) r → Only J (ends k g σ J r w).verdict
  ends-only k g σ J r w o = on_end-only k (fails k g σ J) (raises k g σ J) J r w o (λ x. tt) (λ b p x. tt)

  -- the recovery's cuts end in the box, as those of the goal do
  pub caught-only : (k : ℕ) (g : Term Text) (σ : Bindings Text) (J : List Item) (b : Term Text) (p : List ℕ) (w : World)
      (q : Option (Result Text)) → Only J (caught visit s k g σ J b p w q).verdict
  caught-only k g σ J b p w None = tt
  caught-only k g σ J b p w (Some (None, left)) = tt
  caught-only k g σ J b p w (Some (Some τ, left)) =
      let u : World = record w { steps = s.budget - left } in
      let v : Visited = executes_again visit s Recovery k g τ J u in
      ends-only k g σ J v.verdict v.world (again-only Recovery k g τ J u)

  pub last_choice-only : (i : Inside) (k : ℕ) (g : Term Text) (σ : Bindings Text) (J : List Item) (r : Verdict) (w : World)
      → Only (Cut (Call k) ∷ J) r → Only J (after visit s (last_choice i k g σ J) r w).verdict
  last_choice-only (Clauses cs) k g σ J r w o = ends-only k g σ J r w o
  last_choice-only WithoutProcedure k g σ J r w o = ends-only k g σ J r w o
  last_choice-only Protected k g σ J r w o =
      on_end-only k (fails k g σ J) (catches visit s k g σ J) J r w o (λ x. tt)
      (λ b p x. caught-only k g σ J b p x (unify text_eq (s.budget - x.steps) σ ((b, catcher_of g) ∷ [])))

  pub boxed-only : (g : Term Text) (J : List Item) (σ : Bindings Text) (w : World) → Only J (boxed visit s g J σ w).verdict
  boxed-only g J σ w =
      let k : ℕ = w.calls + 1 in
      let u : World = with_event (record w { calls = k }) in
      let i : Inside = inside w.database g in
      let v : Visited = entered_box visit s i k g σ J u in
      last_choice-only i k g σ J v.verdict v.world (entered_box-only i k g σ J u)

  pub exits-only : (rest : Bindings Text → World → Visited) (k : ℕ) (g : Term Text) (J : List Item) (σ : Bindings Text) (w : World)
      → ((τ : Bindings Text) (u : World) → Only J (rest τ u).verdict) → Only J (exits visit s rest k g J σ w).verdict
  exits-only rest k g J σ w o =
      let v : Visited = rest σ (with_event w) in
      on_failed-only (λ u. shows port.Redo k g σ J u (gives Failed)) v.verdict v.world J (o σ (with_event w)) (λ u. tt)

  pub if_then_else-only : (c t e : Term Text) (m : Barrier) (J : List Item) (σ : Bindings Text) (w : World)
      → Only (Cut m ∷ J) (if_then_else visit s c t e m J σ w).verdict
  if_then_else-only c t e m J σ w =
      let n : ℕ = w.conditions + 1 in
      let v : Visited = visit (Goal c (InCondition n) ∷ Cut (AtSuccess n) ∷ Goal t m ∷ J) σ (record w { conditions = n }) in
      on_condition-only n m (branches visit s e m σ J) J v.verdict v.world
      (only (Goal c (InCondition n) ∷ Cut (AtSuccess n) ∷ Goal t m ∷ J) σ (record w { conditions = n })) (branches-only e m σ J)

  pub selected-only : (q : Control) (t : Term Text) (m : Barrier) (J : List Item) (σ : Bindings Text) (w : World)
      → Only (Cut m ∷ J) (selected visit s q t m J σ w).verdict
  selected-only TrueGoal t m J σ w = only-of J (Cut m ∷ J) (visit J σ w).verdict (λ n h. inr h) (only J σ w)
  selected-only FailGoal t m J σ w = tt
  selected-only CutGoal t m J σ w = cut-only m J (visit J σ w).verdict (visit J σ w).world (only J σ w)
  selected-only (Conjunction a b) t m J σ w =
      only-of (Goal a m ∷ Goal b m ∷ J) (Cut m ∷ J) (visit (Goal a m ∷ Goal b m ∷ J) σ w).verdict
      (λ n h. elim h [ inl e ↦ inl e | inr k ↦ k ]) (only (Goal a m ∷ Goal b m ∷ J) σ w)
  selected-only (Disjunction a b) t m J σ w =
      on_failed-only (branches visit s b m σ J) (visit (Goal a m ∷ J) σ w).verdict (visit (Goal a m ∷ J) σ w).world (Cut m ∷ J)
      (only (Goal a m ∷ J) σ w) (branches-only b m σ J)
  selected-only (IfThenElse c a b) t m J σ w = if_then_else-only c a b m J σ w
  selected-only BoxedGoal t m J σ w = only-of J (Cut m ∷ J) (boxed visit s t J σ w).verdict (λ n h. inr h) (boxed-only t J σ w)

  pub selects-only : (t : Term Text) (m : Barrier) (J : List Item) (σ : Bindings Text) (w : World)
      → Only (Cut m ∷ J) (selects visit s t m J σ w).verdict
  selects-only t m J σ w =
      pays-only (nat_le (w.steps + 1) s.budget) s 1 w (selected visit s (control t) t m J σ) (Cut m ∷ J)
      (λ u. selected-only (control t) t m J σ u)

  pub yields-only : (rest : Bindings Text → World → Visited) (k : ℕ) (g : Term Text) (J : List Item) (σ : Bindings Text) (y : Yield)
      (w : World)
      → ((τ : Bindings Text) (u : World) → Only J (rest τ u).verdict) → Only (Cut (Call k) ∷ J) (yields visit s rest k g J σ y w).verdict
  yields-only rest k g J σ Fails w o = tt
  yields-only rest k g J σ (Succeeds τ) w o =
      only-of J (Cut (Call k) ∷ J) (exits visit s rest k g J τ w).verdict (λ n h. inr h) (exits-only rest k g J τ w o)
  yields-only rest k g J σ (Succeeds_again τ t) w o =
      let v : Visited = exits visit s rest k g J τ w in
      on_failed-only (executes_again visit s t k g σ J) v.verdict v.world (Cut (Call k) ∷ J)
      (only-of J (Cut (Call k) ∷ J) v.verdict (λ n h. inr h) (exits-only rest k g J τ w o)) (again-only t k g σ J)
  yields-only rest k g J σ (Runs b) w o = selects-only b (Call k) (Exit k g ∷ J) σ w
  yields-only rest k g J σ (Throws b) w o = tt
  yields-only rest k g J σ (Halts i) w o = tt

  pub visit_with-only : VisitsOnly (visit_with visit s)
  unfolding visit_with
  visit_with-only [] σ w = go (w.solutions + 1 == s.wanted)
    where
      go : (b : Bool) → Only [] (if b then Stopped else Failed)
      go true = tt
      go false = tt
  visit_with-only (Exit k g ∷ J) σ w = exits-only (visit_with visit s J) k g J σ w (visit_with-only J)
  visit_with-only (Execute t k g ∷ J) σ w =
      let a : Act = s.act (s.budget - w.steps) t g σ w in
      acts-only (nat_le (w.steps + a.cost) s.budget) s a w (yields visit s (visit_with visit s J) k g J σ) (Cut (Call k) ∷ J)
      (λ u. yields-only (visit_with visit s J) k g J σ a.yield u (visit_with-only J))
  visit_with-only (Cut m ∷ J) σ w = cut-only m J (visit_with visit s J σ w).verdict (visit_with visit s J σ w).world (visit_with-only J σ w)
  visit_with-only (Goal t m ∷ J) σ w = selects-only t m J σ w

pub visit_by-only : (f : ℕ) (s : Setup) → VisitsOnly (visit_by f s)
unfolding visit_by
visit_by-only zero s I σ w = tt
visit_by-only (suc f) s I σ w = visit_with-only (visit_by f s) s (visit_by-only f s) I σ w

pub visit-only : (s : Setup) → VisitsOnly (visit s)
unfolding visit
visit-only s I σ w = visit_by-only (suc (s.budget - w.steps)) s I σ w

pub visit_cuts : (s : Setup) (I : List Item) (σ : Bindings Text) (w : World) (m : Barrier) → (visit s I σ w).verdict ≡ CutTo m → Has m I
visit_cuts s I σ w m e = subst (Only I) e (visit-only s I σ w)
