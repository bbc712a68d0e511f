-- A ball leaves boxes that are open in the items, and boxes that were called later, and no others.
use Rattle.std.proofs.Common.{◌≡◌, inl, inr, ◌⊎◌, ℕ, zero, suc, ◌+◌, ◌-◌, ◌≤◌, ◌<◌, ◌==◌, ◌||◌, nat_le, Bool, true, false, List, [], ◌∷◌}
use Rattle.std.proofs.Common.{Option, Some, None, refl, subst, arith, if◌then◌else◌}
use Rattle.std.proofs.lemmas.Bool.Decides.{nat_tests}
use Rattle.op_logic.specs.Term.{Term, shift}
use Rattle.op_logic.specs.Bind.{Bindings, unify, Solved as Result}
use Rattle.op_trace.specs.declared.barrier.Barrier.{Barrier}
use Rattle.op_trace.specs.declared.barrier.Barrier.TheVariants.{Call, InCondition, AtSuccess}
use Rattle.op_trace.specs.Database.{Text, text_eq, Clause}
use Rattle.op_trace.specs.World.{World, same_barrier, Execution, First, Recovery, Item, Goal, Cut, Exit, Execute, open_boxes}
use Rattle.op_trace.specs.Act.{Yield, Fails, Succeeds, Succeeds_again, Runs, Throws, Halts, Act, Setup}
use Rattle.op_trace.specs.Visit.{acts, Inside, Clauses, WithoutProcedure, Protected, inside, executes_again, after}
use Rattle.op_trace.specs.Visit.{catcher_of, caught, catches, last_choice}
use Rattle.op_trace.specs.Visit.{entered_box, exits, yields, Verdict}
use Rattle.op_trace.specs.Visit.{Failed, CutTo, Thrown, Stopped, Halted, Spent, Visited, gives}
use Rattle.op_trace.specs.Visit.{on_failed, reaches, on_end, on_condition, cut}
use Rattle.op_trace.specs.Visit.{pays, is_open, around, selects, fails, raises, Control, TrueGoal}
use Rattle.op_trace.specs.Visit.{FailGoal, CutGoal, Conjunction, Disjunction, IfThenElse}
use Rattle.op_trace.specs.Visit.{BoxedGoal, control, is_true, entered, with_event, Visitor, matched}
use Rattle.op_trace.specs.Visit.{try_clause, alternatives, branches, boxed}
use Rattle.op_trace.specs.Visit.{if_then_else, selected, visit_with, visit_by, visit}

-- a result whose ball, if it is one, leaves boxes of which each is one of these or has a number above n
abbrev pub LeavesOnly : List ℕ → ℕ → Verdict → Type 0
LeavesOnly O n Failed = Unit {0}
LeavesOnly O n (CutTo m) = Unit {0}
LeavesOnly O n (Thrown b o) = (k : ℕ) → is_open k o ≡ true → (is_open k O ≡ true) ⊎ (n < k)
LeavesOnly O n Stopped = Unit {0}
LeavesOnly O n (Halted i) = Unit {0}
LeavesOnly O n Spent = Unit {0}

-- and no call number is taken back
abbrev pub Leaves : List ℕ → ℕ → Visited → Type 0
Leaves O n v = LeavesOnly O n v.verdict × (n ≤ v.world.calls)

abbrev pub VisitsLeave : Visitor → Type 0
VisitsLeave visit = (I : List Item) (σ : Bindings Text) (w : World) → Leaves (open_boxes I) w.calls (visit I σ w)

-- among more boxes
abbrev pub AreAmong : List ℕ → List ℕ → ℕ → Type 0
AreAmong O P n = (k : ℕ) → is_open k O ≡ true → (is_open k P ≡ true) ⊎ (n < k)

pub leaves_of : (O P : List ℕ) (m n : ℕ) (r : Verdict) → AreAmong O P n → n ≤ m → LeavesOnly O m r → LeavesOnly P n r
leaves_of O P m n Failed a h l = tt
leaves_of O P m n (CutTo x) a h l = tt
leaves_of O P m n (Thrown b o) a h l = λ k e. elim (l k e) [ inl q ↦ a k q | inr q ↦ inr (omega (arith, q)) ]
leaves_of O P m n Stopped a h l = tt
leaves_of O P m n (Halted i) a h l = tt
leaves_of O P m n Spent a h l = tt

pub left_of : (O P : List ℕ) (m n : ℕ) (v : Visited) → AreAmong O P n → n ≤ m → Leaves O m v → Leaves P n v
left_of O P m n v a h l = (leaves_of O P m n v.verdict a h l.0, omega (arith, l.1))

pub among_same : (O : List ℕ) (n : ℕ) → AreAmong O O n
among_same O n k e = inl e

pub among_less : (O : List ℕ) (j n : ℕ) → AreAmong O (j ∷ O) n
among_less O j n k e = go (j == k) e
  where
    go : (b : Bool) → is_open k O ≡ true → (b || is_open k O ≡ true) ⊎ (n < k)
    go true f = inl refl
    go false f = inl f

-- a box that is new is above all that were called
pub among_new : (O : List ℕ) (j n : ℕ) → n < j → AreAmong (j ∷ O) O n
among_new O j n h k e = go (j == k) refl e
  where
    go : (b : Bool) → (j == k) ≡ b → (b || is_open k O) ≡ true → (is_open k O ≡ true) ⊎ (n < k)
    go true t f = inr (grind (arith, nat_tests))
    go false t f = inl f

pub pays-leaves : (t : Bool) (s : Setup) (c : ℕ) (w : World) (h : World → Visited) (O : List ℕ) (n : ℕ) → n ≤ w.calls
    → ((u : World) → u.calls ≡ w.calls → Leaves O n (h u)) → Leaves O n (pays t s c w h)
pays-leaves true s c w h O n low l = l _ refl
pays-leaves false s c w h O n low l = (tt, low)

pub acts-leaves : (t : Bool) (s : Setup) (a : Act) (w : World) (h : Yield → World → Visited) (O : List ℕ) (n : ℕ) → n ≤ w.calls
    → ((u : World) → u.calls ≡ w.calls → Leaves O n (h a.yield u)) → Leaves O n (acts t s a w h)
acts-leaves true s a w h O n low l = l _ refl
acts-leaves false s a w h O n low l = (tt, low)

pub on_failed-leaves : (h : World → Visited) (r : Verdict) (w : World) (O : List ℕ) (n : ℕ) → LeavesOnly O n r → n ≤ w.calls
    → Leaves O n (h w) → Leaves O n (on_failed h r w)
on_failed-leaves h Failed w O n o low l = l
on_failed-leaves h (CutTo m) w O n o low l = (tt, low)
on_failed-leaves h (Thrown b x) w O n o low l = (o, low)
on_failed-leaves h Stopped w O n o low l = (tt, low)
on_failed-leaves h (Halted i) w O n o low l = (tt, low)
on_failed-leaves h Spent w O n o low l = (tt, low)

pub reaches-leaves : (t : Bool) (h i : World → Visited) (w : World) (O : List ℕ) (n : ℕ) → Leaves O n (h w) → Leaves O n (i w)
    → Leaves O n (reaches t h i w)
reaches-leaves true h i w O n l m = l
reaches-leaves false h i w O n l m = m

-- the boxes around one are among them
pub around-open : (k j : ℕ) (o : List ℕ) → is_open j (around k o) ≡ true → is_open j o ≡ true
around-open k j [] e = e
around-open k j (n ∷ o) e = go (n == k) (n == j) e (around-open k j o)
  where
    go : (a b : Bool) → is_open j (if a then o else around k o) ≡ true → (is_open j (around k o) ≡ true → is_open j o ≡ true)
        → (b || is_open j o) ≡ true
    go a true f below = refl
    go true false f below = f
    go false false f below = below f

pub box-leaves : (k : ℕ) (g : Term Text) (σ : Bindings Text) (J : List Item) (r : Verdict) (w : World) (O : List ℕ) (n : ℕ)
    → LeavesOnly O n r → n ≤ w.calls → Leaves O n (on_end k (fails k g σ J) (raises k g σ J) r w)
box-leaves k g σ J Failed w O n o low = (tt, low)
box-leaves k g σ J (CutTo x) w O n o low =
    reaches-leaves (same_barrier x (Call k)) (fails k g σ J) (gives (CutTo x)) w O n (tt, low) (tt, low)
box-leaves k g σ J (Thrown b x) w O n o low =
    reaches-leaves (is_open k x) (raises k g σ J b (around k x)) (gives (Thrown b x)) w O n ((λ j e. o j (around-open k j x e)), low)
    (o, low)
box-leaves k g σ J Stopped w O n o low = (tt, low)
box-leaves k g σ J (Halted i) w O n o low = (tt, low)
box-leaves k g σ J Spent w O n o low = (tt, low)

pub on_condition-leaves : (c : ℕ) (h : World → Visited) (r : Verdict) (w : World) (O : List ℕ) (n : ℕ) → LeavesOnly O n r → n ≤ w.calls
    → Leaves O n (h w) → Leaves O n (on_condition c h r w)
on_condition-leaves c h Failed w O n o low l = l
on_condition-leaves c h (CutTo x) w O n o low l =
    reaches-leaves (same_barrier x (InCondition c)) h (reaches (same_barrier x (AtSuccess c)) (gives Failed) (gives (CutTo x))) w O n l
    (reaches-leaves (same_barrier x (AtSuccess c)) (gives Failed) (gives (CutTo x)) w O n (tt, low) (tt, low))
on_condition-leaves c h (Thrown b x) w O n o low l = (o, low)
on_condition-leaves c h Stopped w O n o low l = (tt, low)
on_condition-leaves c h (Halted i) w O n o low l = (tt, low)
on_condition-leaves c h Spent w O n o low l = (tt, low)

pub cut-leaves : (m : Barrier) (r : Verdict) (w : World) (O : List ℕ) (n : ℕ) → LeavesOnly O n r → n ≤ w.calls → Leaves O n (cut m r w)
cut-leaves m r w O n o low = on_failed-leaves (gives (CutTo m)) r w O n o low (tt, low)

pub entered-open : (f : ℕ) (c : Clause) (k : ℕ) (g : Term Text) (J : List Item) → open_boxes (entered f c k g J) ≡ k ∷ open_boxes J
entered-open f c k g J = go (is_true c.body)
  where
    go : (b : Bool) → open_boxes (if b then Exit k g ∷ J else Goal (shift f c.body) (Call k) ∷ Exit k g ∷ J) ≡ k ∷ open_boxes J
    go true = refl
    go false = refl

module _ (visit : Visitor) (s : Setup) (leave : VisitsLeave visit) where
  -- the walk of these items, from a world with no fewer calls
  pub visit-leaves : (I : List Item) (σ : Bindings Text) (w : World) (n : ℕ) → n ≤ w.calls → Leaves (open_boxes I) n (visit I σ w)
  visit-leaves I σ w n low =
      left_of (open_boxes I) (open_boxes I) w.calls n (visit I σ w) (among_same (open_boxes I) n) low (leave I σ w)

  pub matched-leaves : (c : Clause) (k : ℕ) (g : Term Text) (J : List Item) (w : World) (n : ℕ) (o : Option (Result Text)) → n ≤ w.calls
      → Leaves (k ∷ open_boxes J) n (matched visit s c k g J w o)
  matched-leaves c k g J w n None low = (tt, low)
  matched-leaves c k g J w n (Some (None, left)) low = (tt, low)
  matched-leaves c k g J w n (Some (Some τ, left)) low =
      pays-leaves (nat_le (s.budget - left + c.variables) s.budget) s c.variables (record w { steps = s.budget - left })
      (λ u. visit (entered w.variables c k g J) τ (record u { variables = u.variables + c.variables })) (k ∷ open_boxes J) n low
      (λ u e. subst (λ (O : List ℕ). Leaves O n
      (visit (entered w.variables c k g J) τ (record u { variables = u.variables + c.variables }))) (entered-open w.variables c k g J)
      (visit-leaves (entered w.variables c k g J) τ (record u { variables = u.variables + c.variables }) n (omega (arith, e))))

  pub try_clause-leaves : (c : Clause) (k : ℕ) (g : Term Text) (σ : Bindings Text) (J : List Item) (w : World) (n : ℕ) → n ≤ w.calls
      → Leaves (k ∷ open_boxes J) n (try_clause visit s c k g σ J w)
  try_clause-leaves c k g σ J w n low =
      pays-leaves (nat_le (w.steps + 1) s.budget) s 1 w (λ u. matched visit s c k g J u (unify text_eq (s.budget - u.steps) σ
      ((g, shift u.variables c.head) ∷ []))) (k ∷ open_boxes J) n low
      (λ u e. matched-leaves c k g J u n (unify text_eq (s.budget - u.steps) σ ((g, shift u.variables c.head) ∷ [])) (omega (arith, e)))

  pub alternatives-leaves : (cs : List Clause) (k : ℕ) (g : Term Text) (σ : Bindings Text) (J : List Item) (r : Verdict) (w : World) (n : ℕ)
      → LeavesOnly (k ∷ open_boxes J) n r → n ≤ w.calls → Leaves (k ∷ open_boxes J) n (alternatives visit s cs k g σ J r w)
  alternatives-leaves [] k g σ J r w n o low = (o, low)
  alternatives-leaves (c ∷ cs) k g σ J r w n o low =
      let l : Leaves (k ∷ open_boxes J) n (try_clause visit s c k g σ J w) = try_clause-leaves c k g σ J w n low in
      on_failed-leaves _ r w (k ∷ open_boxes J) n o low
      (alternatives-leaves cs k g σ J (try_clause visit s c k g σ J w).verdict (try_clause visit s c k g σ J w).world n l.0 l.1)

  pub branches-leaves : (t : Term Text) (m : Barrier) (σ : Bindings Text) (J : List Item) (w : World) (n : ℕ) → n ≤ w.calls
      → Leaves (open_boxes J) n (branches visit s t m σ J w)
  branches-leaves t m σ J w n low =
      pays-leaves (nat_le (w.steps + 1) s.budget) s 1 w (visit (Goal t m ∷ J) σ) (open_boxes J) n low
      (λ u e. visit-leaves (Goal t m ∷ J) σ u n (omega (arith, e)))

  pub again-leaves : (t : Execution) (k : ℕ) (g : Term Text) (σ : Bindings Text) (J : List Item) (w : World) (n : ℕ) → n ≤ w.calls
      → Leaves (k ∷ open_boxes J) n (executes_again visit s t k g σ J w)
  again-leaves t k g σ J w n low =
      pays-leaves (nat_le (w.steps + 1) s.budget) s 1 w (visit (Execute t k g ∷ J) σ) (k ∷ open_boxes J) n low
      (λ u e. visit-leaves (Execute t k g ∷ J) σ u n (omega (arith, e)))

  pub entered_box-leaves : (i : Inside) (k : ℕ) (g : Term Text) (σ : Bindings Text) (J : List Item) (w : World)
      → Leaves (k ∷ open_boxes J) w.calls (entered_box visit s i k g σ J w)
  entered_box-leaves (Clauses cs) k g σ J w = alternatives-leaves cs k g σ J Failed w w.calls tt (omega arith)
  entered_box-leaves WithoutProcedure k g σ J w = leave (Execute First k g ∷ J) σ w
  entered_box-leaves Protected k g σ J w = leave (Execute First k g ∷ J) σ w

  -- a ball that goes on from a catch leaves what it would have left, and one of the recovery what is open in its items
  pub caught-leaves : (k : ℕ) (g : Term Text) (σ : Bindings Text) (J : List Item) (b : Term Text) (p : List ℕ) (w : World) (n : ℕ)
      (q : Option (Result Text))
      → n < k → LeavesOnly (open_boxes J) n (Thrown b p) → n ≤ w.calls → Leaves (open_boxes J) n (caught visit s k g σ J b p w q)
  caught-leaves k g σ J b p w n None fresh l low = (tt, low)
  caught-leaves k g σ J b p w n (Some (None, left)) fresh l low = (l, low)
  caught-leaves k g σ J b p w n (Some (Some τ, left)) fresh l low =
      let u : World = record w { steps = s.budget - left } in
      let v : Visited = executes_again visit s Recovery k g τ J u in
      let m : Leaves (open_boxes J) n v =
      left_of (k ∷ open_boxes J) (open_boxes J) n n v (among_new (open_boxes J) k n fresh) (omega arith)
      (again-leaves Recovery k g τ J u n low) in
      box-leaves k g σ J v.verdict v.world (open_boxes J) n m.0 m.1

  pub catch-leaves : (k : ℕ) (g : Term Text) (σ : Bindings Text) (J : List Item) (r : Verdict) (w : World) (n : ℕ)
      → n < k → LeavesOnly (open_boxes J) n r → n ≤ w.calls
      → Leaves (open_boxes J) n (on_end k (fails k g σ J) (catches visit s k g σ J) r w)
  catch-leaves k g σ J Failed w n fresh l low = (tt, low)
  catch-leaves k g σ J (CutTo x) w n fresh l low =
      reaches-leaves (same_barrier x (Call k)) (fails k g σ J) (gives (CutTo x)) w (open_boxes J) n (tt, low) (tt, low)
  catch-leaves k g σ J (Thrown b x) w n fresh l low =
      reaches-leaves (is_open k x) (catches visit s k g σ J b (around k x)) (gives (Thrown b x)) w (open_boxes J) n
      (caught-leaves k g σ J b (around k x) w n (unify text_eq (s.budget - w.steps) σ ((b, catcher_of g) ∷ [])) fresh
      (λ j e. l j (around-open k j x e)) low)
      (l, low)
  catch-leaves k g σ J Stopped w n fresh l low = (tt, low)
  catch-leaves k g σ J (Halted i) w n fresh l low = (tt, low)
  catch-leaves k g σ J Spent w n fresh l low = (tt, low)

  pub last_choice-leaves : (i : Inside) (k : ℕ) (g : Term Text) (σ : Bindings Text) (J : List Item) (r : Verdict) (w : World) (n : ℕ)
      → n < k → LeavesOnly (open_boxes J) n r → n ≤ w.calls → Leaves (open_boxes J) n (after visit s (last_choice i k g σ J) r w)
  last_choice-leaves (Clauses cs) k g σ J r w n fresh l low = box-leaves k g σ J r w (open_boxes J) n l low
  last_choice-leaves WithoutProcedure k g σ J r w n fresh l low = box-leaves k g σ J r w (open_boxes J) n l low
  last_choice-leaves Protected k g σ J r w n fresh l low = catch-leaves k g σ J r w n fresh l low

  pub boxed-leaves : (g : Term Text) (J : List Item) (σ : Bindings Text) (w : World) (n : ℕ) → n ≤ w.calls
      → Leaves (open_boxes J) n (boxed visit s g J σ w)
  boxed-leaves g J σ w n low =
      let k : ℕ = w.calls + 1 in
      let u : World = with_event (record w { calls = k }) in
      let i : Inside = inside w.database g in
      let v : Visited = entered_box visit s i k g σ J u in
      let fresh : n < w.calls + 1 = omega (arith, low) in
      let l : Leaves (open_boxes J) n v =
      left_of (k ∷ open_boxes J) (open_boxes J) k n v (among_new (open_boxes J) k n fresh) (omega (arith, low))
      (entered_box-leaves i k g σ J u) in
      last_choice-leaves i k g σ J v.verdict v.world n fresh l.0 l.1

  pub exits-leaves : (rest : Bindings Text → World → Visited) (k : ℕ) (g : Term Text) (J : List Item) (σ : Bindings Text)
      (w : World) (n : ℕ)
      → ((τ : Bindings Text) (u : World) → Leaves (open_boxes J) u.calls (rest τ u)) → n ≤ w.calls
      → Leaves (k ∷ open_boxes J) n (exits visit s rest k g J σ w)
  exits-leaves rest k g J σ w n o low =
      let v : Visited = rest σ (with_event w) in
      let l : Leaves (k ∷ open_boxes J) n v =
      left_of (open_boxes J) (k ∷ open_boxes J) w.calls n v (among_less (open_boxes J) k n) low (o σ (with_event w)) in
      on_failed-leaves _ v.verdict v.world (k ∷ open_boxes J) n l.0 l.1 (tt, l.1)

  pub if_then_else-leaves : (c t e : Term Text) (m : Barrier) (J : List Item) (σ : Bindings Text) (w : World) (n : ℕ) → n ≤ w.calls
      → Leaves (open_boxes J) n (if_then_else visit s c t e m J σ w)
  if_then_else-leaves c t e m J σ w n low =
      let i : ℕ = w.conditions + 1 in
      let v : Visited = visit (Goal c (InCondition i) ∷ Cut (AtSuccess i) ∷ Goal t m ∷ J) σ (record w { conditions = i }) in
      let l : Leaves (open_boxes J) n v =
      visit-leaves (Goal c (InCondition i) ∷ Cut (AtSuccess i) ∷ Goal t m ∷ J) σ (record w { conditions = i }) n low in
      on_condition-leaves i (branches visit s e m σ J) v.verdict v.world (open_boxes J) n l.0 l.1 (branches-leaves e m σ J v.world n l.1)

  pub selected-leaves : (q : Control) (t : Term Text) (m : Barrier) (J : List Item) (σ : Bindings Text) (w : World) (n : ℕ) → n ≤ w.calls
      → Leaves (open_boxes J) n (selected visit s q t m J σ w)
  selected-leaves TrueGoal t m J σ w n low = visit-leaves J σ w n low
  selected-leaves FailGoal t m J σ w n low = (tt, low)
  selected-leaves CutGoal t m J σ w n low =
      let l : Leaves (open_boxes J) n (visit J σ w) = visit-leaves J σ w n low in
      cut-leaves m (visit J σ w).verdict (visit J σ w).world (open_boxes J) n l.0 l.1
  selected-leaves (Conjunction a b) t m J σ w n low = visit-leaves (Goal a m ∷ Goal b m ∷ J) σ w n low
  selected-leaves (Disjunction a b) t m J σ w n low =
      let v : Visited = visit (Goal a m ∷ J) σ w in
      let l : Leaves (open_boxes J) n v = visit-leaves (Goal a m ∷ J) σ w n low in
      on_failed-leaves (branches visit s b m σ J) v.verdict v.world (open_boxes J) n l.0 l.1 (branches-leaves b m σ J v.world n l.1)
  selected-leaves (IfThenElse c a b) t m J σ w n low = if_then_else-leaves c a b m J σ w n low
  selected-leaves BoxedGoal t m J σ w n low = boxed-leaves t J σ w n low

  pub selects-leaves : (t : Term Text) (m : Barrier) (J : List Item) (σ : Bindings Text) (w : World) (n : ℕ) → n ≤ w.calls
      → Leaves (open_boxes J) n (selects visit s t m J σ w)
  selects-leaves t m J σ w n low =
      pays-leaves (nat_le (w.steps + 1) s.budget) s 1 w (selected visit s (control t) t m J σ) (open_boxes J) n low
      (λ u e. selected-leaves (control t) t m J σ u n (omega (arith, e)))

  pub yields-leaves : (rest : Bindings Text → World → Visited) (k : ℕ) (g : Term Text) (J : List Item) (σ : Bindings Text) (y : Yield)
      (w : World) (n : ℕ)
      → ((τ : Bindings Text) (u : World) → Leaves (open_boxes J) u.calls (rest τ u)) → n ≤ w.calls
      → Leaves (k ∷ open_boxes J) n (yields visit s rest k g J σ y w)
  yields-leaves rest k g J σ Fails w n o low = (tt, low)
  yields-leaves rest k g J σ (Succeeds τ) w n o low = exits-leaves rest k g J τ w n o low
  yields-leaves rest k g J σ (Succeeds_again τ t) w n o low =
      let v : Visited = exits visit s rest k g J τ w in
      let l : Leaves (k ∷ open_boxes J) n v = exits-leaves rest k g J τ w n o low in
      on_failed-leaves (executes_again visit s t k g σ J) v.verdict v.world (k ∷ open_boxes J) n l.0 l.1
      (again-leaves t k g σ J v.world n l.1)
  yields-leaves rest k g J σ (Runs b) w n o low = selects-leaves b (Call k) (Exit k g ∷ J) σ w n low
  yields-leaves rest k g J σ (Throws b) w n o low = ((λ j e. inl e), low)
  yields-leaves rest k g J σ (Halts i) w n o low = (tt, low)

  pub visit_with-leaves : VisitsLeave (visit_with visit s)
  unfolding visit_with
  visit_with-leaves [] σ w = go (w.solutions + 1 == s.wanted)
    where
      go : (b : Bool) → Leaves [] w.calls (gives (if b then Stopped else Failed) (record w { solutions = w.solutions + 1 }))
      go true = (tt, omega arith)
      go false = (tt, omega arith)
  visit_with-leaves (Exit k g ∷ J) σ w = exits-leaves (visit_with visit s J) k g J σ w w.calls (visit_with-leaves J) (omega arith)
  visit_with-leaves (Execute t k g ∷ J) σ w =
      let a : Act = s.act (s.budget - w.steps) t g σ w in
      acts-leaves (nat_le (w.steps + a.cost) s.budget) s a w (yields visit s (visit_with visit s J) k g J σ) (k ∷ open_boxes J) w.calls
      (omega arith)
      (λ u e. yields-leaves (visit_with visit s J) k g J σ a.yield u w.calls (visit_with-leaves J) (omega (arith, e)))
  visit_with-leaves (Cut m ∷ J) σ w =
      let l : Leaves (open_boxes J) w.calls (visit_with visit s J σ w) = visit_with-leaves J σ w in
      cut-leaves m (visit_with visit s J σ w).verdict (visit_with visit s J σ w).world (open_boxes J) w.calls l.0 l.1
  visit_with-leaves (Goal t m ∷ J) σ w = selects-leaves t m J σ w w.calls (omega arith)

pub visit_by-leaves : (f : ℕ) (s : Setup) → VisitsLeave (visit_by f s)
unfolding visit_by
visit_by-leaves zero s I σ w = (tt, omega arith)
visit_by-leaves (suc f) s I σ w = visit_with-leaves (visit_by f s) s (visit_by-leaves f s) I σ w

pub visit_throws : (s : Setup) → VisitsLeave (visit s)
unfolding visit
visit_throws s I σ w = visit_by-leaves (suc (s.budget - w.steps)) s I σ w
