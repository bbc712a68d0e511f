-- A walk leaves no fewer steps than it found, and no more than the budget.
use Rattle.std.proofs.Common.{◌≡◌, ℕ, zero, suc, ◌+◌, ◌-◌, ◌≤◌, nat_le, Bool, true, false, List, [], ◌∷◌, Option, Some, None, refl, arith}
use Rattle.std.proofs.Common.{if◌then◌else◌}
use Rattle.std.proofs.lemmas.Bool.Decides.{nat_tests}
use Rattle.op_logic.specs.Term.{Term, shift}
use Rattle.op_logic.specs.Bind.{Bindings, Solved as Result, within, solve}
use Rattle.op_trace.specs.declared.barrier.Barrier.{Barrier}
use Rattle.op_trace.specs.declared.barrier.Barrier.TheVariants.{Call, InCondition, AtSuccess}
use Rattle.op_trace.specs.Database.{Text, text_eq, Clause}
use Rattle.op_trace.specs.World.{World, same_barrier, Execution, First, Recovery, Item, Goal, Cut, Exit, Execute}
use Rattle.op_trace.specs.Act.{Yield, Fails, Succeeds, Succeeds_again, Runs, Throws, Halts, Act, Setup}
use Rattle.op_trace.specs.Visit.{counted_as, acts, Inside, Clauses, WithoutProcedure, Protected, inside, Again, Catch}
use Rattle.op_trace.specs.Visit.{catcher_of, ends, caught, catches, last_choice}
use Rattle.op_trace.specs.Visit.{executes_again, entered_box, exits, yields}
use Rattle.op_trace.specs.Visit.{Verdict, Failed, CutTo, Thrown, Stopped, Halted, Spent, Visited, gives, and_then, on_failed, reaches}
use Rattle.op_trace.specs.Visit.{on_end, on_condition, is_open, around, selects, fails, raises}
use Rattle.op_trace.specs.Visit.{cut, with_event, pays, spends, Control, TrueGoal, FailGoal, CutGoal, Conjunction, Disjunction, IfThenElse}
use Rattle.op_trace.specs.Visit.{BoxedGoal, control, Visitor, Choice, Redo, Branch, More, Fail, Condition, matched, try_clause}
use Rattle.op_trace.specs.Visit.{alternatives, branches, after, boxed, if_then_else, selected, visit_with, visit_by, visit}

-- a walk from n steps on, with a budget of b
abbrev pub Later : ℕ → ℕ → Visited → Type 0
Later b n v = (n ≤ v.world.steps) × (v.world.steps ≤ b)

abbrev pub VisitsLater : ℕ → Visitor → Type 0
VisitsLater b visit = (I : List Item) (σ : Bindings Text) (w : World) → w.steps ≤ b → Later b w.steps (visit I σ w)

pub later_from : (b m n x : ℕ) → m ≤ n → (n ≤ x) × (x ≤ b) → (m ≤ x) × (x ≤ b)
later_from b m n x h l = (omega arith, l.1)

pub pays-later : (t : Bool) (s : Setup) (n : ℕ) (w : World) (h : World → Visited) → nat_le (w.steps + n) s.budget ≡ t → w.steps ≤ s.budget
    → (w.steps + n ≤ s.budget → Later s.budget w.steps (h (record w { steps = w.steps + n })))
    → Later s.budget w.steps (pays t s n w h)
pays-later true s n w h test below l = let fits : w.steps + n ≤ s.budget = grind (arith, nat_tests) in l fits
pays-later false s n w h test below l = (below, omega arith)

pub spends-later : (s : Setup) (n : ℕ) (w : World) (h : World → Visited) → w.steps ≤ s.budget
    → (w.steps + n ≤ s.budget → Later s.budget w.steps (h (record w { steps = w.steps + n })))
    → Later s.budget w.steps (spends s n w h)
spends-later s n w h below l = pays-later (nat_le (w.steps + n) s.budget) s n w h refl below l

pub acts-later : (t : Bool) (s : Setup) (a : Act) (w : World) (h : Yield → World → Visited)
    → nat_le (w.steps + a.cost) s.budget ≡ t → w.steps ≤ s.budget
    → ((u : World) → w.steps ≤ u.steps → u.steps ≤ s.budget → Later s.budget w.steps (h a.yield u))
    → Later s.budget w.steps (acts t s a w h)
acts-later true s a w h test below l =
    let fits : w.steps + a.cost ≤ s.budget = grind (arith, nat_tests) in
    l (record (counted_as w a.after) { steps = w.steps + a.cost }) (omega arith) fits
acts-later false s a w h test below l = (below, omega arith)

pub on_failed-later : (b n : ℕ) (h : World → Visited) (r : Verdict) (w : World) → n ≤ w.steps → w.steps ≤ b → Later b n (h w)
    → Later b n (on_failed h r w)
on_failed-later b n h Failed w low high l = l
on_failed-later b n h (CutTo m) w low high l = (low, high)
on_failed-later b n h (Thrown x o) w low high l = (low, high)
on_failed-later b n h Stopped w low high l = (low, high)
on_failed-later b n h (Halted i) w low high l = (low, high)
on_failed-later b n h Spent w low high l = (low, high)

pub reaches-later : (b n : ℕ) (t : Bool) (h i : World → Visited) (w : World) → Later b n (h w) → Later b n (i w)
    → Later b n (reaches t h i w)
reaches-later b n true h i w l m = l
reaches-later b n false h i w l m = m

pub on_end-later : (b n k : ℕ) (h : World → Visited) (i : Term Text → List ℕ → World → Visited) (r : Verdict) (w : World)
    → n ≤ w.steps → w.steps ≤ b → Later b n (h w)
    → ((x : Term Text) (o : List ℕ) → Later b n (i x o w)) → Later b n (on_end k h i r w)
on_end-later b n k h i Failed w low high l e = l
on_end-later b n k h i (CutTo x) w low high l e = reaches-later b n (same_barrier x (Call k)) h (gives (CutTo x)) w l (low, high)
on_end-later b n k h i (Thrown x o) w low high l e =
    reaches-later b n (is_open k o) (i x (around k o)) (gives (Thrown x o)) w (e x (around k o)) (low, high)
on_end-later b n k h i Stopped w low high l e = (low, high)
on_end-later b n k h i (Halted x) w low high l e = (low, high)
on_end-later b n k h i Spent w low high l e = (low, high)

pub on_condition-later : (b n c : ℕ) (h : World → Visited) (r : Verdict) (w : World) → n ≤ w.steps → w.steps ≤ b → Later b n (h w)
    → Later b n (on_condition c h r w)
on_condition-later b n c h Failed w low high l = l
on_condition-later b n c h (CutTo x) w low high l =
    reaches-later b n (same_barrier x (InCondition c)) h (reaches (same_barrier x (AtSuccess c)) (gives Failed) (gives (CutTo x))) w l
    (reaches-later b n (same_barrier x (AtSuccess c)) (gives Failed) (gives (CutTo x)) w (low, high) (low, high))
on_condition-later b n c h (Thrown x o) w low high l = (low, high)
on_condition-later b n c h Stopped w low high l = (low, high)
on_condition-later b n c h (Halted i) w low high l = (low, high)
on_condition-later b n c h Spent w low high l = (low, high)

pub and_then-later : (b n : ℕ) (v : Visited) (h : Verdict → World → Visited) → Later b n v
    → ((r : Verdict) (u : World) → n ≤ u.steps → u.steps ≤ b → Later b n (h r u)) → Later b n (and_then v h)
and_then-later b n v h l k = k v.verdict v.world l.0 l.1

-- what is left after a budgeted result is no more than before it
abbrev pub IsLess : {A : Type 0} → ℕ → Option (A × ℕ) → Type 0
IsLess left None = Unit {0}
IsLess left (Some r) = r.1 ≤ left

pub within-less : {A : Type 0} (left : ℕ) (o : Option (A × ℕ)) → IsLess left (within left o)
within-less left None = tt
within-less {A} left (Some r) = go (nat_le r.1 left)
  where
    go : (t : Bool) → IsLess {A = A} left (if t then Some (r.0, left - r.1) else None)
    go true = omega arith
    go false = tt

pub matched-later : (visit : Visitor) (s : Setup) (c : Clause) (k : ℕ) (g : Term Text) (J : List Item) (w : World)
    (o : Option (Result Text))
    → VisitsLater s.budget visit → w.steps ≤ s.budget → IsLess (s.budget - w.steps) o → Later s.budget w.steps (matched visit s c k g J w o)
matched-later visit s c k g J w None lv below less = (below, omega arith)
matched-later visit s c k g J w (Some (None, left)) lv below less = (omega arith, omega arith)
matched-later visit s c k g J w (Some (Some τ, left)) lv below less =
    let up : w.steps ≤ s.budget - left = omega arith in
    let in_budget : s.budget - left ≤ s.budget = omega arith in
    later_from s.budget w.steps (s.budget - left) _ up
    (spends-later s c.variables (record w { steps = s.budget - left }) _ in_budget
    (λ fits. later_from s.budget (s.budget - left) (s.budget - left + c.variables) _ (omega arith) (lv _ _ _ fits)))

pub try_clause-later : (visit : Visitor) (s : Setup) (c : Clause) (k : ℕ) (g : Term Text) (σ : Bindings Text) (J : List Item) (w : World)
    → VisitsLater s.budget visit → w.steps ≤ s.budget → Later s.budget w.steps (try_clause visit s c k g σ J w)
try_clause-later visit s c k g σ J w lv below =
    spends-later s 1 w _ below (λ fits. later_from s.budget w.steps (w.steps + 1) _ (omega arith)
    (matched-later visit s c k g J (record w { steps = w.steps + 1 }) _ lv fits
    (within-less {A = Option (Bindings Text)} (s.budget - (w.steps + 1)) (solve text_eq (s.budget - (w.steps + 1)) σ
    ((g, shift {N = Text} w.variables c.head) ∷ [])))))

pub alternatives-later : (visit : Visitor) (s : Setup) (cs : List Clause) (k : ℕ) (g : Term Text) (σ : Bindings Text) (J : List Item)
    (n : ℕ) (r : Verdict) (w : World)
    → VisitsLater s.budget visit → n ≤ w.steps → w.steps ≤ s.budget → Later s.budget n (alternatives visit s cs k g σ J r w)
alternatives-later visit s [] k g σ J n r w lv low high = (low, high)
alternatives-later visit s (c ∷ cs) k g σ J n r w lv low high =
    on_failed-later s.budget n _ r w low high
    (and_then-later s.budget n (try_clause visit s c k g σ J w) (alternatives visit s cs k g σ J)
    (later_from s.budget n w.steps _ low (try_clause-later visit s c k g σ J w lv high))
    (λ q u l h. alternatives-later visit s cs k g σ J n q u lv l h))

pub branches-later : (visit : Visitor) (s : Setup) (t : Term Text) (m : Barrier) (σ : Bindings Text) (J : List Item) (n : ℕ) (w : World)
    → VisitsLater s.budget visit → n ≤ w.steps → w.steps ≤ s.budget → Later s.budget n (branches visit s t m σ J w)
branches-later visit s t m σ J n w lv low high =
    later_from s.budget n w.steps _ low
    (spends-later s 1 w _ high (λ fits. later_from s.budget w.steps (w.steps + 1) _ (omega arith)
    (lv (Goal t m ∷ J) σ (record w { steps = w.steps + 1 }) fits)))

pub again-later : (visit : Visitor) (s : Setup) (t : Execution) (k : ℕ) (g : Term Text) (σ : Bindings Text) (J : List Item)
    (n : ℕ) (w : World)
    → VisitsLater s.budget visit → n ≤ w.steps → w.steps ≤ s.budget → Later s.budget n (executes_again visit s t k g σ J w)
again-later visit s t k g σ J n w lv low high =
    later_from s.budget n w.steps _ low
    (spends-later s 1 w _ high (λ fits. later_from s.budget w.steps (w.steps + 1) _ (omega arith)
    (lv (Execute t k g ∷ J) σ (record w { steps = w.steps + 1 }) fits)))

pub ends-later : (b n k : ℕ) (g : Term Text) (σ : Bindings Text) (J : List Item) (r : Verdict) (w : World) → n ≤ w.steps → w.steps ≤ b
    → Later b n (ends k g σ J r w)
ends-later b n k g σ J r w low high = on_end-later b n k (fails k g σ J) (raises k g σ J) r w low high (low, high) (λ x o. (low, high))

pub caught-later : (visit : Visitor) (s : Setup) (k : ℕ) (g : Term Text) (σ : Bindings Text) (J : List Item) (b : Term Text) (o : List ℕ)
    (n : ℕ) (w : World) (q : Option (Result Text))
    → VisitsLater s.budget visit → n ≤ w.steps → w.steps ≤ s.budget → IsLess (s.budget - w.steps) q
    → Later s.budget n (caught visit s k g σ J b o w q)
caught-later visit s k g σ J b o n w None lv low high less = (omega arith, omega arith)
caught-later visit s k g σ J b o n w (Some (None, left)) lv low high less = (omega arith, omega arith)
caught-later visit s k g σ J b o n w (Some (Some τ, left)) lv low high less =
    let u : World = record w { steps = s.budget - left } in
    let up : n ≤ s.budget - left = omega arith in
    let in_budget : s.budget - left ≤ s.budget = omega arith in
    and_then-later s.budget n (executes_again visit s Recovery k g τ J u) (ends k g σ J)
    (again-later visit s Recovery k g τ J n u lv up in_budget) (λ r x l h. ends-later s.budget n k g σ J r x l h)

pub catches-later : (visit : Visitor) (s : Setup) (k : ℕ) (g : Term Text) (σ : Bindings Text) (J : List Item) (b : Term Text) (o : List ℕ)
    (n : ℕ) (w : World)
    → VisitsLater s.budget visit → n ≤ w.steps → w.steps ≤ s.budget → Later s.budget n (catches visit s k g σ J b o w)
catches-later visit s k g σ J b o n w lv low high =
    caught-later visit s k g σ J b o n w _ lv low high
    (within-less {A = Option (Bindings Text)} (s.budget - w.steps) (solve text_eq (s.budget - w.steps) σ ((b, catcher_of g) ∷ [])))

pub after-later : (visit : Visitor) (s : Setup) (c : Choice) (n : ℕ) (r : Verdict) (w : World)
    → VisitsLater s.budget visit → n ≤ w.steps → w.steps ≤ s.budget → Later s.budget n (after visit s c r w)
after-later visit s (Redo k g σ J) n r w lv low high = on_failed-later s.budget n _ r w low high (low, high)
after-later visit s (Branch t m σ J) n r w lv low high =
    on_failed-later s.budget n (branches visit s t m σ J) r w low high (branches-later visit s t m σ J n w lv low high)
after-later visit s (More cs k g σ J) n r w lv low high = alternatives-later visit s cs k g σ J n r w lv low high
after-later visit s (Again t k g σ J) n r w lv low high =
    on_failed-later s.budget n (executes_again visit s t k g σ J) r w low high (again-later visit s t k g σ J n w lv low high)
after-later visit s (Fail k g σ J) n r w lv low high = ends-later s.budget n k g σ J r w low high
after-later visit s (Catch k g σ J) n r w lv low high =
    on_end-later s.budget n k (fails k g σ J) (catches visit s k g σ J) r w low high (low, high)
    (λ x o. catches-later visit s k g σ J x o n w lv low high)
after-later visit s (Condition c t m σ J) n r w lv low high =
    on_condition-later s.budget n c (branches visit s t m σ J) r w low high (branches-later visit s t m σ J n w lv low high)

pub entered_box-later : (visit : Visitor) (s : Setup) (i : Inside) (k : ℕ) (g : Term Text) (σ : Bindings Text) (J : List Item) (w : World)
    → VisitsLater s.budget visit → w.steps ≤ s.budget → Later s.budget w.steps (entered_box visit s i k g σ J w)
entered_box-later visit s (Clauses cs) k g σ J w lv below = alternatives-later visit s cs k g σ J w.steps Failed w lv (omega arith) below
entered_box-later visit s WithoutProcedure k g σ J w lv below = lv (Execute First k g ∷ J) σ w below
entered_box-later visit s Protected k g σ J w lv below = lv (Execute First k g ∷ J) σ w below

pub boxed-later : (visit : Visitor) (s : Setup) (g : Term Text) (J : List Item) (σ : Bindings Text) (w : World)
    → VisitsLater s.budget visit → w.steps ≤ s.budget → Later s.budget w.steps (boxed visit s g J σ w)
boxed-later visit s g J σ w lv below =
    let k : ℕ = w.calls + 1 in
    let u : World = with_event (record w { calls = k }) in
    let i : Inside = inside w.database g in
    and_then-later s.budget w.steps (entered_box visit s i k g σ J u) (after visit s (last_choice i k g σ J))
    (entered_box-later visit s i k g σ J u lv below)
    (λ r x l h. after-later visit s (last_choice i k g σ J) w.steps r x lv l h)

-- a walk of the rest of some items, from any bindings
abbrev pub RestLater : ℕ → (Bindings Text → World → Visited) → Type 0
RestLater b rest = (σ : Bindings Text) (w : World) → w.steps ≤ b → Later b w.steps (rest σ w)

pub exits-later : (visit : Visitor) (s : Setup) (rest : Bindings Text → World → Visited) (k : ℕ) (g : Term Text) (J : List Item)
    (σ : Bindings Text) (w : World)
    → VisitsLater s.budget visit → RestLater s.budget rest → w.steps ≤ s.budget → Later s.budget w.steps (exits visit s rest k g J σ w)
exits-later visit s rest k g J σ w lv lr below =
    and_then-later s.budget w.steps (rest σ (with_event w)) (after visit s (Redo k g σ J)) (lr σ (with_event w) below)
    (λ r u l h. after-later visit s (Redo k g σ J) w.steps r u lv l h)

pub cut-later : (b n : ℕ) (m : Barrier) (v : Visited) → Later b n v → Later b n (and_then v (cut m))
cut-later b n m v l = and_then-later b n v (cut m) l (λ r u low high. on_failed-later b n (gives (CutTo m)) r u low high (low, high))

pub if_then_else-later : (visit : Visitor) (s : Setup) (c t e : Term Text) (m : Barrier) (J : List Item) (σ : Bindings Text) (w : World)
    → VisitsLater s.budget visit → w.steps ≤ s.budget → Later s.budget w.steps (if_then_else visit s c t e m J σ w)
if_then_else-later visit s c t e m J σ w lv below =
    let n : ℕ = w.conditions + 1 in
    let u : World = record w { conditions = n } in
    and_then-later s.budget w.steps (visit (Goal c (InCondition n) ∷ Cut (AtSuccess n) ∷ Goal t m ∷ J) σ u)
    (after visit s (Condition n e m σ J))
    (lv (Goal c (InCondition n) ∷ Cut (AtSuccess n) ∷ Goal t m ∷ J) σ u below)
    (λ r u l h. after-later visit s (Condition n e m σ J) w.steps r u lv l h)

pub selected-later : (visit : Visitor) (s : Setup) (q : Control) (t : Term Text) (m : Barrier) (J : List Item)
    (σ : Bindings Text) (w : World)
    → VisitsLater s.budget visit → w.steps ≤ s.budget → Later s.budget w.steps (selected visit s q t m J σ w)
selected-later visit s TrueGoal t m J σ w lv below = lv J σ w below
selected-later visit s FailGoal t m J σ w lv below = (omega arith, below)
selected-later visit s CutGoal t m J σ w lv below = cut-later s.budget w.steps m (visit J σ w) (lv J σ w below)
selected-later visit s (Conjunction a b) t m J σ w lv below = lv _ σ w below
selected-later visit s (Disjunction a b) t m J σ w lv below =
    and_then-later s.budget w.steps (visit (Goal a m ∷ J) σ w) (after visit s (Branch b m σ J)) (lv (Goal a m ∷ J) σ w below)
    (λ r u l h. after-later visit s (Branch b m σ J) w.steps r u lv l h)
selected-later visit s (IfThenElse c a b) t m J σ w lv below = if_then_else-later visit s c a b m J σ w lv below
selected-later visit s BoxedGoal t m J σ w lv below = boxed-later visit s t J σ w lv below

pub selects-later : (visit : Visitor) (s : Setup) (t : Term Text) (m : Barrier) (J : List Item) (σ : Bindings Text) (w : World)
    → VisitsLater s.budget visit → w.steps ≤ s.budget → Later s.budget w.steps (selects visit s t m J σ w)
selects-later visit s t m J σ w lv below =
    spends-later s 1 w _ below (λ fits. later_from s.budget w.steps (w.steps + 1) _ (omega arith)
    (selected-later visit s (control t) t m J σ (record w { steps = w.steps + 1 }) lv fits))

pub yields-later : (visit : Visitor) (s : Setup) (rest : Bindings Text → World → Visited) (k : ℕ) (g : Term Text) (J : List Item)
    (σ : Bindings Text) (y : Yield) (n : ℕ) (w : World)
    → VisitsLater s.budget visit → RestLater s.budget rest → n ≤ w.steps → w.steps ≤ s.budget
    → Later s.budget n (yields visit s rest k g J σ y w)
yields-later visit s rest k g J σ Fails n w lv lr low high =
    (low, high)
yields-later visit s rest k g J σ (Succeeds τ) n w lv lr low high =
    later_from s.budget n w.steps _ low (exits-later visit s rest k g J τ w lv lr high)
yields-later visit s rest k g J σ (Succeeds_again τ t) n w lv lr low high =
    and_then-later s.budget n (exits visit s rest k g J τ w) (after visit s (Again t k g σ J))
    (later_from s.budget n w.steps _ low (exits-later visit s rest k g J τ w lv lr high))
    (λ r u l h. after-later visit s (Again t k g σ J) n r u lv l h)
yields-later visit s rest k g J σ (Runs b) n w lv lr low high =
    later_from s.budget n w.steps _ low (selects-later visit s b (Call k) (Exit k g ∷ J) σ w lv high)
yields-later visit s rest k g J σ (Throws b) n w lv lr low high = (low, high)
yields-later visit s rest k g J σ (Halts i) n w lv lr low high = (low, high)

pub visit_with-later : (visit : Visitor) (s : Setup) → VisitsLater s.budget visit → VisitsLater s.budget (visit_with visit s)
unfolding visit_with
visit_with-later visit s lv [] σ w below = (omega arith, below)
visit_with-later visit s lv (Exit k g ∷ J) σ w below =
    exits-later visit s (visit_with visit s J) k g J σ w lv (visit_with-later visit s lv J) below
visit_with-later visit s lv (Execute t k g ∷ J) σ w below =
    let a : Act = s.act (s.budget - w.steps)
    t g σ w in
    acts-later (nat_le (w.steps + a.cost) s.budget) s a w (yields visit s (visit_with visit s J) k g J σ) refl below
    (λ u l h. yields-later visit s (visit_with visit s J) k g J σ a.yield w.steps u lv (visit_with-later visit s lv J) l h)
visit_with-later visit s lv (Cut m ∷ J) σ w below =
    cut-later s.budget w.steps m (visit_with visit s J σ w) (visit_with-later visit s lv J σ w below)
visit_with-later visit s lv (Goal t m ∷ J) σ w below = selects-later visit s t m J σ w lv below

pub visit_by-later : (f : ℕ) (s : Setup) → VisitsLater s.budget (visit_by f s)
unfolding visit_by
visit_by-later zero s I σ w below = (omega arith, below)
visit_by-later (suc f) s I σ w below = visit_with-later (visit_by f s) s (visit_by-later f s) I σ w below

pub visit-later : (s : Setup) → VisitsLater s.budget (visit s)
unfolding visit
visit-later s I σ w below = visit_by-later (suc (s.budget - w.steps)) s I σ w below
