-- The turns of a walk lead from the world that it found to the one that it leaves, within the budget.
use Rattle.std.proofs.Common.{◌≡◌, ℕ, zero, suc, ◌+◌, ◌-◌, ◌≤◌, nat_le, Bool, true, false, List, [], ◌∷◌, ◌++◌, Option, Some, None}
use Rattle.std.proofs.Common.{refl, sym, ap, ◌∙◌, append_assoc, append-nil, arith}
use Rattle.std.proofs.lemmas.Bool.Decides.{nat_tests}
use Rattle.op_logic.specs.Term.{Term, shift}
use Rattle.op_logic.specs.Bind.{Bindings, Solved as Result, solve}
use Rattle.op_trace.specs.declared.port.Port.{Port}
use Rattle.op_trace.specs.declared.port.Port.TheVariants as port
use Rattle.op_trace.specs.declared.barrier.Barrier.{Barrier}
use Rattle.op_trace.specs.declared.barrier.Barrier.TheVariants.{Call, InCondition, AtSuccess}
use Rattle.op_trace.specs.Database.{Text, text_eq, Clause}
use Rattle.op_trace.specs.World.{World, same_barrier, Execution, First, Recovery, Item, Goal, Cut, Exit, Execute, open_boxes}
use Rattle.op_trace.specs.World.{Turn, Shown, Solved}
use Rattle.op_trace.specs.Act.{Yield, Fails, Succeeds, Succeeds_again, Runs, Throws, Halts, Act, Setup}
use Rattle.op_trace.specs.Visit.{counted_as, acts, Inside, Clauses, WithoutProcedure, Protected, inside, Again, Catch}
use Rattle.op_trace.specs.Visit.{catcher_of, ends, caught, catches, last_choice}
use Rattle.op_trace.specs.Visit.{executes_again, entered_box, exits, yields}
use Rattle.op_trace.specs.Visit.{Verdict, Failed, CutTo, Thrown, Stopped, Halted, Spent, Visited, gives, and_then, on_failed, reaches}
use Rattle.op_trace.specs.Visit.{on_end, on_condition, is_open, around, selects, fails, raises, shows, solved}
use Rattle.op_trace.specs.Visit.{cut, with_event, pays, spends, Control, TrueGoal, FailGoal, CutGoal, Conjunction, Disjunction, IfThenElse}
use Rattle.op_trace.specs.Visit.{BoxedGoal, control, Visitor, Choice, Redo, Branch, More, Fail, Condition, entered, matched, try_clause}
use Rattle.op_trace.specs.Visit.{alternatives, branches, after, boxed, if_then_else, selected, visit_with, visit_by, visit}
use Rattle.op_trace.proofs.WalkSteps.{IsLess, within-less}
use Rattle.op_moves.specs.Places.{IsWrittenBehind, GoesOn, TakesNothingBack, ActsGoOn, IsSilent, IsCourse}

pub written-same : (xs : List ℕ) → IsWrittenBehind xs xs
written-same xs = ([], sym (append-nil xs))

pub written-then : (xs ys zs : List ℕ) → IsWrittenBehind xs ys → IsWrittenBehind ys zs → IsWrittenBehind xs zs
written-then xs ys zs a b = (a.0 ++ b.0, b.1 ∙ ap (λ l. l ++ b.0) a.1 ∙ append_assoc xs a.0 b.0)

pub goes-same : (w : World) → GoesOn w w
goes-same w = record { looked = omega arith; output = written-same w.output }

-- what was looked at and what was written are as before
pub goes-kept : (w u : World) → u.looked ≡ w.looked → u.output ≡ w.output → GoesOn w u
goes-kept w u l o = record { looked = omega arith; output = ([], o ∙ sym (append-nil w.output)) }

pub goes-then : (w u v : World) → GoesOn w u → GoesOn u v → GoesOn w v
goes-then w u v a b = record {
  looked = let x = a.looked in let y = b.looked in omega arith;
  output = written-then w.output u.output v.output a.output b.output;
}

pub silent-same : (w : World) → IsSilent w w
silent-same w = record { steps = omega arith; events = refl; goes_on = goes-same w }

pub silent-then : (w u v : World) → IsSilent w u → IsSilent u v → IsSilent w v
silent-then w u v a b = record {
  steps = let x = a.steps in let y = b.steps in omega arith;
  events = b.events ∙ a.events;
  goes_on = goes-then w u v a.goes_on b.goes_on;
}

pub silent-course : (w u : World) (ts : List Turn) (v : World) → IsSilent w u → IsCourse u ts v → IsCourse w ts v
silent-course w u [] v a c = silent-then w u v a c
silent-course w u (Shown e x ∷ ts) v a c = (
  record {
    chrono = c.0.chrono ∙ ap (λ n. n + 1) a.events;
    steps = let p = a.steps in let q = c.0.steps in omega arith;
    events = c.0.events ∙ ap (λ n. n + 1) a.events;
    goes_on = goes-then w u x a.goes_on c.0.goes_on;
  },
  c.1,
)
silent-course w u (Solved σ x ∷ ts) v a c = (silent-then w u x a c.0, c.1)

pub course-then : (w : World) (ts : List Turn) (u : World) (us : List Turn) (v : World) → IsCourse w ts u → IsCourse u us v
    → IsCourse w (ts ++ us) v
course-then w [] u us v a b = silent-course w u us v a b
course-then w (Shown e x ∷ ts) u us v a b = (a.0, course-then x ts u us v a.1 b)
course-then w (Solved σ x ∷ ts) u us v a b = (a.0, course-then x ts u us v a.1 b)

-- a walk from a world on, with a budget of b
abbrev Walks : ℕ → World → Visited → Type 0
Walks b w v = IsCourse w v.turns v.world × (v.world.steps ≤ b)

abbrev VisitsWalk : ℕ → Visitor → Type 0
VisitsWalk b visit = (I : List Item) (σ : Bindings Text) (w : World) → w.steps ≤ b → Walks b w (visit I σ w)

walks-from : (b : ℕ) (w u : World) (v : Visited) → IsSilent w u → Walks b u v → Walks b w v
walks-from b w u v a l = (silent-course w u v.turns v.world a l.0, l.1)

walks-gives : (b : ℕ) (r : Verdict) (w : World) → w.steps ≤ b → Walks b w (gives r w)
walks-gives b r w below = (silent-same w, below)

-- a count of steps that rises
with_steps : (w : World) (n : ℕ) → w.steps ≤ n → IsSilent w (record w { steps = n })
with_steps w n h = record { steps = h; events = refl; goes_on = goes-kept w (record w { steps = n }) refl refl }

walks-pays : (t : Bool) (s : Setup) (n : ℕ) (w : World) (h : World → Visited) → nat_le (w.steps + n) s.budget ≡ t → w.steps ≤ s.budget
    → (w.steps + n ≤ s.budget → Walks s.budget (record w { steps = w.steps + n }) (h (record w { steps = w.steps + n })))
    → Walks s.budget w (pays t s n w h)
walks-pays true s n w h test below l =
    let fits : w.steps + n ≤ s.budget = grind (arith, nat_tests) in
    walks-from s.budget w (record w { steps = w.steps + n }) (h (record w { steps = w.steps + n }))
    (with_steps w (w.steps + n) (omega arith)) (l fits)
walks-pays false s n w h test below l = (with_steps w s.budget below, omega arith)

walks-spends : (s : Setup) (n : ℕ) (w : World) (h : World → Visited) → w.steps ≤ s.budget
    → (w.steps + n ≤ s.budget → Walks s.budget (record w { steps = w.steps + n }) (h (record w { steps = w.steps + n })))
    → Walks s.budget w (spends s n w h)
walks-spends s n w h below l = walks-pays (nat_le (w.steps + n) s.budget) s n w h refl below l

-- what an act has left, with the walk's own counts
silent-act : (w u : World) (n : ℕ) → GoesOn w u → w.steps ≤ n → IsSilent w (record (counted_as w u) { steps = n })
silent-act w u n a h =
    record { steps = h; events = refl; goes_on = record { looked = a.looked; output = a.output } }

walks-acts : (t : Bool) (s : Setup) (a : Act) (w : World) (h : Yield → World → Visited) → TakesNothingBack w a
    → nat_le (w.steps + a.cost) s.budget ≡ t → w.steps ≤ s.budget
    → ((y : Yield) (u : World) → u.steps ≤ s.budget → Walks s.budget u (h y u)) → Walks s.budget w (acts t s a w h)
walks-acts true s a w h back test below l =
    let fits : w.steps + a.cost ≤ s.budget = grind (arith, nat_tests) in
    let u : World = record (counted_as w a.after) { steps = w.steps + a.cost } in
    walks-from s.budget w u (h a.yield u) (silent-act w a.after (w.steps + a.cost) back.after (omega arith)) (l a.yield u fits)
walks-acts false s a w h back test below l = (silent-act w a.interrupted s.budget back.interrupted below, omega arith)

walks-failed : (b : ℕ) (h : World → Visited) (r : Verdict) (w : World) → w.steps ≤ b → Walks b w (h w) → Walks b w (on_failed h r w)
walks-failed b h Failed w below l = l
walks-failed b h (CutTo m) w below l = walks-gives b (CutTo m) w below
walks-failed b h (Thrown x o) w below l = walks-gives b (Thrown x o) w below
walks-failed b h Stopped w below l = walks-gives b Stopped w below
walks-failed b h (Halted i) w below l = walks-gives b (Halted i) w below
walks-failed b h Spent w below l = walks-gives b Spent w below

walks-reaches : (b : ℕ) (t : Bool) (h i : World → Visited) (w : World) → Walks b w (h w) → Walks b w (i w) → Walks b w (reaches t h i w)
walks-reaches b true h i w l m = l
walks-reaches b false h i w l m = m

walks-end : (b k : ℕ) (h : World → Visited) (i : Term Text → List ℕ → World → Visited) (r : Verdict) (w : World) → w.steps ≤ b
    → Walks b w (h w) → ((x : Term Text) (o : List ℕ) → Walks b w (i x o w)) → Walks b w (on_end k h i r w)
walks-end b k h i Failed w below l e = l
walks-end b k h i (CutTo x) w below l e =
    walks-reaches b (same_barrier x (Call k)) h (gives (CutTo x)) w l (walks-gives b (CutTo x) w below)
walks-end b k h i (Thrown x o) w below l e =
    walks-reaches b (is_open k o) (i x (around k o)) (gives (Thrown x o)) w (e x (around k o)) (walks-gives b (Thrown x o) w below)
walks-end b k h i Stopped w below l e = walks-gives b Stopped w below
walks-end b k h i (Halted x) w below l e = walks-gives b (Halted x) w below
walks-end b k h i Spent w below l e = walks-gives b Spent w below

walks-condition : (b c : ℕ) (h : World → Visited) (r : Verdict) (w : World) → w.steps ≤ b → Walks b w (h w)
    → Walks b w (on_condition c h r w)
walks-condition b c h Failed w below l = l
walks-condition b c h (CutTo x) w below l =
    walks-reaches b (same_barrier x (InCondition c)) h (reaches (same_barrier x (AtSuccess c)) (gives Failed) (gives (CutTo x))) w l
    (walks-reaches b (same_barrier x (AtSuccess c)) (gives Failed) (gives (CutTo x)) w (walks-gives b Failed w below)
    (walks-gives b (CutTo x) w below))
walks-condition b c h (Thrown x o) w below l = walks-gives b (Thrown x o) w below
walks-condition b c h Stopped w below l = walks-gives b Stopped w below
walks-condition b c h (Halted i) w below l = walks-gives b (Halted i) w below
walks-condition b c h Spent w below l = walks-gives b Spent w below

walks-then : (b : ℕ) (w : World) (v : Visited) (h : Verdict → World → Visited) → Walks b w v
    → ((r : Verdict) (u : World) → u.steps ≤ b → Walks b u (h r u)) → Walks b w (and_then v h)
walks-then b w v h l k =
    let m : Walks b v.world (h v.verdict v.world) = k v.verdict v.world l.1 in
    (course-then w v.turns v.world (h v.verdict v.world).turns (h v.verdict v.world).world l.0 m.0, m.1)

walks-shows : (b : ℕ) (p : Port) (k : ℕ) (g : Term Text) (σ : Bindings Text) (J : List Item) (w : World) (h : World → Visited)
    → Walks b (with_event w) (h (with_event w)) → Walks b w (shows p k g σ J w h)
walks-shows b p k g σ J w h l =
    ((record { chrono = refl; steps = omega arith; events = refl; goes_on = goes-kept w (with_event w) refl refl }, l.0), l.1)

walks-ends : (b k : ℕ) (g : Term Text) (σ : Bindings Text) (J : List Item) (r : Verdict) (w : World) → w.steps ≤ b
    → Walks b w (ends k g σ J r w)
walks-ends b k g σ J r w below =
    walks-end b k (fails k g σ J) (raises k g σ J) r w below
    (walks-shows b port.Fail k g σ J w (gives Failed) (walks-gives b Failed (with_event w) below))
    (λ x o. walks-shows b port.Exception k g σ J w (gives (Thrown x o)) (walks-gives b (Thrown x o) (with_event w) below))

walks-matched : (visit : Visitor) (s : Setup) (c : Clause) (k : ℕ) (g : Term Text) (J : List Item) (w : World) (o : Option (Result Text))
    → VisitsWalk s.budget visit → w.steps ≤ s.budget → IsLess (s.budget - w.steps) o → Walks s.budget w (matched visit s c k g J w o)
walks-matched visit s c k g J w None lv below less = (with_steps w s.budget below, omega arith)
walks-matched visit s c k g J w (Some (None, left)) lv below less = (with_steps w (s.budget - left) (omega arith), omega arith)
walks-matched visit s c k g J w (Some (Some τ, left)) lv below less =
    let up : w.steps ≤ s.budget - left = omega arith in
    let in_budget : s.budget - left ≤ s.budget = omega arith in
    let u : World = record w { steps = s.budget - left } in
    let goes : World → Visited = λ x. visit (entered w.variables c k g J) τ (record x { variables = x.variables + c.variables }) in
    walks-from s.budget w u (spends s c.variables u goes) (with_steps w (s.budget - left) up)
    (walks-spends s c.variables u goes in_budget (λ fits.
    let x : World = record u { steps = u.steps + c.variables } in
    let y : World = record x { variables = x.variables + c.variables } in
    walks-from s.budget x y (visit (entered w.variables c k g J) τ y)
    (record { steps = omega arith; events = refl; goes_on = goes-kept x y refl refl })
    (lv (entered w.variables c k g J) τ y fits)))

walks-clause : (visit : Visitor) (s : Setup) (c : Clause) (k : ℕ) (g : Term Text) (σ : Bindings Text) (J : List Item) (w : World)
    → VisitsWalk s.budget visit → w.steps ≤ s.budget → Walks s.budget w (try_clause visit s c k g σ J w)
walks-clause visit s c k g σ J w lv below =
    walks-spends s 1 w _ below (λ fits. walks-matched visit s c k g J (record w { steps = w.steps + 1 }) _ lv fits
    (within-less {A = Option (Bindings Text)} (s.budget - (w.steps + 1)) (solve text_eq (s.budget - (w.steps + 1)) σ
    ((g, shift {N = Text} w.variables c.head) ∷ []))))

walks-alternatives : (visit : Visitor) (s : Setup) (cs : List Clause) (k : ℕ) (g : Term Text) (σ : Bindings Text) (J : List Item)
    (r : Verdict) (w : World) → VisitsWalk s.budget visit → w.steps ≤ s.budget → Walks s.budget w (alternatives visit s cs k g σ J r w)
walks-alternatives visit s [] k g σ J r w lv below = walks-gives s.budget r w below
walks-alternatives visit s (c ∷ cs) k g σ J r w lv below =
    walks-failed s.budget _ r w below
    (walks-then s.budget w (try_clause visit s c k g σ J w) (alternatives visit s cs k g σ J)
    (walks-clause visit s c k g σ J w lv below) (λ q u h. walks-alternatives visit s cs k g σ J q u lv h))

walks-branches : (visit : Visitor) (s : Setup) (t : Term Text) (m : Barrier) (σ : Bindings Text) (J : List Item) (w : World)
    → VisitsWalk s.budget visit → w.steps ≤ s.budget → Walks s.budget w (branches visit s t m σ J w)
walks-branches visit s t m σ J w lv below =
    walks-spends s 1 w _ below (λ fits. lv (Goal t m ∷ J) σ (record w { steps = w.steps + 1 }) fits)

walks-again : (visit : Visitor) (s : Setup) (t : Execution) (k : ℕ) (g : Term Text) (σ : Bindings Text) (J : List Item) (w : World)
    → VisitsWalk s.budget visit → w.steps ≤ s.budget → Walks s.budget w (executes_again visit s t k g σ J w)
walks-again visit s t k g σ J w lv below =
    walks-spends s 1 w _ below (λ fits. lv (Execute t k g ∷ J) σ (record w { steps = w.steps + 1 }) fits)

walks-caught : (visit : Visitor) (s : Setup) (k : ℕ) (g : Term Text) (σ : Bindings Text) (J : List Item) (b : Term Text) (o : List ℕ)
    (w : World) (q : Option (Result Text))
    → VisitsWalk s.budget visit → w.steps ≤ s.budget → IsLess (s.budget - w.steps) q
    → Walks s.budget w (caught visit s k g σ J b o w q)
walks-caught visit s k g σ J b o w None lv below less = (with_steps w s.budget below, omega arith)
walks-caught visit s k g σ J b o w (Some (None, left)) lv below less =
    let up : w.steps ≤ s.budget - left = omega arith in
    let u : World = record w { steps = s.budget - left } in
    let in_budget : s.budget - left ≤ s.budget = omega arith in
    walks-from s.budget w u (raises k g σ J b o u) (with_steps w (s.budget - left) up)
    (walks-shows s.budget port.Exception k g σ J u (gives (Thrown b o)) (walks-gives s.budget (Thrown b o) (with_event u) in_budget))
walks-caught visit s k g σ J b o w (Some (Some τ, left)) lv below less =
    let u : World = record w { steps = s.budget - left } in
    let up : w.steps ≤ s.budget - left = omega arith in
    let in_budget : s.budget - left ≤ s.budget = omega arith in
    walks-from s.budget w u (and_then (executes_again visit s Recovery k g τ J u) (ends k g σ J)) (with_steps w (s.budget - left) up)
    (walks-then s.budget u (executes_again visit s Recovery k g τ J u) (ends k g σ J)
    (walks-again visit s Recovery k g τ J u lv in_budget) (λ r x h. walks-ends s.budget k g σ J r x h))

walks-catches : (visit : Visitor) (s : Setup) (k : ℕ) (g : Term Text) (σ : Bindings Text) (J : List Item) (b : Term Text) (o : List ℕ)
    (w : World) → VisitsWalk s.budget visit → w.steps ≤ s.budget → Walks s.budget w (catches visit s k g σ J b o w)
walks-catches visit s k g σ J b o w lv below =
    walks-caught visit s k g σ J b o w _ lv below
    (within-less {A = Option (Bindings Text)} (s.budget - w.steps) (solve text_eq (s.budget - w.steps) σ ((b, catcher_of g) ∷ [])))

walks-after : (visit : Visitor) (s : Setup) (c : Choice) (r : Verdict) (w : World) → VisitsWalk s.budget visit → w.steps ≤ s.budget
    → Walks s.budget w (after visit s c r w)
walks-after visit s (Redo k g σ J) r w lv below =
    walks-failed s.budget _ r w below
    (walks-shows s.budget port.Redo k g σ J w (gives Failed) (walks-gives s.budget Failed (with_event w) below))
walks-after visit s (Branch t m σ J) r w lv below =
    walks-failed s.budget (branches visit s t m σ J) r w below (walks-branches visit s t m σ J w lv below)
walks-after visit s (More cs k g σ J) r w lv below = walks-alternatives visit s cs k g σ J r w lv below
walks-after visit s (Again t k g σ J) r w lv below =
    walks-failed s.budget (executes_again visit s t k g σ J) r w below (walks-again visit s t k g σ J w lv below)
walks-after visit s (Fail k g σ J) r w lv below = walks-ends s.budget k g σ J r w below
walks-after visit s (Catch k g σ J) r w lv below =
    walks-end s.budget k (fails k g σ J) (catches visit s k g σ J) r w below
    (walks-shows s.budget port.Fail k g σ J w (gives Failed) (walks-gives s.budget Failed (with_event w) below))
    (λ x o. walks-catches visit s k g σ J x o w lv below)
walks-after visit s (Condition c t m σ J) r w lv below =
    walks-condition s.budget c (branches visit s t m σ J) r w below (walks-branches visit s t m σ J w lv below)

walks-entered : (visit : Visitor) (s : Setup) (i : Inside) (k : ℕ) (g : Term Text) (σ : Bindings Text) (J : List Item) (w : World)
    → VisitsWalk s.budget visit → w.steps ≤ s.budget → Walks s.budget w (entered_box visit s i k g σ J w)
walks-entered visit s (Clauses cs) k g σ J w lv below = walks-alternatives visit s cs k g σ J Failed w lv below
walks-entered visit s WithoutProcedure k g σ J w lv below = lv (Execute First k g ∷ J) σ w below
walks-entered visit s Protected k g σ J w lv below = lv (Execute First k g ∷ J) σ w below

walks-boxed : (visit : Visitor) (s : Setup) (g : Term Text) (J : List Item) (σ : Bindings Text) (w : World)
    → VisitsWalk s.budget visit → w.steps ≤ s.budget → Walks s.budget w (boxed visit s g J σ w)
walks-boxed visit s g J σ w lv below =
    let k : ℕ = w.calls + 1 in
    let called : World = record w { calls = k } in
    let u : World = with_event called in
    let i : Inside = inside w.database g in
    let goes : World → Visited = λ x. and_then (entered_box visit s i k g σ J x) (after visit s (last_choice i k g σ J)) in
    walks-from s.budget w called (shows port.Call k g σ J called goes)
    (record { steps = omega arith; events = refl; goes_on = goes-kept w called refl refl })
    (walks-shows s.budget port.Call k g σ J called goes
    (walks-then s.budget u (entered_box visit s i k g σ J u) (after visit s (last_choice i k g σ J))
    (walks-entered visit s i k g σ J u lv below) (λ r x h. walks-after visit s (last_choice i k g σ J) r x lv h)))

-- a walk of the rest of some items, from any bindings
abbrev RestWalks : ℕ → (Bindings Text → World → Visited) → Type 0
RestWalks b rest = (σ : Bindings Text) (w : World) → w.steps ≤ b → Walks b w (rest σ w)

walks-exits : (visit : Visitor) (s : Setup) (rest : Bindings Text → World → Visited) (k : ℕ) (g : Term Text) (J : List Item)
    (σ : Bindings Text) (w : World) → VisitsWalk s.budget visit → RestWalks s.budget rest → w.steps ≤ s.budget
    → Walks s.budget w (exits visit s rest k g J σ w)
walks-exits visit s rest k g J σ w lv lr below =
    walks-shows s.budget port.Exit k g σ J w (λ x. and_then (rest σ x) (after visit s (Redo k g σ J)))
    (walks-then s.budget (with_event w) (rest σ (with_event w)) (after visit s (Redo k g σ J)) (lr σ (with_event w) below)
    (λ r u h. walks-after visit s (Redo k g σ J) r u lv h))

walks-cut : (b : ℕ) (w : World) (m : Barrier) (v : Visited) → Walks b w v → Walks b w (and_then v (cut m))
walks-cut b w m v l =
    walks-then b w v (cut m) l (λ r u h. walks-failed b (gives (CutTo m)) r u h (walks-gives b (CutTo m) u h))

walks-if : (visit : Visitor) (s : Setup) (c t e : Term Text) (m : Barrier) (J : List Item) (σ : Bindings Text) (w : World)
    → VisitsWalk s.budget visit → w.steps ≤ s.budget → Walks s.budget w (if_then_else visit s c t e m J σ w)
walks-if visit s c t e m J σ w lv below =
    let n : ℕ = w.conditions + 1 in
    let u : World = record w { conditions = n } in
    walks-from s.budget w u
    (and_then (visit (Goal c (InCondition n) ∷ Cut (AtSuccess n) ∷ Goal t m ∷ J) σ u) (after visit s (Condition n e m σ J)))
    (record { steps = omega arith; events = refl; goes_on = goes-kept w u refl refl })
    (walks-then s.budget u (visit (Goal c (InCondition n) ∷ Cut (AtSuccess n) ∷ Goal t m ∷ J) σ u) (after visit s (Condition n e m σ J))
    (lv (Goal c (InCondition n) ∷ Cut (AtSuccess n) ∷ Goal t m ∷ J) σ u below)
    (λ r x h. walks-after visit s (Condition n e m σ J) r x lv h))

walks-selected : (visit : Visitor) (s : Setup) (c : Control) (t : Term Text) (m : Barrier) (J : List Item) (σ : Bindings Text) (w : World)
    → VisitsWalk s.budget visit → w.steps ≤ s.budget → Walks s.budget w (selected visit s c t m J σ w)
walks-selected visit s TrueGoal t m J σ w lv below = lv J σ w below
walks-selected visit s FailGoal t m J σ w lv below = walks-gives s.budget Failed w below
walks-selected visit s CutGoal t m J σ w lv below = walks-cut s.budget w m (visit J σ w) (lv J σ w below)
walks-selected visit s (Conjunction a b) t m J σ w lv below = lv (Goal a m ∷ Goal b m ∷ J) σ w below
walks-selected visit s (Disjunction a b) t m J σ w lv below =
    walks-then s.budget w (visit (Goal a m ∷ J) σ w) (after visit s (Branch b m σ J)) (lv (Goal a m ∷ J) σ w below)
    (λ r u h. walks-after visit s (Branch b m σ J) r u lv h)
walks-selected visit s (IfThenElse c a b) t m J σ w lv below = walks-if visit s c a b m J σ w lv below
walks-selected visit s BoxedGoal t m J σ w lv below = walks-boxed visit s t J σ w lv below

walks-selects : (visit : Visitor) (s : Setup) (t : Term Text) (m : Barrier) (J : List Item) (σ : Bindings Text) (w : World)
    → VisitsWalk s.budget visit → w.steps ≤ s.budget → Walks s.budget w (selects visit s t m J σ w)
walks-selects visit s t m J σ w lv below =
    walks-spends s 1 w _ below (λ fits. walks-selected visit s (control t) t m J σ (record w { steps = w.steps + 1 }) lv fits)

walks-yields : (visit : Visitor) (s : Setup) (rest : Bindings Text → World → Visited) (k : ℕ) (g : Term Text) (J : List Item)
    (σ : Bindings Text) (y : Yield) (w : World)
    → VisitsWalk s.budget visit → RestWalks s.budget rest → w.steps ≤ s.budget → Walks s.budget w (yields visit s rest k g J σ y w)
walks-yields visit s rest k g J σ Fails w lv lr below = walks-gives s.budget Failed w below
walks-yields visit s rest k g J σ (Succeeds τ) w lv lr below = walks-exits visit s rest k g J τ w lv lr below
walks-yields visit s rest k g J σ (Succeeds_again τ t) w lv lr below =
    walks-then s.budget w (exits visit s rest k g J τ w) (after visit s (Again t k g σ J)) (walks-exits visit s rest k g J τ w lv lr below)
    (λ r u h. walks-after visit s (Again t k g σ J) r u lv h)
walks-yields visit s rest k g J σ (Runs b) w lv lr below = walks-selects visit s b (Call k) (Exit k g ∷ J) σ w lv below
walks-yields visit s rest k g J σ (Throws b) w lv lr below = walks-gives s.budget (Thrown b (k ∷ open_boxes J)) w below
walks-yields visit s rest k g J σ (Halts i) w lv lr below = walks-gives s.budget (Halted i) w below

walks-solved : (s : Setup) (σ : Bindings Text) (w : World) → w.steps ≤ s.budget → Walks s.budget w (solved s σ w)
walks-solved s σ w below =
    let u : World = record w { solutions = w.solutions + 1 } in
    ((record { steps = omega arith; events = refl; goes_on = goes-kept w u refl refl }, silent-same u), below)

walks-with : (visit : Visitor) (s : Setup) → ActsGoOn s → VisitsWalk s.budget visit → VisitsWalk s.budget (visit_with visit s)
unfolding visit_with
walks-with visit s acts_go lv [] σ w below = walks-solved s σ w below
walks-with visit s acts_go lv (Exit k g ∷ J) σ w below =
    walks-exits visit s (visit_with visit s J) k g J σ w lv (walks-with visit s acts_go lv J) below
walks-with visit s acts_go lv (Execute t k g ∷ J) σ w below =
    let a : Act = s.act (s.budget - w.steps) t g σ w in
    walks-acts (nat_le (w.steps + a.cost) s.budget) s a w (yields visit s (visit_with visit s J) k g J σ)
    (acts_go (s.budget - w.steps) t g σ w) refl below
    (λ y u h. walks-yields visit s (visit_with visit s J) k g J σ y u lv (walks-with visit s acts_go lv J) h)
walks-with visit s acts_go lv (Cut m ∷ J) σ w below =
    walks-cut s.budget w m (visit_with visit s J σ w) (walks-with visit s acts_go lv J σ w below)
walks-with visit s acts_go lv (Goal t m ∷ J) σ w below = walks-selects visit s t m J σ w lv below

walks-by : (f : ℕ) (s : Setup) → ActsGoOn s → VisitsWalk s.budget (visit_by f s)
unfolding visit_by
walks-by zero s acts_go I σ w below = walks-gives s.budget Spent w below
walks-by (suc f) s acts_go I σ w below = walks-with (visit_by f s) s acts_go (walks-by f s acts_go) I σ w below

pub visit-course : (s : Setup) → ActsGoOn s → (I : List Item) (σ : Bindings Text) (w : World) → w.steps ≤ s.budget
    → IsCourse w (visit s I σ w).turns (visit s I σ w).world
unfolding visit
visit-course s acts_go I σ w below = (walks-by (suc (s.budget - w.steps)) s acts_go I σ w below).0
