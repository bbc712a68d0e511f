-- Each move keeps the bounds on what a machine counts.
use Rattle.std.proofs.Common.{◌≡◌, ℕ, suc, ◌+◌, ◌-◌, ◌*◌, ◌^◌, ◌<◌, ◌≤◌, ◌==◌, nat_le, Bool, true, false, List, [], ◌∷◌, length, Option}
use Rattle.std.proofs.Common.{Some, None, refl, subst, arith, if◌then◌else◌}
use Rattle.std.proofs.lemmas.Bool.Decides.{nat_tests}
use Rattle.op_logic.specs.Term.{Term, shift}
use Rattle.op_logic.specs.Bind.{Bindings, solve, unify, Solved as Result}
use Rattle.op_trace.specs.declared.barrier.Barrier.{Barrier}
use Rattle.op_trace.specs.declared.barrier.Barrier.TheVariants.{Call}
use Rattle.op_trace.specs.Database.{Text, text_eq, Clause}
use Rattle.op_trace.specs.World.{World, Execution, Recovery, Item, Goal, Cut, Exit, Execute, open_boxes}
use Rattle.op_trace.specs.Act.{Yield, Fails, Succeeds, Succeeds_again, Runs, Throws, Halts, Act, Setup}
use Rattle.op_trace.specs.Visit.{is_open, around, Stopped, Control, TrueGoal, FailGoal, CutGoal}
use Rattle.op_trace.specs.Visit.{Conjunction, Disjunction, IfThenElse, BoxedGoal, control}
use Rattle.op_trace.specs.Visit.{Inside, Clauses, WithoutProcedure, Protected, inside, last_choice, catcher_of, counted_as, is_true}
use Rattle.op_trace.specs.Visit.{entered, Choice, Redo, Branch, More, Again, Fail, Catch, Condition}
use Rattle.op_trace.proofs.WalkSteps.{IsLess, within-less}
use Rattle.op_machine.specs.Resume.{stays, goes, keep, with_more, State, Forward, Backward, Throwing, Over}
use Rattle.op_machine.specs.Resume.{Moved, paid, chosen, head_unified, tried}
use Rattle.op_machine.specs.Resume.{branched, entered_state, acted, yielded, executed_again, raised, ball_unified, ball_met, leaving, move}
use Rattle.op_machine.specs.inner.Bounds.{pending, IsNested, AreNested, event_bound, Counts, Counted}

-- the bound rises with the steps
pub bound-more : (n d : ℕ) → event_bound n + (4 * n + 6) ≤ event_bound (n + suc d)
bound-more n d = grind arith

pub bound-up : (n m : ℕ) → n < m → event_bound n + (4 * n + 6) ≤ event_bound m
bound-up n m h =
    let e : n + suc (m - suc n) ≡ m = omega arith in
    subst (λ x. event_bound n + (4 * n + 6) ≤ event_bound x) e (bound-more n (m - suc n))

pub bound-same : (n m : ℕ) → n ≤ m → event_bound n ≤ event_bound m
bound-same n m h = grind arith

-- with a budget of at most a thousand million, events have numbers below 2^63
pub events-fit : (n : ℕ) → n ≤ 1000000000 → event_bound n < 2 ^ 63
events-fit n h = omega (arith, bound-same n 1000000000 h)

pub nested-more : (n m : ℕ) (I : List Item) → n ≤ m → IsNested n I → IsNested m I
nested-more n m [] h i = tt
nested-more n m (Goal t b ∷ J) h i = nested-more n m J h i
nested-more n m (Cut b ∷ J) h i = (i.0, nested-more n m J h i.1)
nested-more n m (Exit k g ∷ J) h i = (i.0, omega arith, nested-more n m J h i.2)
nested-more n m (Execute t k g ∷ J) h i = (i.0, omega arith, nested-more n m J h i.2)

pub all-nested-more : (n m : ℕ) (K : List Choice) → n ≤ m → AreNested n K → AreNested m K
all-nested-more n m [] h a = tt
all-nested-more n m (Redo k g σ J ∷ K) h a = (nested-more n m (Exit k g ∷ J) h a.0, all-nested-more n m K h a.1)
all-nested-more n m (More cs k g σ J ∷ K) h a = (nested-more n m (Exit k g ∷ J) h a.0, all-nested-more n m K h a.1)
all-nested-more n m (Again t k g σ J ∷ K) h a = (nested-more n m (Exit k g ∷ J) h a.0, all-nested-more n m K h a.1)
all-nested-more n m (Branch t b σ J ∷ K) h a = (nested-more n m J h a.0, all-nested-more n m K h a.1)
all-nested-more n m (Condition c t b σ J ∷ K) h a = (nested-more n m J h a.0, all-nested-more n m K h a.1)
all-nested-more n m (Fail k g σ J ∷ K) h a = (nested-more n m (Exit k g ∷ J) h a.0, all-nested-more n m K h a.1)
all-nested-more n m (Catch k g σ J ∷ K) h a = (nested-more n m (Exit k g ∷ J) h a.0, all-nested-more n m K h a.1)

-- no more boxes are open than numbers were given out
pub nested-length : (n : ℕ) (I : List Item) → IsNested n I → length (open_boxes I) ≤ n
nested-length n [] i = omega arith
nested-length n (Goal t b ∷ J) i = nested-length n J i
nested-length n (Cut b ∷ J) i = nested-length n J i.1
nested-length n (Exit k g ∷ J) i = omega (arith, i.0, i.1)
nested-length n (Execute t k g ∷ J) i = omega (arith, i.0, i.1)

pub pending-below : (c : Choice) (K : List Choice) → pending K ≤ pending (c ∷ K)
pending-below (Redo k g σ J) K = omega arith
pending-below (Branch t m σ J) K = omega arith
pending-below (More cs k g σ J) K = omega arith
pending-below (Again t k g σ J) K = omega arith
pending-below (Fail k g σ J) K = omega arith
pending-below (Catch k g σ J) K = omega arith
pending-below (Condition n t m σ J) K = omega arith

pub nested-below : (n : ℕ) (c : Choice) (K : List Choice) → AreNested n (c ∷ K) → AreNested n K
nested-below n (Redo k g σ J) K a = a.1
nested-below n (Branch t m σ J) K a = a.1
nested-below n (More cs k g σ J) K a = a.1
nested-below n (Again t k g σ J) K a = a.1
nested-below n (Fail k g σ J) K a = a.1
nested-below n (Catch k g σ J) K a = a.1
nested-below n (Condition c t m σ J) K a = a.1

-- what a cut keeps shows no more events than what it found
pub keep-pending : (m : Barrier) (K : List Choice) → pending (keep m K) ≤ pending K
keep-pending m [] = omega arith
keep-pending m (c ∷ K) = go (stays c m) (goes c m) (keep-pending m K)
  where
    go : (a b : Bool) → pending (keep m K) ≤ pending K → pending (if a then c ∷ K else (if b then K else keep m K)) ≤ pending (c ∷ K)
    go true b below = omega arith
    go false true below = pending-below c K
    go false false below = omega (arith, below, pending-below c K)

pub keep-nested : (n : ℕ) (m : Barrier) (K : List Choice) → AreNested n K → AreNested n (keep m K)
keep-nested n m [] a = a
keep-nested n m (c ∷ K) a = go (stays c m) (goes c m) (keep-nested n m K (nested-below n c K a))
  where
    go : (p q : Bool) → AreNested n (keep m K) → AreNested n (if p then c ∷ K else (if q then K else keep m K))
    go true q below = a
    go false true below = nested-below n c K a
    go false false below = below

pub paid-counted : (t : Bool) (s : Setup) (n : ℕ) (w : World) (h : World → Moved) → nat_le (w.steps + n) s.budget ≡ t
    → Counts s w → (w.events ≤ event_bound w.steps) → (w.solutions ≤ suc w.steps)
    → (w.steps + n ≤ s.budget → Counted s (h (record w { steps = w.steps + n })).state)
    → Counted s (paid t s n w h).state
paid-counted true s n w h test c e q k = let fits : w.steps + n ≤ s.budget = grind (arith, nat_tests) in k fits
paid-counted false s n w h test c e q k =
    let more : event_bound w.steps ≤ event_bound s.budget = bound-same w.steps s.budget c.steps in (
      record { steps = omega arith; calls = omega (arith, c.steps, c.calls); conditions = omega (arith, c.steps, c.conditions) },
      omega
          arith,
      omega (arith, c.steps),
    )

pub more-nested : (n : ℕ) (cs : List Clause) (k : ℕ) (g : Term Text) (σ : Bindings Text) (J : List Item) (K : List Choice)
    → IsNested n (Exit k g ∷ J) → AreNested n K → AreNested n (with_more cs k g σ J K)
more-nested n [] k g σ J K i a = a
more-nested n (c ∷ cs) k g σ J K i a = (i, a)

pub more-pending : (cs : List Clause) (k : ℕ) (g : Term Text) (σ : Bindings Text) (J : List Item) (K : List Choice)
    → pending (with_more cs k g σ J K) ≡ pending K
more-pending [] k g σ J K = refl
more-pending (c ∷ cs) k g σ J K = refl

-- a box that was entered, over its own choice point
pub box-counted : (i : Inside) (s : Setup) (k : ℕ) (g : Term Text) (J : List Item) (K : List Choice) (σ : Bindings Text) (w : World)
    → Counts s w → w.solutions ≤ w.steps → w.events + (2 * suc (length (open_boxes J)) + pending K) ≤ event_bound w.steps
    → IsNested w.calls (Exit k g ∷ J) → AreNested w.calls K
    → Counted s (entered_state i k g J K σ w)
box-counted (Clauses cs) s k g J K σ w counts sol ev nest all =
    (counts, omega (arith, ev, more-pending cs k g σ J K), omega (arith, sol), more-nested w.calls cs k g σ J K nest all)
box-counted WithoutProcedure s k g J K σ w counts sol ev nest all = (counts, ev, sol, nest, all)
box-counted Protected s k g J K σ w counts sol ev nest all = (counts, ev, sol, nest, all)

-- a box's own choice point shows one event
pub last-pending : (i : Inside) (k : ℕ) (g : Term Text) (σ : Bindings Text) (J : List Item) (K : List Choice)
    → pending (last_choice i k g σ J ∷ K) ≡ suc (pending K)
last-pending (Clauses cs) k g σ J K = refl
last-pending WithoutProcedure k g σ J K = refl
last-pending Protected k g σ J K = refl

pub last-nested : (i : Inside) (n k : ℕ) (g : Term Text) (σ : Bindings Text) (J : List Item) (K : List Choice)
    → IsNested n (Exit k g ∷ J) → AreNested n K → AreNested n (last_choice i k g σ J ∷ K)
last-nested (Clauses cs) n k g σ J K nest all = (nest, all)
last-nested WithoutProcedure n k g σ J K nest all = (nest, all)
last-nested Protected n k g σ J K nest all = (nest, all)

-- a goal of which a step was paid, from n steps
pub chosen-counted : (q : Control) (s : Setup) (n : ℕ) (t : Term Text) (m : Barrier) (J : List Item) (K : List Choice) (σ : Bindings Text)
    (w : World)
    → w.steps ≡ n + 1 → w.steps ≤ s.budget → w.calls ≤ n → w.conditions ≤ n → w.solutions ≤ n
    → w.events + (2 * length (open_boxes J) + pending K) ≤ event_bound n → IsNested w.calls J → AreNested w.calls K
    → Counted s (chosen q t m J K σ w).state
chosen-counted q s n t m J K σ w e below c con sol ev nest all = go q
  where
    up : event_bound n + (4 * n + 6) ≤ event_bound w.steps
    up = bound-up n w.steps (omega arith)

    go : (q : Control) → Counted s (chosen q t m J K σ w).state
    go TrueGoal = (record { steps = below; calls = omega arith; conditions = omega arith }, omega (arith, up), omega arith, nest, all)
    go FailGoal = (record { steps = below; calls = omega arith; conditions = omega arith }, omega (arith, up), omega arith, all)
    go CutGoal = (
      record { steps = below; calls = omega arith; conditions = omega arith },
      omega
          (arith, up, keep-pending m K),
      omega arith,
      nest,
      keep-nested w.calls m K all,
    )
    go (Disjunction a b) = (
      record { steps = below; calls = omega arith; conditions = omega arith },
      omega (arith, up),
      omega arith,
      nest,
      (nest, all),
    )
    go (IfThenElse x a b) = (
      record { steps = below; calls = omega arith; conditions = omega arith },
      omega (arith, up),
      omega arith,
      (tt, nest),
      (nest, all),
    )
    go (Conjunction a b) = (
      record { steps = below; calls = omega arith; conditions = omega arith },
      omega
          (arith, up),
      omega arith,
      nest,
      all,
    )
    go BoxedGoal =
        let more : w.calls ≤ w.calls + 1 = omega arith in
        let deep : length (open_boxes J) ≤ w.calls = nested-length w.calls J nest in
        let this : IsNested (w.calls + 1) (Exit (w.calls + 1) t ∷ J) =
        (omega arith, omega arith, nested-more w.calls (w.calls + 1) J more nest) in
        let i : Inside = inside w.database t in
        box-counted i s (w.calls + 1) t J (last_choice i (w.calls + 1) t σ J ∷ K) σ
        (record w { calls = w.calls + 1; events = w.events + 1 })
        (record { steps = below; calls = omega arith; conditions = omega arith }) (omega arith)
        (omega (arith, up, last-pending i (w.calls + 1) t σ J K)) this
        (last-nested i (w.calls + 1) (w.calls + 1) t σ J K this (all-nested-more w.calls (w.calls + 1) K more all))

pub entered-nested : (f : ℕ) (c : Clause) (k : ℕ) (g : Term Text) (J : List Item) (n : ℕ) → IsNested n (Exit k g ∷ J)
    → IsNested n (entered f c k g J)
entered-nested f c k g J n i = go (is_true c.body)
  where
    go : (b : Bool) → IsNested n (if b then Exit k g ∷ J else Goal (shift f c.body) (Call k) ∷ Exit k g ∷ J)
    go true = i
    go false = i

pub entered-open : (f : ℕ) (c : Clause) (k : ℕ) (g : Term Text) (J : List Item) → length (open_boxes (entered f c k g J))
    ≡ suc (length (open_boxes J))
entered-open f c k g J = go (is_true c.body)
  where
    go : (b : Bool) → length (open_boxes (if b then Exit k g ∷ J else Goal (shift f c.body) (Call k) ∷ Exit k g ∷ J))
        ≡ suc (length (open_boxes J))
    go true = refl
    go false = refl

-- a clause that was tried, from n steps, with one step paid
pub met-counted : (s : Setup) (n : ℕ) (c : Clause) (k : ℕ) (g : Term Text) (J : List Item) (K : List Choice) (w : World)
    (o : Option (Result Text))
    → w.steps ≡ n + 1 → w.steps ≤ s.budget → w.calls ≤ n → w.conditions ≤ n → w.solutions ≤ suc n → w.events + pending K ≤ event_bound n
    → IsNested w.calls (Exit k g ∷ J) → AreNested w.calls K → IsLess (s.budget - w.steps) o
    → Counted s (head_unified s c k g J K w o).state
met-counted s n c k g J K w None e below cal con sol ev nest all less =
    let more : event_bound n ≤ event_bound s.budget = bound-same n s.budget (omega arith) in
    (record { steps = omega arith; calls = omega arith; conditions = omega arith }, omega (arith, more), omega arith)
met-counted s n c k g J K w (Some (None, left)) e below cal con sol ev nest all less =
    let more : event_bound n ≤ event_bound (s.budget - left) = bound-same n (s.budget - left) (omega arith) in
    (record { steps = omega arith; calls = omega arith; conditions = omega arith }, omega (arith, more), omega arith, all)
met-counted s n c k g J K w (Some (Some τ, left)) e below cal con sol ev nest all less =
    let here : event_bound n ≤ event_bound (s.budget - left) = bound-same n (s.budget - left) (omega arith) in
    paid-counted (nat_le (s.budget - left + c.variables) s.budget) s c.variables (record w { steps = s.budget - left }) _ refl
    (record { steps = omega arith; calls = omega arith; conditions = omega arith }) (omega (arith, here)) (omega arith)
    (λ fits.
    let up : event_bound n + (4 * n + 6) ≤ event_bound (s.budget - left + c.variables) =
    bound-up n (s.budget - left + c.variables) (omega arith) in
    let deep : length (open_boxes J) < n + 1 = omega (arith, nest.0, nest.1) in (
      record { steps = fits; calls = omega arith; conditions = omega arith },
      omega
          (arith, up, entered-open w.variables c k g J),
      omega arith,
      entered-nested w.variables c k g J w.calls nest,
      all,
    ))

pub tried-counted : (s : Setup) (c : Clause) (k : ℕ) (g : Term Text) (σ : Bindings Text) (J : List Item) (K : List Choice) (w : World)
    → Counts s w → w.solutions ≤ suc w.steps → w.events + pending K ≤ event_bound w.steps
    → IsNested w.calls (Exit k g ∷ J) → AreNested w.calls K
    → Counted s (tried s c k g σ J K w).state
tried-counted s c k g σ J K w counts sol ev nest all =
    paid-counted (nat_le (w.steps + 1) s.budget) s 1 w _ refl counts (omega arith) sol
    (λ fits. met-counted s w.steps c k g J K (record w { steps = w.steps + 1 })
    (unify text_eq (s.budget - (w.steps + 1)) σ ((g, shift w.variables c.head) ∷ []))
    refl fits counts.calls counts.conditions sol ev nest all
    (within-less {A = Option (Bindings Text)} (s.budget - (w.steps + 1))
    (solve text_eq (s.budget - (w.steps + 1)) σ ((g, shift {N = Text} w.variables c.head) ∷ []))))

-- another branch that is tried
pub branched-counted : (s : Setup) (t : Term Text) (m : Barrier) (σ : Bindings Text) (J : List Item) (K : List Choice) (w : World)
    → Counts s w → w.solutions ≤ suc w.steps → w.events + pending K ≤ event_bound w.steps
    → IsNested w.calls J → AreNested w.calls K
    → Counted s (branched s t m σ J K w).state
branched-counted s t m σ J K w counts sol ev nest all =
    paid-counted (nat_le (w.steps + 1) s.budget) s 1 w _ refl counts (omega arith) sol
    (λ fits.
    let up : event_bound w.steps + (4 * w.steps + 6) ≤ event_bound (w.steps + 1) = bound-up w.steps (w.steps + 1) (omega arith) in
    let deep : length (open_boxes J) ≤ w.calls = nested-length w.calls J nest in (
      record { steps = fits; calls = omega (arith, counts.calls); conditions = omega (arith, counts.conditions) },
      omega
          (arith, up, deep, counts.calls),
      omega arith,
      nest,
      all,
    ))

-- a try: it fails, or its box exits
pub acted-counted : (t : Bool) (s : Setup) (a : Act) (k : ℕ) (g : Term Text) (J : List Item) (K : List Choice) (σ : Bindings Text)
    (w : World)
    → nat_le (w.steps + a.cost) s.budget ≡ t → Counts s w → w.solutions ≤ w.steps
    → w.events + (2 * suc (length (open_boxes J)) + pending K) ≤ event_bound w.steps → IsNested w.calls (Exit k g ∷ J) → AreNested w.calls K
    → Counted s (acted t s a w (yielded k g J K σ)).state
acted-counted true s a k g J K σ w test counts sol ev nest all = go a.yield
  where
    fits : w.steps + a.cost ≤ s.budget
    fits = grind (arith, nat_tests)

    more : event_bound w.steps ≤ event_bound (w.steps + a.cost)
    more = bound-same w.steps (w.steps + a.cost) (omega arith)

    go : (y : Yield) → Counted s (yielded k g J K σ y (record (counted_as w a.after) { steps = w.steps + a.cost })).state
    go Fails = (
      record { steps = fits; calls = omega (arith, counts.calls); conditions = omega (arith, counts.conditions) },
      omega (arith, ev, more),
      omega (arith, sol),
      all,
    )
    go (Succeeds τ) = (
      record { steps = fits; calls = omega (arith, counts.calls); conditions = omega (arith, counts.conditions) },
      omega (arith, ev, more),
      omega (arith, sol),
      nest,
      all,
    )
    go (Succeeds_again τ x) = (
      record { steps = fits; calls = omega (arith, counts.calls); conditions = omega (arith, counts.conditions) },
      omega (arith, ev, more),
      omega (arith, sol),
      nest,
      (nest, all),
    )
    go (Runs b) = (
      record { steps = fits; calls = omega (arith, counts.calls); conditions = omega (arith, counts.conditions) },
      omega (arith, ev, more),
      omega (arith, sol),
      nest,
      all,
    )
    go (Throws b) = (
      record { steps = fits; calls = omega (arith, counts.calls); conditions = omega (arith, counts.conditions) },
      omega (arith, ev, more),
      omega (arith, sol),
      all,
    )
    go (Halts i) = (
      record { steps = fits; calls = omega (arith, counts.calls); conditions = omega (arith, counts.conditions) },
      omega (arith, ev, more),
      omega (arith, sol),
    )
acted-counted false s a k g J K σ w test counts sol ev nest all =
    let more : event_bound w.steps ≤ event_bound s.budget = bound-same w.steps s.budget counts.steps in (
      record {
        steps = omega arith;
        calls = omega (arith, counts.steps, counts.calls);
        conditions = omega
            (arith, counts.steps, counts.conditions);
      },
      omega (arith, ev, more),
      omega (arith, sol, counts.steps),
    )

-- a further try
pub again-counted : (s : Setup) (t : Execution) (k : ℕ) (g : Term Text) (σ : Bindings Text) (J : List Item) (K : List Choice) (w : World)
    → Counts s w → w.solutions ≤ suc w.steps → w.events + pending K ≤ event_bound w.steps
    → IsNested w.calls (Exit k g ∷ J) → AreNested w.calls K
    → Counted s (executed_again s t k g σ J K w).state
again-counted s t k g σ J K w counts sol ev nest all =
    paid-counted (nat_le (w.steps + 1) s.budget) s 1 w _ refl counts (omega (arith, ev)) sol
    (λ fits.
    let up : event_bound w.steps + (4 * w.steps + 6) ≤ event_bound (w.steps + 1) = bound-up w.steps (w.steps + 1) (omega arith) in
    let deep : length (open_boxes J) < w.calls + 1 = omega (arith, nest.0, nest.1) in (
      record { steps = fits; calls = omega (arith, counts.calls); conditions = omega (arith, counts.conditions) },
      omega (arith, up, ev, deep, counts.calls),
      omega (arith, sol),
      nest,
      all,
    ))

-- a ball that comes to a box which catches
pub unified-counted : (s : Setup) (k : ℕ) (g : Term Text) (σ : Bindings Text) (J : List Item) (K : List Choice) (b : Term Text)
    (o : List ℕ) (w : World) (r : Option (Result Text))
    → Counts s w → w.events + suc (pending K) ≤ event_bound w.steps → w.solutions ≤ suc w.steps → IsNested w.calls (Exit k g ∷ J)
    → AreNested w.calls K → IsLess (s.budget - w.steps) r
    → Counted s (ball_unified s k g σ J K b o w r).state
unified-counted s k g σ J K b o w None c e q nest all less =
    let more : event_bound w.steps ≤ event_bound s.budget = bound-same w.steps s.budget c.steps in (
      record { steps = omega arith; calls = omega (arith, c.steps, c.calls); conditions = omega (arith, c.steps, c.conditions) },
      omega (arith, e, more),
      omega (arith, q, c.steps),
    )
unified-counted s k g σ J K b o w (Some (None, left)) c e q nest all less =
    let up : w.steps ≤ s.budget - left = omega (arith, c.steps, less) in
    let more : event_bound w.steps ≤ event_bound (s.budget - left) = bound-same w.steps (s.budget - left) up in (
      record { steps = omega arith; calls = omega (arith, up, c.calls); conditions = omega (arith, up, c.conditions) },
      omega (arith, e, more),
      omega (arith, q, up),
      all,
    )
unified-counted s k g σ J K b o w (Some (Some τ, left)) c e q nest all less =
    let up : w.steps ≤ s.budget - left = omega (arith, c.steps, less) in
    let more : event_bound w.steps ≤ event_bound (s.budget - left) = bound-same w.steps (s.budget - left) up in
    again-counted s Recovery k g τ J (Fail k g σ J ∷ K) (record w { steps = s.budget - left })
    (record { steps = omega arith; calls = omega (arith, up, c.calls); conditions = omega (arith, up, c.conditions) })
    (omega (arith, q, up)) (omega (arith, e, more)) nest (nest, all)

pub leaving-counted : (s : Setup) (b : Term Text) (o : List ℕ) (K : List Choice) (w : World)
    → Counts s w → w.events + pending K ≤ event_bound w.steps → w.solutions ≤ suc w.steps → AreNested w.calls K
    → Counted s (leaving s b o K w).state
leaving-counted s b o [] w c e q a = (c, omega (arith, e), q)
leaving-counted s b o (Redo k g σ J ∷ K) w c e q a = leaving-counted s b o K w c (omega (arith, e)) q a.1
leaving-counted s b o (Branch t m σ J ∷ K) w c e q a = leaving-counted s b o K w c e q a.1
leaving-counted s b o (More cs k g σ J ∷ K) w c e q a = leaving-counted s b o K w c e q a.1
leaving-counted s b o (Again t k g σ J ∷ K) w c e q a = leaving-counted s b o K w c e q a.1
leaving-counted s b o (Condition n t m σ J ∷ K) w c e q a = leaving-counted s b o K w c e q a.1
leaving-counted s b o (Fail k g σ J ∷ K) w c e q a = go (is_open k o) (leaving-counted s b o K w c (omega (arith, e)) q a.1)
  where
    go : (t : Bool) → Counted s (leaving s b o K w).state
        → Counted s (if t then raised k g σ J K b (around k o) w else leaving s b o K w).state
    go true l = (record { steps = c.steps; calls = c.calls; conditions = c.conditions }, omega (arith, e), q, a.1)
    go false l = l
leaving-counted s b o (Catch k g σ J ∷ K) w c e q a = go (is_open k o) (leaving-counted s b o K w c (omega (arith, e)) q a.1)
  where
    go : (t : Bool) → Counted s (leaving s b o K w).state
        → Counted s (if t then ball_met s k g σ J K b (around k o) w else leaving s b o K w).state
    go true l =
        unified-counted s k g σ J K b (around k o) w (unify text_eq (s.budget - w.steps) σ ((b, catcher_of g) ∷ [])) c e q a.0 a.1
        (within-less {A = Option (Bindings Text)} (s.budget - w.steps)
        (solve text_eq (s.budget - w.steps) σ ((b, catcher_of g) ∷ [])))
    go false l = l

pub move-counted : (s : Setup) (t : State) → Counted s t → Counted s (move s t).state
move-counted s (Forward [] K σ w) h = go (w.solutions + 1 == s.wanted)
  where
    go : (b : Bool) → Counted s (if b then Over Stopped (record w { solutions = w.solutions + 1 }) else Backward K
        (record w { solutions = w.solutions + 1 }))
    go true = (record { steps = h.0.steps; calls = h.0.calls; conditions = h.0.conditions }, omega arith, omega arith)
    go false = (record { steps = h.0.steps; calls = h.0.calls; conditions = h.0.conditions }, omega arith, omega arith, h.4)
move-counted s (Forward (Exit k g ∷ J) K σ w) h =
    (record { steps = h.0.steps; calls = h.0.calls; conditions = h.0.conditions }, omega arith, h.2, h.3.2, (h.3, h.4))
move-counted s (Forward (Cut m ∷ J) K σ w) h = (h.0, omega (arith, h.1, keep-pending m K), h.2, h.3.1, keep-nested w.calls m K h.4)
move-counted s (Forward (Execute t k g ∷ J) K σ w) h =
    let a : Act = s.act (s.budget - w.steps) t g σ w in
    acted-counted (nat_le (w.steps + a.cost) s.budget) s a k g J K σ w refl h.0 h.2 h.1 h.3 h.4
move-counted s (Forward (Goal t m ∷ J) K σ w) h =
    paid-counted (nat_le (w.steps + 1) s.budget) s 1 w _ refl h.0 (omega arith) (omega arith)
    (λ fits. chosen-counted (control t) s w.steps t m J K σ (record w { steps = w.steps + 1 })
    refl fits h.0.calls h.0.conditions h.2 h.1 h.3 h.4)
move-counted s (Backward [] w) h = (record { steps = h.0.steps; calls = h.0.calls; conditions = h.0.conditions }, omega arith, h.2)
move-counted s (Backward (Redo k g σ J ∷ K) w) h =
    (record { steps = h.0.steps; calls = h.0.calls; conditions = h.0.conditions }, omega arith, h.2, h.3.1)
move-counted s (Backward (Branch t m σ J ∷ K) w) h = branched-counted s t m σ J K w h.0 h.2 h.1 h.3.0 h.3.1
move-counted s (Backward (Condition n t m σ J ∷ K) w) h = branched-counted s t m σ J K w h.0 h.2 h.1 h.3.0 h.3.1
move-counted s (Backward (Again t k g σ J ∷ K) w) h = again-counted s t k g σ J K w h.0 h.2 h.1 h.3.0 h.3.1
move-counted s (Backward (Fail k g σ J ∷ K) w) h =
    (record { steps = h.0.steps; calls = h.0.calls; conditions = h.0.conditions }, omega arith, h.2, h.3.1)
move-counted s (Backward (Catch k g σ J ∷ K) w) h =
    (record { steps = h.0.steps; calls = h.0.calls; conditions = h.0.conditions }, omega arith, h.2, h.3.1)
move-counted s (Backward (More [] k g σ J ∷ K) w) h =
    (record { steps = h.0.steps; calls = h.0.calls; conditions = h.0.conditions }, h.1, h.2, h.3.1)
move-counted s (Backward (More (c ∷ cs) k g σ J ∷ K) w) h =
    tried-counted s c k g σ J (with_more cs k g σ J K) w h.0 h.2 (omega (arith, h.1, more-pending cs k g σ J K)) h.3.0
    (more-nested w.calls cs k g σ J K h.3.0 h.3.1)
move-counted s (Throwing b o K w) h = leaving-counted s b o K w h.0 h.1 h.2 h.3
move-counted s (Over r w) h = h
