-- What a move does to the counts: each turn is counted, steps never fall, and a silent move takes a step or ends the walk.
use Rattle.std.proofs.Common.{◌≡◌, ℕ, ◌+◌, ◌-◌, ◌*◌, ◌<◌, ◌≤◌, ◌==◌, nat_le, Bool, true, false, List, [], ◌∷◌, length, Option, Some, None}
use Rattle.std.proofs.Common.{refl, arith, if◌then◌else◌}
use Rattle.std.proofs.lemmas.Bool.Decides.{nat_tests}
use Rattle.op_logic.specs.Term.{Term, shift}
use Rattle.op_logic.specs.Bind.{Bindings, solve, unify, Solved as Result}
use Rattle.op_trace.specs.declared.barrier.Barrier.{Barrier}
use Rattle.op_trace.specs.Database.{Text, text_eq, Clause}
use Rattle.op_trace.specs.World.{World, Execution, Recovery, Item, Goal, Cut, Exit, Execute, Solved}
use Rattle.op_trace.specs.Act.{Yield, Fails, Succeeds, Succeeds_again, Runs, Throws, Halts, Act, Setup}
use Rattle.op_trace.specs.Visit.{Stopped, Control, TrueGoal, FailGoal, CutGoal, Conjunction, Disjunction, IfThenElse, BoxedGoal, control}
use Rattle.op_trace.specs.declared.port.Port.TheVariants as port
use Rattle.op_trace.specs.Visit.{with_event, is_open, around, Inside, Clauses, WithoutProcedure, Protected, inside, last_choice, catcher_of}
use Rattle.op_trace.specs.Visit.{counted_as, entered, Choice, Redo, Branch, More, Again, Fail, Catch, Condition}
use Rattle.op_trace.proofs.WalkSteps.{IsLess, within-less}
use Rattle.op_machine.specs.Resume.{keep, with_more, State, Forward, Backward, Throwing, Over, Moved, silent}
use Rattle.op_machine.specs.Resume.{paid, pay, chosen, head_unified, tried}
use Rattle.op_machine.specs.Resume.{branched, showing, entered_state, acted, yielded, executed_again, raised, ball_unified, ball_met}
use Rattle.op_machine.specs.Resume.{leaving, move, world_of}
use Rattle.op_machine.specs.inner.Bounds.{IsGoalFirst, Counted}

abbrev pub count_in : State → ℕ
count_in t = (world_of t).events + (world_of t).solutions

-- what a move made of a world: turns counted, and steps no fewer
pub record IsOnward (s : Setup) (w : World) (m : Moved) : Type 0 where
  pub count : count_in m.state ≡ w.events + w.solutions + length m.turns
  pub steps : w.steps ≤ (world_of m.state).steps

pub paid-onward : (t : Bool) (s : Setup) (n : ℕ) (w : World) (h : World → Moved) → nat_le (w.steps + n) s.budget ≡ t → w.steps ≤ s.budget
    → (w.steps + n ≤ s.budget → IsOnward s (record w { steps = w.steps + n }) (h (record w { steps = w.steps + n })))
    → IsOnward s w (paid t s n w h)
paid-onward true s n w h test below k =
    let fits : w.steps + n ≤ s.budget = grind (arith, nat_tests) in
    record { count = (k fits).count; steps = omega (arith, (k fits).steps) }
paid-onward false s n w h test below k = record { count = omega arith; steps = below }

-- the event of a call is counted
pub entered-onward : (i : Inside) (s : Setup) (t : Term Text) (J : List Item) (K : List Choice) (σ : Bindings Text) (w : World)
    → IsOnward s w (showing port.Call (w.calls + 1) t σ J (record w { calls = w.calls + 1 })
    (entered_state i (w.calls + 1) t J (last_choice i (w.calls + 1) t σ J ∷ K) σ (with_event (record w { calls = w.calls + 1 }))))
entered-onward (Clauses cs) s t J K σ w = record { count = omega arith; steps = omega arith }
entered-onward WithoutProcedure s t J K σ w = record { count = omega arith; steps = omega arith }
entered-onward Protected s t J K σ w = record { count = omega arith; steps = omega arith }

pub chosen-onward : (q : Control) (s : Setup) (t : Term Text) (m : Barrier) (J : List Item) (K : List Choice) (σ : Bindings Text)
    (w : World)
    → IsOnward s w (chosen q t m J K σ w)
chosen-onward TrueGoal s t m J K σ w = record { count = omega arith; steps = omega arith }
chosen-onward FailGoal s t m J K σ w = record { count = omega arith; steps = omega arith }
chosen-onward CutGoal s t m J K σ w = record { count = omega arith; steps = omega arith }
chosen-onward (Disjunction a b) s t m J K σ w = record { count = omega arith; steps = omega arith }
chosen-onward (IfThenElse c a b) s t m J K σ w = record { count = omega arith; steps = omega arith }
chosen-onward (Conjunction a b) s t m J K σ w = record { count = omega arith; steps = omega arith }
chosen-onward BoxedGoal s t m J K σ w = entered-onward (inside w.database t) s t J K σ w

pub met-onward : (s : Setup) (c : Clause) (k : ℕ) (g : Term Text) (J : List Item) (K : List Choice) (w : World) (o : Option (Result Text))
    → w.steps ≤ s.budget → IsLess (s.budget - w.steps) o → IsOnward s w (head_unified s c k g J K w o)
met-onward s c k g J K w None below less = record { count = omega arith; steps = below }
met-onward s c k g J K w (Some (None, left)) below less = record { count = omega arith; steps = omega arith }
met-onward s c k g J K w (Some (Some τ, left)) below less =
    let up : w.steps ≤ s.budget - left = omega arith in
    let h : World → Moved = λ u. silent (Forward (entered w.variables c k g J) K τ (record u { variables = u.variables + c.variables })) in
    let inner : IsOnward s (record w { steps = s.budget - left }) (pay s c.variables (record w { steps = s.budget - left }) h) =
    paid-onward (nat_le (s.budget - left + c.variables) s.budget) s c.variables (record w { steps = s.budget - left }) h refl (omega arith)
    (λ fits. record { count = omega arith; steps = omega arith }) in
    record { count = inner.count; steps = omega (arith, inner.steps) }

pub tried-onward : (s : Setup) (c : Clause) (k : ℕ) (g : Term Text) (σ : Bindings Text) (J : List Item) (K : List Choice) (w : World)
    → w.steps ≤ s.budget → IsOnward s w (tried s c k g σ J K w)
tried-onward s c k g σ J K w below =
    paid-onward (nat_le (w.steps + 1) s.budget) s 1 w _ refl below
    (λ fits. met-onward s c k g J K (record w { steps = w.steps + 1 })
    (unify text_eq (s.budget - (w.steps + 1)) σ ((g, shift w.variables c.head) ∷ [])) fits
    (within-less {A = Option (Bindings Text)} (s.budget - (w.steps + 1))
    (solve text_eq (s.budget - (w.steps + 1)) σ ((g, shift {N = Text} w.variables c.head) ∷ []))))

pub branched-onward : (s : Setup) (t : Term Text) (m : Barrier) (σ : Bindings Text) (J : List Item) (K : List Choice) (w : World)
    → w.steps ≤ s.budget → IsOnward s w (branched s t m σ J K w)
branched-onward s t m σ J K w below =
    paid-onward (nat_le (w.steps + 1) s.budget) s 1 w _ refl below (λ fits. record { count = omega arith; steps = omega arith })

pub acted-onward : (t : Bool) (s : Setup) (a : Act) (k : ℕ) (g : Term Text) (J : List Item) (K : List Choice) (σ : Bindings Text)
    (w : World)
    → nat_le (w.steps + a.cost) s.budget ≡ t → w.steps ≤ s.budget → IsOnward s w (acted t s a w (yielded k g J K σ))
acted-onward true s a k g J K σ w test below = go a.yield
  where
    go : (y : Yield) → IsOnward s w (yielded k g J K σ y (record (counted_as w a.after) { steps = w.steps + a.cost }))
    go Fails = record { count = omega arith; steps = omega arith }
    go (Succeeds τ) = record { count = omega arith; steps = omega arith }
    go (Succeeds_again τ x) = record { count = omega arith; steps = omega arith }
    go (Runs b) = record { count = omega arith; steps = omega arith }
    go (Throws b) = record { count = omega arith; steps = omega arith }
    go (Halts i) = record { count = omega arith; steps = omega arith }
acted-onward false s a k g J K σ w test below = record { count = omega arith; steps = below }

pub again-onward : (s : Setup) (t : Execution) (k : ℕ) (g : Term Text) (σ : Bindings Text) (J : List Item) (K : List Choice) (w : World)
    → w.steps ≤ s.budget → IsOnward s w (executed_again s t k g σ J K w)
again-onward s t k g σ J K w below =
    paid-onward (nat_le (w.steps + 1) s.budget) s 1 w _ refl below (λ fits. record { count = omega arith; steps = omega arith })

-- a ball that comes to a box which catches
pub unified-onward : (s : Setup) (k : ℕ) (g : Term Text) (σ : Bindings Text) (J : List Item) (K : List Choice) (b : Term Text)
    (o : List ℕ) (w : World) (r : Option (Result Text))
    → w.steps ≤ s.budget → IsLess (s.budget - w.steps) r → IsOnward s w (ball_unified s k g σ J K b o w r)
unified-onward s k g σ J K b o w None below less = record { count = omega arith; steps = below }
unified-onward s k g σ J K b o w (Some (None, left)) below less = record { count = omega arith; steps = omega arith }
unified-onward s k g σ J K b o w (Some (Some τ, left)) below less =
    let u : World = record w { steps = s.budget - left } in
    let up : w.steps ≤ s.budget - left = omega arith in
    let in_budget : s.budget - left ≤ s.budget = omega arith in
    let inner : IsOnward s u (executed_again s Recovery k g τ J (Fail k g σ J ∷ K) u) =
    again-onward s Recovery k g τ J (Fail k g σ J ∷ K) u in_budget in
    record { count = inner.count; steps = omega (arith, inner.steps) }

pub leaving-onward : (s : Setup) (b : Term Text) (o : List ℕ) (K : List Choice) (w : World) → w.steps ≤ s.budget
    → IsOnward s w (leaving s b o K w)
leaving-onward s b o [] w below = record { count = omega arith; steps = omega arith }
leaving-onward s b o (Redo k g σ J ∷ K) w below = leaving-onward s b o K w below
leaving-onward s b o (Branch t m σ J ∷ K) w below = leaving-onward s b o K w below
leaving-onward s b o (More cs k g σ J ∷ K) w below = leaving-onward s b o K w below
leaving-onward s b o (Again t k g σ J ∷ K) w below = leaving-onward s b o K w below
leaving-onward s b o (Condition n t m σ J ∷ K) w below = leaving-onward s b o K w below
leaving-onward s b o (Fail k g σ J ∷ K) w below = go (is_open k o) (leaving-onward s b o K w below)
  where
    go : (t : Bool) → IsOnward s w (leaving s b o K w)
        → IsOnward s w (if t then raised k g σ J K b (around k o) w else leaving s b o K w)
    go true l = record { count = omega arith; steps = omega arith }
    go false l = l
leaving-onward s b o (Catch k g σ J ∷ K) w below = go (is_open k o) (leaving-onward s b o K w below)
  where
    go : (t : Bool) → IsOnward s w (leaving s b o K w)
        → IsOnward s w (if t then ball_met s k g σ J K b (around k o) w else leaving s b o K w)
    go true l =
        unified-onward s k g σ J K b (around k o) w (unify text_eq (s.budget - w.steps) σ ((b, catcher_of g) ∷ [])) below
        (within-less {A = Option (Bindings Text)} (s.budget - w.steps)
        (solve text_eq (s.budget - w.steps) σ ((b, catcher_of g) ∷ [])))
    go false l = l

pub move-onward : (s : Setup) (t : State) → (world_of t).steps ≤ s.budget → IsOnward s (world_of t) (move s t)
move-onward s (Forward [] K σ w) below = go (w.solutions + 1 == s.wanted)
  where
    go : (b : Bool) → IsOnward s w
        (record {
          turns = Solved σ (record w { solutions = w.solutions + 1 }) ∷ [];
          state =
              if b then Over Stopped (record w { solutions = w.solutions + 1 }) else Backward K (record w { solutions = w.solutions + 1 });
        })
    go true = record { count = omega arith; steps = omega arith }
    go false = record { count = omega arith; steps = omega arith }
move-onward s (Forward (Exit k g ∷ J) K σ w) below = record { count = omega arith; steps = omega arith }
move-onward s (Forward (Cut m ∷ J) K σ w) below = record { count = omega arith; steps = omega arith }
move-onward s (Forward (Execute t k g ∷ J) K σ w) below =
    let a : Act = s.act (s.budget - w.steps) t g σ w in
    acted-onward (nat_le (w.steps + a.cost) s.budget) s a k g J K σ w refl below
move-onward s (Forward (Goal t m ∷ J) K σ w) below =
    paid-onward (nat_le (w.steps + 1) s.budget) s 1 w _ refl below
    (λ fits. chosen-onward (control t) s t m J K σ (record w { steps = w.steps + 1 }))
move-onward s (Backward [] w) below = record { count = omega arith; steps = omega arith }
move-onward s (Backward (Redo k g σ J ∷ K) w) below = record { count = omega arith; steps = omega arith }
move-onward s (Backward (Branch t m σ J ∷ K) w) below = branched-onward s t m σ J K w below
move-onward s (Backward (Condition n t m σ J ∷ K) w) below = branched-onward s t m σ J K w below
move-onward s (Backward (Again t k g σ J ∷ K) w) below = again-onward s t k g σ J K w below
move-onward s (Backward (Fail k g σ J ∷ K) w) below = record { count = omega arith; steps = omega arith }
move-onward s (Backward (Catch k g σ J ∷ K) w) below = record { count = omega arith; steps = omega arith }
move-onward s (Backward (More [] k g σ J ∷ K) w) below = record { count = omega arith; steps = omega arith }
move-onward s (Backward (More (c ∷ cs) k g σ J ∷ K) w) below = tried-onward s c k g σ J (with_more cs k g σ J K) w below
move-onward s (Throwing b o K w) below = leaving-onward s b o K w below
move-onward s (Over r w) below = record { count = omega arith; steps = omega arith }

-- what is left to do: steps, a cut or a try, and to be at the end
abbrev pub live : State → ℕ
live (Forward (Cut m ∷ J) K σ w) = 2
live (Forward (Execute t k g ∷ J) K σ w) = 2
live (Forward I K σ w) = 1
live (Backward K w) = 1
live (Throwing b o K w) = 1
live (Over r w) = 0

abbrev pub weight : Setup → State → ℕ
weight s t = 3 * (s.budget - (world_of t).steps) + live t

abbrev pub IsOver : State → Type 0
IsOver (Forward I K σ w) = ⊥
IsOver (Backward K w) = ⊥
IsOver (Throwing b o K w) = ⊥
IsOver (Over r w) = Unit {0}

-- the last choice point has a clause, if it is one of clauses
abbrev pub HasClauses : State → Type 0
HasClauses (Backward (More [] k g σ J ∷ K) w) = ⊥
HasClauses t = Unit {0}

pub paid-lighter : (t : Bool) (s : Setup) (n : ℕ) (w : World) (h : World → Moved) → nat_le (w.steps + 1) s.budget ≡ t → w.steps ≤ s.budget
    → (w.steps + 1 ≤ s.budget → IsOnward s (record w { steps = w.steps + 1 }) (h (record w { steps = w.steps + 1 })))
    → weight s (paid t s 1 w h).state < 3 * (s.budget - w.steps) + 1
paid-lighter true s n w h test below k =
    let fits : w.steps + 1 ≤ s.budget = grind (arith, nat_tests) in
    let on : w.steps + 1 ≤ (world_of (h (record w { steps = w.steps + 1 })).state).steps = (k fits).steps in
    lighter (h (record w { steps = w.steps + 1 })).state fits on
  where
    lighter : (t : State) → w.steps + 1 ≤ s.budget → w.steps + 1 ≤ (world_of t).steps → weight s t < 3 * (s.budget - w.steps) + 1
    lighter (Forward [] K σ u) f h = omega arith
    lighter (Forward (Exit k g ∷ J) K σ u) f h = omega arith
    lighter (Forward (Cut m ∷ J) K σ u) f h = omega arith
    lighter (Forward (Execute t k g ∷ J) K σ u) f h = omega arith
    lighter (Forward (Goal t m ∷ J) K σ u) f h = omega arith
    lighter (Backward K u) f h = omega arith
    lighter (Throwing b o K u) f h = omega arith
    lighter (Over r u) f h = omega arith
paid-lighter false s n w h test below k = omega arith

-- behind a cut comes a goal
pub first-live : (J : List Item) (K : List Choice) (σ : Bindings Text) (w : World) → IsGoalFirst J → live (Forward J K σ w) ≡ 1
first-live [] K σ w h = absurd h
first-live (Goal t m ∷ J) K σ w h = refl
first-live (Cut m ∷ J) K σ w h = absurd h
first-live (Exit k g ∷ J) K σ w h = absurd h
first-live (Execute t k g ∷ J) K σ w h = absurd h

-- a try fails, or its box exits
pub acted-lighter : (t : Bool) (s : Setup) (a : Act) (k : ℕ) (g : Term Text) (J : List Item) (K : List Choice) (σ : Bindings Text)
    (w : World)
    → nat_le (w.steps + a.cost) s.budget ≡ t → w.steps ≤ s.budget
    → weight s (acted t s a w (yielded k g J K σ)).state < 3 * (s.budget - w.steps) + 2
acted-lighter true s a k g J K σ w test below = go a.yield
  where
    go : (y : Yield) → weight s (yielded k g J K σ y (record (counted_as w a.after) { steps = w.steps + a.cost })).state < 3 *
        (s.budget - w.steps) + 2
    go Fails = omega arith
    go (Succeeds τ) = omega arith
    go (Succeeds_again τ x) = omega arith
    go (Runs b) = omega arith
    go (Throws b) = omega arith
    go (Halts i) = omega arith
acted-lighter false s a k g J K σ w test below = omega arith

-- a ball that is caught has paid a step
pub unified-lighter : (s : Setup) (k : ℕ) (g : Term Text) (σ : Bindings Text) (J : List Item) (K : List Choice) (b : Term Text)
    (o : List ℕ) (w : World) (r : Option (Result Text))
    → w.steps ≤ s.budget → IsLess (s.budget - w.steps) r → (ball_unified s k g σ J K b o w r).turns ≡ []
    → weight s (ball_unified s k g σ J K b o w r).state < 3 * (s.budget - w.steps) + 1
unified-lighter s k g σ J K b o w None below less e = omega arith
unified-lighter s k g σ J K b o w (Some (None, left)) below less e = cc
unified-lighter s k g σ J K b o w (Some (Some τ, left)) below less e =
    let u : World = record w { steps = s.budget - left } in
    let up : w.steps ≤ s.budget - left = omega arith in
    let in_budget : s.budget - left ≤ s.budget = omega arith in
    let inner : weight s (executed_again s Recovery k g τ J (Fail k g σ J ∷ K) u).state < 3 * (s.budget - (s.budget - left)) + 1 =
    paid-lighter (nat_le (s.budget - left + 1) s.budget) s 1 u _ refl in_budget
    (λ fits. record { count = omega arith; steps = omega arith }) in
    omega (arith, inner, up)

-- a ball that leaves no box is the end, or is caught
pub leaving-lighter : (s : Setup) (b : Term Text) (o : List ℕ) (K : List Choice) (w : World) → w.steps ≤ s.budget
    → (leaving s b o K w).turns ≡ [] → weight s (leaving s b o K w).state < 3 * (s.budget - w.steps) + 1
leaving-lighter s b o [] w below e = omega arith
leaving-lighter s b o (Redo k g σ J ∷ K) w below e = leaving-lighter s b o K w below e
leaving-lighter s b o (Branch t m σ J ∷ K) w below e = leaving-lighter s b o K w below e
leaving-lighter s b o (More cs k g σ J ∷ K) w below e = leaving-lighter s b o K w below e
leaving-lighter s b o (Again t k g σ J ∷ K) w below e = leaving-lighter s b o K w below e
leaving-lighter s b o (Condition n t m σ J ∷ K) w below e = leaving-lighter s b o K w below e
leaving-lighter s b o (Fail k g σ J ∷ K) w below e = go (is_open k o) (λ f. leaving-lighter s b o K w below f) e
  where
    go : (t : Bool) → ((leaving s b o K w).turns ≡ [] → weight s (leaving s b o K w).state < 3 * (s.budget - w.steps) + 1)
        → (if t then raised k g σ J K b (around k o) w else leaving s b o K w).turns ≡ []
        → weight s (if t then raised k g σ J K b (around k o) w else leaving s b o K w).state < 3 * (s.budget - w.steps) + 1
    go true l f = cc
    go false l f = l f
leaving-lighter s b o (Catch k g σ J ∷ K) w below e = go (is_open k o) (λ f. leaving-lighter s b o K w below f) e
  where
    go : (t : Bool) → ((leaving s b o K w).turns ≡ [] → weight s (leaving s b o K w).state < 3 * (s.budget - w.steps) + 1)
        → (if t then ball_met s k g σ J K b (around k o) w else leaving s b o K w).turns ≡ []
        → weight s (if t then ball_met s k g σ J K b (around k o) w else leaving s b o K w).state < 3 * (s.budget - w.steps) + 1
    go true l f =
        unified-lighter s k g σ J K b (around k o) w (unify text_eq (s.budget - w.steps) σ ((b, catcher_of g) ∷ [])) below
        (within-less {A = Option (Bindings Text)} (s.budget - w.steps)
        (solve text_eq (s.budget - w.steps) σ ((b, catcher_of g) ∷ []))) f
    go false l f = l f

-- a silent move that isn't at the end makes the state lighter
pub move-lighter : (s : Setup) (t : State) → (world_of t).steps ≤ s.budget → (IsOver t → ⊥) → HasClauses t → Counted s t → (move s t).turns
    ≡ []
    → weight s (move s t).state < weight s t
move-lighter s (Forward [] K σ w) below live has counted e = cc
move-lighter s (Forward (Exit k g ∷ J) K σ w) below live has counted e = cc
move-lighter s (Forward (Cut m ∷ J) K σ w) below live has counted e = omega (arith, first-live J (keep m K) σ w counted.3.0)
move-lighter s (Forward (Execute t k g ∷ J) K σ w) below live has counted e =
    let a : Act = s.act (s.budget - w.steps) t g σ w in
    acted-lighter (nat_le (w.steps + a.cost) s.budget) s a k g J K σ w refl below
move-lighter s (Forward (Goal t m ∷ J) K σ w) below live has counted e =
    paid-lighter (nat_le (w.steps + 1) s.budget) s 1 w _ refl below
    (λ fits. chosen-onward (control t) s t m J K σ (record w { steps = w.steps + 1 }))
move-lighter s (Backward [] w) below live has counted e = omega arith
move-lighter s (Backward (Redo k g σ J ∷ K) w) below live has counted e = cc
move-lighter s (Backward (Branch t m σ J ∷ K) w) below live has counted e =
    paid-lighter (nat_le (w.steps + 1) s.budget) s 1 w _ refl below (λ fits. record { count = omega arith; steps = omega arith })
move-lighter s (Backward (Condition n t m σ J ∷ K) w) below live has counted e =
    paid-lighter (nat_le (w.steps + 1) s.budget) s 1 w _ refl below (λ fits. record { count = omega arith; steps = omega arith })
move-lighter s (Backward (Again t k g σ J ∷ K) w) below live has counted e =
    paid-lighter (nat_le (w.steps + 1) s.budget) s 1 w _ refl below (λ fits. record { count = omega arith; steps = omega arith })
move-lighter s (Backward (Fail k g σ J ∷ K) w) below live has counted e = cc
move-lighter s (Backward (Catch k g σ J ∷ K) w) below live has counted e = cc
move-lighter s (Backward (More [] k g σ J ∷ K) w) below live has counted e = absurd has
move-lighter s (Backward (More (c ∷ cs) k g σ J ∷ K) w) below live has counted e =
    paid-lighter (nat_le (w.steps + 1) s.budget) s 1 w _ refl below
    (λ fits. met-onward s c k g J (with_more cs k g σ J K) (record w { steps = w.steps + 1 })
    (unify text_eq (s.budget - (w.steps + 1)) σ ((g, shift w.variables c.head) ∷ [])) fits
    (within-less {A = Option (Bindings Text)} (s.budget - (w.steps + 1))
    (solve text_eq (s.budget - (w.steps + 1)) σ ((g, shift {N = Text} w.variables c.head) ∷ []))))
move-lighter s (Throwing b o K w) below live has counted e = leaving-lighter s b o K w below e
move-lighter s (Over r w) below live has counted e = absurd (live tt)
