-- The world of a turn is the world that the move leaves.
use Rattle.std.proofs.Common.{◌≡◌, ℕ, ◌+◌, ◌-◌, ◌==◌, nat_le, Bool, true, false, List, [], ◌∷◌, Option, Some, None, refl, if◌then◌else◌}
use Rattle.op_logic.specs.Term.{Term, shift}
use Rattle.op_logic.specs.Bind.{Bindings, unify, Solved as Result}
use Rattle.op_trace.specs.declared.barrier.Barrier.{Barrier}
use Rattle.op_trace.specs.Database.{Text, text_eq, Clause}
use Rattle.op_trace.specs.World.{World, Execution, Recovery, Item, Goal, Cut, Exit, Execute, Turn, Shown, Solved}
use Rattle.op_trace.specs.Act.{Yield, Fails, Succeeds, Succeeds_again, Runs, Throws, Halts, Act, Setup}
use Rattle.op_trace.specs.Visit.{Inside, Clauses, WithoutProcedure, Protected, inside, last_choice, catcher_of, counted_as, is_open, around}
use Rattle.op_trace.specs.Visit.{Stopped, Control, TrueGoal, FailGoal, CutGoal, Conjunction, Disjunction, IfThenElse, BoxedGoal, control}
use Rattle.op_trace.specs.Visit.{with_event, entered, Choice, Redo, Branch, More, Again, Fail, Catch, Condition}
use Rattle.op_machine.specs.Resume.{State, Forward, Backward, Throwing, Over, Moved, silent, paid, entered_state, acted, yielded}
use Rattle.op_machine.specs.Resume.{chosen, head_unified, tried, branched, executed_again, raised, ball_unified, ball_met, leaving, move}
use Rattle.op_machine.specs.Resume.{with_more, world_of}

abbrev pub turn_world : Turn → World
turn_world (Shown e w) = w
turn_world (Solved σ w) = w

abbrev pub Tells : List Turn → World → Type 0
Tells [] w = Unit {0}
Tells (t ∷ ts) w = (turn_world t ≡ w) × Tells ts w

abbrev IsTold : Moved → Type 0
IsTold m = Tells m.turns (world_of m.state)

paid-told : (t : Bool) (s : Setup) (n : ℕ) (w : World) (h : World → Moved) → ((u : World) → IsTold (h u)) → IsTold (paid t s n w h)
paid-told true s n w h e = e (record w { steps = w.steps + n })
paid-told false s n w h e = tt

entered-world : (i : Inside) (k : ℕ) (g : Term Text) (J : List Item) (K : List Choice) (σ : Bindings Text) (w : World)
    → w ≡ world_of (entered_state i k g J K σ w)
entered-world (Clauses cs) k g J K σ w = refl
entered-world WithoutProcedure k g J K σ w = refl
entered-world Protected k g J K σ w = refl

chosen-told : (q : Control) (t : Term Text) (m : Barrier) (J : List Item) (K : List Choice) (σ : Bindings Text) (w : World)
    → IsTold (chosen q t m J K σ w)
chosen-told TrueGoal t m J K σ w = tt
chosen-told FailGoal t m J K σ w = tt
chosen-told CutGoal t m J K σ w = tt
chosen-told (Conjunction a b) t m J K σ w = tt
chosen-told (Disjunction a b) t m J K σ w = tt
chosen-told (IfThenElse c a b) t m J K σ w = tt
chosen-told BoxedGoal t m J K σ w =
    let u : World = record w { calls = w.calls + 1 } in
    let i : Inside = inside w.database t in
    (entered-world i (w.calls + 1) t J (last_choice i (w.calls + 1) t σ J ∷ K) σ (with_event u), tt)

unified-told : (s : Setup) (c : Clause) (k : ℕ) (g : Term Text) (J : List Item) (K : List Choice) (w : World) (r : Option (Result Text))
    → IsTold (head_unified s c k g J K w r)
unified-told s c k g J K w None = tt
unified-told s c k g J K w (Some (None, left)) = tt
unified-told s c k g J K w (Some (Some τ, left)) =
    paid-told (nat_le (s.budget - left + c.variables) s.budget) s c.variables (record w { steps = s.budget - left })
    (λ u. silent (Forward (entered w.variables c k g J) K τ (record u { variables = u.variables + c.variables }))) (λ u. tt)

tried-told : (s : Setup) (c : Clause) (k : ℕ) (g : Term Text) (σ : Bindings Text) (J : List Item) (K : List Choice) (w : World)
    → IsTold (tried s c k g σ J K w)
tried-told s c k g σ J K w =
    paid-told (nat_le (w.steps + 1) s.budget) s 1 w
    (λ u. head_unified s c k g J K u (unify text_eq (s.budget - u.steps) σ ((g, shift u.variables c.head) ∷ [])))
    (λ u. unified-told s c k g J K u (unify text_eq (s.budget - u.steps) σ ((g, shift u.variables c.head) ∷ [])))

yielded-told : (k : ℕ) (g : Term Text) (J : List Item) (K : List Choice) (σ : Bindings Text) (y : Yield) (w : World)
    → IsTold (yielded k g J K σ y w)
yielded-told k g J K σ Fails w = tt
yielded-told k g J K σ (Succeeds τ) w = tt
yielded-told k g J K σ (Succeeds_again τ t) w = tt
yielded-told k g J K σ (Runs b) w = tt
yielded-told k g J K σ (Throws b) w = tt
yielded-told k g J K σ (Halts i) w = tt

acted-told : (t : Bool) (s : Setup) (a : Act) (k : ℕ) (g : Term Text) (J : List Item) (K : List Choice) (σ : Bindings Text) (w : World)
    → IsTold (acted t s a w (yielded k g J K σ))
acted-told true s a k g J K σ w = yielded-told k g J K σ a.yield (record (counted_as w a.after) { steps = w.steps + a.cost })
acted-told false s a k g J K σ w = tt

again-told : (s : Setup) (t : Execution) (k : ℕ) (g : Term Text) (σ : Bindings Text) (J : List Item) (K : List Choice) (w : World)
    → IsTold (executed_again s t k g σ J K w)
again-told s t k g σ J K w =
    paid-told (nat_le (w.steps + 1) s.budget) s 1 w (λ u. silent (Forward (Execute t k g ∷ J) K σ u)) (λ u. tt)

branched-told : (s : Setup) (t : Term Text) (m : Barrier) (σ : Bindings Text) (J : List Item) (K : List Choice) (w : World)
    → IsTold (branched s t m σ J K w)
branched-told s t m σ J K w =
    paid-told (nat_le (w.steps + 1) s.budget) s 1 w (λ u. silent (Forward (Goal t m ∷ J) K σ u)) (λ u. tt)

ball-told : (s : Setup) (k : ℕ) (g : Term Text) (σ : Bindings Text) (J : List Item) (K : List Choice) (b : Term Text) (p : List ℕ)
    (w : World) (r : Option (Result Text)) → IsTold (ball_unified s k g σ J K b p w r)
ball-told s k g σ J K b p w None = tt
ball-told s k g σ J K b p w (Some (None, left)) = (refl, tt)
ball-told s k g σ J K b p w (Some (Some τ, left)) =
    again-told s Recovery k g τ J (Fail k g σ J ∷ K) (record w { steps = s.budget - left })

leaving-told : (s : Setup) (b : Term Text) (p : List ℕ) (K : List Choice) (w : World) → IsTold (leaving s b p K w)
leaving-told s b p [] w = tt
leaving-told s b p (Redo k g σ J ∷ K) w = leaving-told s b p K w
leaving-told s b p (Branch t m σ J ∷ K) w = leaving-told s b p K w
leaving-told s b p (More cs k g σ J ∷ K) w = leaving-told s b p K w
leaving-told s b p (Again t k g σ J ∷ K) w = leaving-told s b p K w
leaving-told s b p (Condition n t m σ J ∷ K) w = leaving-told s b p K w
leaving-told s b p (Fail k g σ J ∷ K) w = go (is_open k p) (leaving-told s b p K w)
  where
    go : (t : Bool) → IsTold (leaving s b p K w) → IsTold (if t then raised k g σ J K b (around k p) w else leaving s b p K w)
    go true e = (refl, tt)
    go false e = e
leaving-told s b p (Catch k g σ J ∷ K) w = go (is_open k p) (leaving-told s b p K w)
  where
    go : (t : Bool) → IsTold (leaving s b p K w) → IsTold (if t then ball_met s k g σ J K b (around k p) w else leaving s b p K w)
    go true e = ball-told s k g σ J K b (around k p) w (unify text_eq (s.budget - w.steps) σ ((b, catcher_of g) ∷ []))
    go false e = e

behind-world : (last : Bool) (K : List Choice) (w : World) → w ≡ world_of (if last then Over Stopped w else Backward K w)
behind-world true K w = refl
behind-world false K w = refl

pub move-told : (s : Setup) (t : State) → Tells (move s t).turns (world_of (move s t).state)
move-told s (Forward [] K σ w) = (behind-world (w.solutions + 1 == s.wanted) K (record w { solutions = w.solutions + 1 }), tt)
move-told s (Forward (Exit k g ∷ J) K σ w) = (refl, tt)
move-told s (Forward (Cut m ∷ J) K σ w) = tt
move-told s (Forward (Execute t k g ∷ J) K σ w) =
    let a : Act = s.act (s.budget - w.steps) t g σ w in acted-told (nat_le (w.steps + a.cost) s.budget) s a k g J K σ w
move-told s (Forward (Goal t m ∷ J) K σ w) =
    paid-told (nat_le (w.steps + 1) s.budget) s 1 w (chosen (control t) t m J K σ) (chosen-told (control t) t m J K σ)
move-told s (Backward [] w) = tt
move-told s (Backward (Redo k g σ J ∷ K) w) = (refl, tt)
move-told s (Backward (Branch t m σ J ∷ K) w) = branched-told s t m σ J K w
move-told s (Backward (Condition c t m σ J ∷ K) w) = branched-told s t m σ J K w
move-told s (Backward (Again t k g σ J ∷ K) w) = again-told s t k g σ J K w
move-told s (Backward (Fail k g σ J ∷ K) w) = (refl, tt)
move-told s (Backward (Catch k g σ J ∷ K) w) = (refl, tt)
move-told s (Backward (More [] k g σ J ∷ K) w) = tt
move-told s (Backward (More (c ∷ cs) k g σ J ∷ K) w) = tried-told s c k g σ J (with_more cs k g σ J K) w
move-told s (Throwing x p K w) = leaving-told s x p K w
move-told s (Over r w) = tt
