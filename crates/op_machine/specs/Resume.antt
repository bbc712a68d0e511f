-- What a machine in the middle of a walk still owes: its items and the choice points that it keeps say which turns are to come.
use Rattle.std.specs.Prelude.{ℕ, ◌+◌, ◌-◌, ◌==◌, nat_le, Bool, true, false, List, [], ◌∷◌, if◌then◌else◌, Option, Some, None}
use Rattle.op_logic.specs.Term.{Term, shift}
use Rattle.op_logic.specs.Bind.{Bindings, unify, Solved as Result}
use Rattle.op_trace.specs.declared.port.Port.{Port}
use Rattle.op_trace.specs.declared.port.Port.TheVariants as port
use Rattle.op_trace.specs.declared.barrier.Barrier.{Barrier}
use Rattle.op_trace.specs.declared.barrier.Barrier.TheVariants.{Call, InCondition, AtSuccess}
use Rattle.op_trace.specs.Database.{Text, text_eq, Clause}
use Rattle.op_trace.specs.World.{World, same_barrier, Execution, First, Recovery, Item, Goal, Cut, Exit, Execute, open_boxes, Turn, Shown}
use Rattle.op_trace.specs.World.{Solved}
use Rattle.op_trace.specs.Act.{Yield, Fails, Succeeds, Succeeds_again, Runs, Throws, Halts, Act, Setup}
use Rattle.op_trace.specs.Visit.{Verdict, Failed, CutTo, Thrown, Stopped, Halted, Spent, is_open, around, Visited}
use Rattle.op_trace.specs.Visit.{gives, and_then, event_of, with_event, Control, TrueGoal}
use Rattle.op_trace.specs.Visit.{FailGoal, CutGoal, Conjunction, Disjunction, IfThenElse, BoxedGoal, control, Inside, Clauses}
use Rattle.op_trace.specs.Visit.{WithoutProcedure, Protected, inside, last_choice, catcher_of, entered, Choice, Redo}
use Rattle.op_trace.specs.Visit.{Branch, More, Again, Fail, Catch, Condition, counted_as, after, visit}

-- where no choice point is left, a cut leaves nothing more to fail
abbrev pub at_top : Verdict → World → Visited
at_top Failed w = gives Failed w
at_top (CutTo m) w = gives Failed w
at_top (Thrown b o) w = gives (Thrown b o) w
at_top Stopped w = gives Stopped w
at_top (Halted n) w = gives (Halted n) w
at_top Spent w = gives Spent w

-- what is left to do after a result: what the last choice point does, then what is left by the others
unfoldable pub resume : Setup → List Choice → Verdict → World → Visited
resume s [] r w = at_top r w
resume s (c ∷ K) r w = and_then (after (visit s) s c r w) (resume s K)

-- a choice point to which a cut to a barrier comes, and which it keeps: a box's own, which makes its fail event and may catch a ball, and a
-- condition's for a cut inside the condition
abbrev pub stays : Choice → Barrier → Bool
stays (Redo k g σ J) m = false
stays (Branch t b σ J) m = false
stays (More cs k g σ J) m = false
stays (Again t k g σ J) m = false
stays (Fail k g σ J) m = same_barrier m (Call k)
stays (Catch k g σ J) m = same_barrier m (Call k)
stays (Condition n t b σ J) m = same_barrier m (InCondition n)

-- one to which it comes, and which it drops as the last: a condition's, where the condition has succeeded
abbrev pub goes : Choice → Barrier → Bool
goes (Redo k g σ J) m = false
goes (Branch t b σ J) m = false
goes (More cs k g σ J) m = false
goes (Again t k g σ J) m = false
goes (Fail k g σ J) m = false
goes (Catch k g σ J) m = false
goes (Condition n t b σ J) m = same_barrier m (AtSuccess n)

-- what a cut to a barrier keeps
abbrev pub keep : Barrier → List Choice → List Choice
keep m [] = []
keep m (c ∷ K) = if stays c m then c ∷ K else (if goes c m then K else keep m K)

-- a machine goes on with its items, or goes back to its last choice point, or a ball goes up from the innermost of these open boxes, or it
-- is at the end
pub data State : Type 0 where
  Forward : List Item → List Choice → Bindings Text → World → State
  Backward : List Choice → World → State
  Throwing : Term Text → List ℕ → List Choice → World → State
  Over : Verdict → World → State

-- the turns to come, the verdict and the world at the end
unfoldable pub owed : Setup → State → Visited
owed s (Forward I K σ w) = and_then (visit s I σ w) (resume s K)
owed s (Backward K w) = resume s K Failed w
owed s (Throwing b o K w) = resume s K (Thrown b o) w
owed s (Over r w) = gives r w

-- One small move, with the turn that it shows, if it shows one.
pub record Moved : Type 0 where
  pub turns : List Turn
  pub state : State

abbrev pub silent : State → Moved
silent t = record { turns = []; state = t }

abbrev pub showing : Port → ℕ → Term Text → Bindings Text → List Item → World → State → Moved
showing p k g σ J w t = record { turns = Shown (event_of p k g σ J w) (with_event w) ∷ []; state = t }

abbrev pub paid : Bool → Setup → ℕ → World → (World → Moved) → Moved
paid true s n w h = h (record w { steps = w.steps + n })
paid false s n w h = silent (Over Spent (record w { steps = s.budget }))

abbrev pub pay : Setup → ℕ → World → (World → Moved) → Moved
pay s n w h = paid (nat_le (w.steps + n) s.budget) s n w h

-- a choice point of further clauses, where there are any
abbrev pub with_more : List Clause → ℕ → Term Text → Bindings Text → List Item → List Choice → List Choice
with_more [] k g σ J K = K
with_more (c ∷ cs) k g σ J K = More (c ∷ cs) k g σ J ∷ K

-- a box was entered, over these choice points
abbrev pub entered_state : Inside → ℕ → Term Text → List Item → List Choice → Bindings Text → World → State
entered_state (Clauses cs) k g J K σ w = Backward (with_more cs k g σ J K) w
entered_state WithoutProcedure k g J K σ w = Forward (Execute First k g ∷ J) K σ w
entered_state Protected k g J K σ w = Forward (Execute First k g ∷ J) K σ w

abbrev pub invoked : Term Text → List Item → List Choice → Bindings Text → World → Moved
invoked g J K σ w =
    let k : ℕ = w.calls + 1 in
    let u : World = record w { calls = k } in
    let i : Inside = inside w.database g in
    showing port.Call k g σ J u (entered_state i k g J (last_choice i k g σ J ∷ K) σ (with_event u))

abbrev pub acted : Bool → Setup → Act → World → (Yield → World → Moved) → Moved
acted true s a w h = h a.yield (record (counted_as w a.after) { steps = w.steps + a.cost })
acted false s a w h = silent (Over Spent (record (counted_as w a.interrupted) { steps = s.budget }))

-- an act, and what its yield leads to
abbrev pub performed : Setup → Act → World → (Yield → World → Moved) → Moved
performed s a w h = acted (nat_le (w.steps + a.cost) s.budget) s a w h

abbrev pub yielded : ℕ → Term Text → List Item → List Choice → Bindings Text → Yield → World → Moved
yielded k g J K σ Fails w = silent (Backward K w)
yielded k g J K σ (Succeeds τ) w = silent (Forward (Exit k g ∷ J) K τ w)
yielded k g J K σ (Succeeds_again τ t) w = silent (Forward (Exit k g ∷ J) (Again t k g σ J ∷ K) τ w)
yielded k g J K σ (Runs b) w = silent (Forward (Goal b (Call k) ∷ Exit k g ∷ J) K σ w)
yielded k g J K σ (Throws b) w = silent (Throwing b (k ∷ open_boxes J) K w)
yielded k g J K σ (Halts n) w = silent (Over (Halted n) w)

-- a condition comes next, and the else branch is kept as a choice point
abbrev pub if_then_else_chosen : Term Text → Term Text → Term Text → Barrier → List Item → List Choice → Bindings Text → World → Moved
if_then_else_chosen c t e m J K σ w =
    let n : ℕ = w.conditions + 1 in
    silent (Forward (Goal c (InCondition n) ∷ Cut (AtSuccess n) ∷ Goal t m ∷ J) (Condition n e m σ J ∷ K) σ (record w { conditions = n }))

abbrev pub chosen : Control → Term Text → Barrier → List Item → List Choice → Bindings Text → World → Moved
chosen TrueGoal t m J K σ w = silent (Forward J K σ w)
chosen FailGoal t m J K σ w = silent (Backward K w)
chosen CutGoal t m J K σ w = silent (Forward J (keep m K) σ w)
chosen (Conjunction a b) t m J K σ w = silent (Forward (Goal a m ∷ Goal b m ∷ J) K σ w)
chosen (Disjunction a b) t m J K σ w = silent (Forward (Goal a m ∷ J) (Branch b m σ J ∷ K) σ w)
chosen (IfThenElse c a b) t m J K σ w = if_then_else_chosen c a b m J K σ w
chosen BoxedGoal t m J K σ w = invoked t J K σ w

abbrev pub head_unified : Setup → Clause → ℕ → Term Text → List Item → List Choice → World → Option (Result Text) → Moved
head_unified s c k g J K w None = silent (Over Spent (record w { steps = s.budget }))
head_unified s c k g J K w (Some (None, left)) = silent (Backward K (record w { steps = s.budget - left }))
head_unified s c k g J K w (Some (Some τ, left)) =
    pay s c.variables (record w { steps = s.budget - left })
    (λ u. silent (Forward (entered w.variables c k g J) K τ (record u { variables = u.variables + c.variables })))

-- a clause is tried, with these choice points below it
abbrev pub tried : Setup → Clause → ℕ → Term Text → Bindings Text → List Item → List Choice → World → Moved
tried s c k g σ J K w =
    pay s 1 w (λ u. head_unified s c k g J K u (unify text_eq (s.budget - u.steps) σ ((g, shift u.variables c.head) ∷ [])))

abbrev pub at_solution : Setup → List Choice → Bindings Text → World → Moved
at_solution s K σ w =
    let u : World = record w { solutions = w.solutions + 1 } in
    record { turns = Solved σ u ∷ []; state = if u.solutions == s.wanted then Over Stopped u else Backward K u }

-- another branch: one step, and its goal
abbrev pub branched : Setup → Term Text → Barrier → Bindings Text → List Item → List Choice → World → Moved
branched s t m σ J K w = pay s 1 w (λ u. silent (Forward (Goal t m ∷ J) K σ u))

-- a further execution: one step, and the execution
abbrev pub executed_again : Setup → Execution → ℕ → Term Text → Bindings Text → List Item → List Choice → World → Moved
executed_again s t k g σ J K w = pay s 1 w (λ u. silent (Forward (Execute t k g ∷ J) K σ u))

-- a ball leaves a box, which shows it, and these boxes are around it
abbrev pub raised : ℕ → Term Text → Bindings Text → List Item → List Choice → Term Text → List ℕ → World → Moved
raised k g σ J K b o w = showing port.Exception k g σ J w (Throwing b o K (with_event w))

abbrev pub ball_unified : Setup → ℕ → Term Text → Bindings Text → List Item → List Choice → Term Text → List ℕ → World
    → Option (Result Text) → Moved
ball_unified s k g σ J K b o w None = silent (Over Spent (record w { steps = s.budget }))
ball_unified s k g σ J K b o w (Some (None, left)) = raised k g σ J K b o (record w { steps = s.budget - left })
ball_unified s k g σ J K b o w (Some (Some τ, left)) =
    executed_again s Recovery k g τ J (Fail k g σ J ∷ K) (record w { steps = s.budget - left })

-- a ball comes to a box that catches
abbrev pub ball_met : Setup → ℕ → Term Text → Bindings Text → List Item → List Choice → Term Text → List ℕ → World → Moved
ball_met s k g σ J K b o w = ball_unified s k g σ J K b o w (unify text_eq (s.budget - w.steps) σ ((b, catcher_of g) ∷ []))

-- a ball comes to the next open box, which shows it or catches it; where there is none, it is the end
abbrev pub leaving : Setup → Term Text → List ℕ → List Choice → World → Moved
leaving s b o [] w = silent (Over (Thrown b o) w)
leaving s b o (Redo k g σ J ∷ K) w = leaving s b o K w
leaving s b o (Branch t m σ J ∷ K) w = leaving s b o K w
leaving s b o (More cs k g σ J ∷ K) w = leaving s b o K w
leaving s b o (Again t k g σ J ∷ K) w = leaving s b o K w
leaving s b o (Fail k g σ J ∷ K) w = if is_open k o then raised k g σ J K b (around k o) w else leaving s b o K w
leaving s b o (Catch k g σ J ∷ K) w = if is_open k o then ball_met s k g σ J K b (around k o) w else leaving s b o K w
leaving s b o (Condition n t m σ J ∷ K) w = leaving s b o K w

abbrev pub move : Setup → State → Moved
move s (Forward [] K σ w) = at_solution s K σ w
move s (Forward (Exit k g ∷ J) K σ w) = showing port.Exit k g σ J w (Forward J (Redo k g σ J ∷ K) σ (with_event w))
move s (Forward (Cut m ∷ J) K σ w) = silent (Forward J (keep m K) σ w)
move s (Forward (Execute t k g ∷ J) K σ w) = performed s (s.act (s.budget - w.steps) t g σ w) w (yielded k g J K σ)
move s (Forward (Goal t m ∷ J) K σ w) = pay s 1 w (chosen (control t) t m J K σ)
move s (Backward [] w) = silent (Over Failed w)
move s (Backward (Redo k g σ J ∷ K) w) = showing port.Redo k g σ J w (Backward K (with_event w))
move s (Backward (Branch t m σ J ∷ K) w) = branched s t m σ J K w
move s (Backward (Condition n t m σ J ∷ K) w) = branched s t m σ J K w
move s (Backward (Fail k g σ J ∷ K) w) = showing port.Fail k g σ J w (Backward K (with_event w))
move s (Backward (Catch k g σ J ∷ K) w) = showing port.Fail k g σ J w (Backward K (with_event w))
move s (Backward (Again t k g σ J ∷ K) w) = executed_again s t k g σ J K w
move s (Backward (More [] k g σ J ∷ K) w) = silent (Backward K w)
move s (Backward (More (c ∷ cs) k g σ J ∷ K) w) = tried s c k g σ J (with_more cs k g σ J K) w
move s (Throwing b o K w) = leaving s b o K w
move s (Over r w) = silent (Over r w)

abbrev pub world_of : State → World
world_of (Forward I K σ w) = w
world_of (Backward K w) = w
world_of (Throwing b o K w) = w
world_of (Over r w) = w
