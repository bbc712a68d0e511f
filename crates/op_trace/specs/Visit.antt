-- The walk over the search tree of a goal, in the order of Prolog (ISO/IEC 13211-1, 7.7 and 7.8), with the events of the
-- box model. Success is the rest of a list of items, and failure the return of the recursion. Bindings only grow, and
-- nothing is undone. Each step is taken before what it pays for; where it isn't there, the walk is Spent.
use Rattle.std.specs.Prelude.{ℕ, ℤ, zero, suc, ◌+◌, ◌-◌, ◌==◌, nat_le, Bool, true, false, List, [], ◌∷◌, ◌++◌, length, codes, if◌then◌else◌}
use Rattle.std.specs.Prelude.{Option, Some, None}
use Rattle.std.specs.List.{list_any}
use Rattle.op_logic.specs.Term.{Term, node, no_args, arg, args_of, nth_arg, atom, shift}
use Rattle.op_logic.specs.Bind.{Bindings, apply, unify, Solved as Result}
use Rattle.op_trace.specs.declared.port.Port.{Port}
use Rattle.op_trace.specs.declared.port.Port.TheVariants as port
use Rattle.op_trace.specs.declared.barrier.Barrier.{Barrier}
use Rattle.op_trace.specs.declared.barrier.Barrier.TheVariants.{Call, InCondition, AtSuccess}
use Rattle.op_trace.specs.Database.{Text, text_eq, Clause, Procedure, Database, procedure_of}
use Rattle.op_trace.specs.World.{World, same_barrier, Execution, First, Recovery, Item, Goal, Cut, Exit, Execute, open_boxes, head_number}
use Rattle.op_trace.specs.World.{Event}
use Rattle.op_trace.specs.World.{Turn, Shown, Solved}
use Rattle.op_trace.specs.Act.{Yield, Fails, Succeeds, Succeeds_again, Runs, Throws, Halts, Act, Setup}

-- how a walk ends: no solution is left; none is left, and a cut drops all alternatives up to a barrier; a ball was thrown, while these
-- boxes were open, the innermost first; the wanted solution was found; it was halted with a number; or one more step would pass the budget
pub data Verdict : Type 0 where
  Failed : Verdict
  CutTo : Barrier → Verdict
  Thrown : Term Text → List ℕ → Verdict
  Stopped : Verdict
  Halted : ℤ → Verdict
  Spent : Verdict

-- what a walk shows, how it ends, and the world that it leaves
pub record Visited : Type 0 where
  pub turns : List Turn
  pub verdict : Verdict
  pub world : World

abbrev pub gives : Verdict → World → Visited
gives r w = record { turns = []; verdict = r; world = w }

abbrev pub with_turns : List Turn → Visited → Visited
with_turns ts v = record { turns = ts ++ v.turns; verdict = v.verdict; world = v.world }

-- a walk, and then what its result leads to
abbrev pub and_then : Visited → (Verdict → World → Visited) → Visited
and_then v h = with_turns v.turns (h v.verdict v.world)

-- only after Failed; other results are handed on
abbrev pub on_failed : (World → Visited) → Verdict → World → Visited
on_failed h Failed w = h w
on_failed h (CutTo m) w = gives (CutTo m) w
on_failed h (Thrown b o) w = gives (Thrown b o) w
on_failed h Stopped w = gives Stopped w
on_failed h (Halted n) w = gives (Halted n) w
on_failed h Spent w = gives Spent w

abbrev pub reaches : Bool → (World → Visited) → (World → Visited) → World → Visited
reaches true h i w = h w
reaches false h i w = i w

-- a cut to a barrier: where what comes after it fails, nothing up to there is tried
abbrev pub cut : Barrier → Verdict → World → Visited
cut m r w = on_failed (gives (CutTo m)) r w

-- the event of a box that was called before these items
abbrev pub event_of : Port → ℕ → Term Text → Bindings Text → List Item → World → Event
event_of p k g σ J w =
    record {
      chrono = w.events + 1;
      call = k;
      parent = head_number (open_boxes J);
      depth = 1 + length (open_boxes J);
      port = p;
      goal = apply σ g;
    }

abbrev pub with_event : World → World
with_event w = record w { events = w.events + 1 }

-- an event, and what comes after it
abbrev pub shows : Port → ℕ → Term Text → Bindings Text → List Item → World → (World → Visited) → Visited
shows p k g σ J w h = with_turns (Shown (event_of p k g σ J w) (with_event w) ∷ []) (h (with_event w))

-- a box has no further alternative; a ball leaves a box
abbrev pub fails : ℕ → Term Text → Bindings Text → List Item → World → Visited
fails k g σ J w = shows port.Fail k g σ J w (gives Failed)

abbrev pub raises : ℕ → Term Text → Bindings Text → List Item → Term Text → List ℕ → World → Visited
raises k g σ J b o w = shows port.Exception k g σ J w (gives (Thrown b o))

abbrev pub is_open : ℕ → List ℕ → Bool
is_open k o = list_any (λ n. n == k) o

-- the boxes around one of them
abbrev pub around : ℕ → List ℕ → List ℕ
around k [] = []
around k (n ∷ o) = if n == k then o else around k o

-- at the end of a box: after Failed, and after a cut to its call; and where a ball leaves it while it is open
abbrev pub on_end : ℕ → (World → Visited) → (Term Text → List ℕ → World → Visited) → Verdict → World → Visited
on_end k h i Failed w = h w
on_end k h i (CutTo m) w = reaches (same_barrier m (Call k)) h (gives (CutTo m)) w
on_end k h i (Thrown b o) w = reaches (is_open k o) (i b (around k o)) (gives (Thrown b o)) w
on_end k h i Stopped w = gives Stopped w
on_end k h i (Halted n) w = gives (Halted n) w
on_end k h i Spent w = gives Spent w

-- where all is spent, the count of steps is the budget
abbrev pub spent : Setup → World → Visited
spent s w = gives Spent (record w { steps = s.budget })

abbrev pub pays : Bool → Setup → ℕ → World → (World → Visited) → Visited
pays true s n w h = h (record w { steps = w.steps + n })
pays false s n w h = spent s w

-- n steps, and what they pay for
abbrev pub spends : Setup → ℕ → World → (World → Visited) → Visited
spends s n w h = pays (nat_le (w.steps + n) s.budget) s n w h

-- the world that an act leaves: the counts of the walk stay as they are
abbrev pub counted_as : World → World → World
counted_as w u = record u { calls = w.calls; conditions = w.conditions; steps = w.steps; events = w.events; solutions = w.solutions }

abbrev pub acts : Bool → Setup → Act → World → (Yield → World → Visited) → Visited
acts true s a w h = h a.yield (record (counted_as w a.after) { steps = w.steps + a.cost })
acts false s a w h = spent s (counted_as w a.interrupted)

-- an act, and what its yield leads to
abbrev pub performs : Setup → Act → World → (Yield → World → Visited) → Visited
performs s a w h = acts (nat_le (w.steps + a.cost) s.budget) s a w h

-- what kind of goal a converted term is (7.6.2): one of the control constructs that have no box, by this project's own list, or a
-- goal with a box
pub data Control : Type 0 where
  TrueGoal : Control
  FailGoal : Control
  CutGoal : Control
  Conjunction : Term Text → Term Text → Control
  Disjunction : Term Text → Term Text → Control
  IfThenElse : Term Text → Term Text → Term Text → Control
  BoxedGoal : Control

abbrev pub control_of_atom : Text → Control
control_of_atom f =
    if text_eq f (codes "true") then TrueGoal else
    if text_eq f (codes "fail") then FailGoal else
    if text_eq f (codes "false") then FailGoal else
    if text_eq f (codes "!") then CutGoal else
    BoxedGoal

-- a disjunction, or an if-then-else where its first part is an if-then
abbrev pub control_of_disjunction : Term Text → Term Text → Control
control_of_disjunction (node f (arg c (arg t no_args))) b =
    if text_eq f (codes "->") then IfThenElse c t b else Disjunction (node f (arg c (arg t no_args))) b
control_of_disjunction a b = Disjunction a b

abbrev pub control_of_pair : Text → Term Text → Term Text → Control
control_of_pair f a b =
    if text_eq f (codes ",") then Conjunction a b else
    if text_eq f (codes ";") then control_of_disjunction a b else
    if text_eq f (codes "->") then IfThenElse a b (atom (codes "fail")) else
    BoxedGoal

abbrev pub control : Term Text → Control
control (node f no_args) = control_of_atom f
control (node f (arg a (arg b no_args))) = control_of_pair f a b
control _ = BoxedGoal

abbrev pub is_true : Term Text → Bool
is_true (node f no_args) = text_eq f (codes "true")
is_true _ = false

-- catch/3 (7.8.9), and the term that a ball is to be unified with
abbrev pub is_catch : Term Text → Bool
is_catch (node f (arg a (arg c (arg r no_args)))) = text_eq f (codes "catch")
is_catch _ = false

abbrev pub catcher_of : Term Text → Term Text
catcher_of g = nth_arg (args_of g) 1

-- what is in the box of a goal: the clauses of its procedure, or its executions, where there is no procedure; those of catch/3 are
-- protected: a ball that comes out of them may be caught
pub data Inside : Type 0 where
  Clauses : List Clause → Inside
  WithoutProcedure : Inside
  Protected : Inside

abbrev pub inside_procedure : Option Procedure → Term Text → Inside
inside_procedure None g = if is_catch g then Protected else WithoutProcedure
inside_procedure (Some p) g = Clauses p.clauses

abbrev pub inside : Database → Term Text → Inside
inside d g = inside_procedure (procedure_of d g) g

-- what is to be done in a box once a clause's head has matched: its body, then the exit; nothing but the exit for a fact
abbrev pub entered : ℕ → Clause → ℕ → Term Text → List Item → List Item
entered first c k g J =
    if is_true c.body then Exit k g ∷ J else Goal (shift first c.body) (Call k) ∷ Exit k g ∷ J

abbrev pub Visitor : Type 0
Visitor = List Item → Bindings Text → World → Visited

-- what is left to do on backtracking, and after each other result, of an item that the walk has entered:
-- an exit is redone; a disjunction has a second branch; a box has further clauses, or further executions; a box has no further
-- alternative, and may catch a ball that comes out of it; a condition with this number has an else branch
pub data Choice : Type 0 where
  Redo : ℕ → Term Text → Bindings Text → List Item → Choice
  Branch : Term Text → Barrier → Bindings Text → List Item → Choice
  More : List Clause → ℕ → Term Text → Bindings Text → List Item → Choice
  Again : Execution → ℕ → Term Text → Bindings Text → List Item → Choice
  Fail : ℕ → Term Text → Bindings Text → List Item → Choice
  Catch : ℕ → Term Text → Bindings Text → List Item → Choice
  Condition : ℕ → Term Text → Barrier → Bindings Text → List Item → Choice

-- a head that was unified with the goal, or not, or whose steps were not there
abbrev pub matched : Visitor → Setup → Clause → ℕ → Term Text → List Item → World → Option (Result Text) → Visited
matched visit s c k g J w None = spent s w
matched visit s c k g J w (Some (None, left)) = gives Failed (record w { steps = s.budget - left })
matched visit s c k g J w (Some (Some τ, left)) =
    spends s c.variables (record w { steps = s.budget - left })
    (λ u. visit (entered w.variables c k g J) τ (record u { variables = u.variables + c.variables }))

-- a clause that is tried: one step, and those of the head's unification with the goal; one for each variable once it matched
abbrev pub try_clause : Visitor → Setup → Clause → ℕ → Term Text → Bindings Text → List Item → World → Visited
try_clause visit s c k g σ J w =
    spends s 1 w (λ u. matched visit s c k g J u (unify text_eq (s.budget - u.steps) σ ((g, shift u.variables c.head) ∷ [])))

-- the clauses one after the other, each from the same bindings, until a result isn't Failed
abbrev pub alternatives : Visitor → Setup → List Clause → ℕ → Term Text → Bindings Text → List Item → Verdict → World → Visited
alternatives visit s [] k g σ J r w = gives r w
alternatives visit s (c ∷ cs) k g σ J r w =
    on_failed (λ u. and_then (try_clause visit s c k g σ J u) (alternatives visit s cs k g σ J)) r w

-- another branch: one step, and its goal
abbrev pub branches : Visitor → Setup → Term Text → Barrier → Bindings Text → List Item → World → Visited
branches visit s t m σ J w = spends s 1 w (visit (Goal t m ∷ J) σ)

-- a further execution: one step, and the execution
abbrev pub executes_again : Visitor → Setup → Execution → ℕ → Term Text → Bindings Text → List Item → World → Visited
executes_again visit s t k g σ J w = spends s 1 w (visit (Execute t k g ∷ J) σ)

-- a condition that has no solution is followed by the else branch, also where a cut inside it left none; the cut that its success
-- made ends here
abbrev pub on_condition : ℕ → (World → Visited) → Verdict → World → Visited
on_condition n h Failed w = h w
on_condition n h (CutTo m) w =
    reaches (same_barrier m (InCondition n)) h (reaches (same_barrier m (AtSuccess n)) (gives Failed) (gives (CutTo m))) w
on_condition n h (Thrown b o) w = gives (Thrown b o) w
on_condition n h Stopped w = gives Stopped w
on_condition n h (Halted i) w = gives (Halted i) w
on_condition n h Spent w = gives Spent w

-- the end of a box
abbrev pub ends : ℕ → Term Text → Bindings Text → List Item → Verdict → World → Visited
ends k g σ J r w = on_end k (fails k g σ J) (raises k g σ J) r w

-- a ball that was unified with the catcher, or not, or whose steps were not there: where it was, the recovery is executed in the same box,
-- which catches nothing any more; else the ball leaves the box
abbrev pub caught : Visitor → Setup → ℕ → Term Text → Bindings Text → List Item → Term Text → List ℕ → World → Option (Result Text)
    → Visited
caught visit s k g σ J b o w None = spent s w
caught visit s k g σ J b o w (Some (None, left)) = raises k g σ J b o (record w { steps = s.budget - left })
caught visit s k g σ J b o w (Some (Some τ, left)) =
    and_then (executes_again visit s Recovery k g τ J (record w { steps = s.budget - left })) (ends k g σ J)

-- a ball in a box that catches: it is unified with the catcher, under the bindings at the call
abbrev pub catches : Visitor → Setup → ℕ → Term Text → Bindings Text → List Item → Term Text → List ℕ → World → Visited
catches visit s k g σ J b o w = caught visit s k g σ J b o w (unify text_eq (s.budget - w.steps) σ ((b, catcher_of g) ∷ []))

-- what each kind of choice point does after a result
abbrev pub after : Visitor → Setup → Choice → Verdict → World → Visited
after visit s (Redo k g σ J) r w = on_failed (λ u. shows port.Redo k g σ J u (gives Failed)) r w
after visit s (Branch t m σ J) r w = on_failed (branches visit s t m σ J) r w
after visit s (More cs k g σ J) r w = alternatives visit s cs k g σ J r w
after visit s (Again t k g σ J) r w = on_failed (executes_again visit s t k g σ J) r w
after visit s (Fail k g σ J) r w = ends k g σ J r w
after visit s (Catch k g σ J) r w = on_end k (fails k g σ J) (catches visit s k g σ J) r w
after visit s (Condition n t m σ J) r w = on_condition n (branches visit s t m σ J) r w

-- the alternatives of a box
abbrev pub entered_box : Visitor → Setup → Inside → ℕ → Term Text → Bindings Text → List Item → World → Visited
entered_box visit s (Clauses cs) k g σ J w = alternatives visit s cs k g σ J Failed w
entered_box visit s WithoutProcedure k g σ J w = visit (Execute First k g ∷ J) σ w
entered_box visit s Protected k g σ J w = visit (Execute First k g ∷ J) σ w

-- the choice point of a box, below those of its alternatives
abbrev pub last_choice : Inside → ℕ → Term Text → Bindings Text → List Item → Choice
last_choice (Clauses cs) k g σ J = Fail k g σ J
last_choice WithoutProcedure k g σ J = Fail k g σ J
last_choice Protected k g σ J = Catch k g σ J

-- a goal with a box: the next call number, the event call, its alternatives, and the event fail after them
abbrev pub boxed : Visitor → Setup → Term Text → List Item → Bindings Text → World → Visited
boxed visit s g J σ w =
    let k : ℕ = w.calls + 1 in
    shows port.Call k g σ J (record w { calls = k }) (λ u.
    and_then (entered_box visit s (inside u.database g) k g σ J u) (after visit s (last_choice (inside u.database g) k g σ J)))

-- the exit of a box, and the items behind it
abbrev pub exits : Visitor → Setup → (Bindings Text → World → Visited) → ℕ → Term Text → List Item → Bindings Text → World → Visited
exits visit s rest k g J σ w = shows port.Exit k g σ J w (λ u. and_then (rest σ u) (after visit s (Redo k g σ J)))

-- the condition, the cut of its success and what follows it; on failure the else branch
abbrev pub if_then_else : Visitor → Setup → Term Text → Term Text → Term Text → Barrier → List Item → Bindings Text → World → Visited
if_then_else visit s c t e m J σ w =
    let n : ℕ = w.conditions + 1 in
    and_then (visit (Goal c (InCondition n) ∷ Cut (AtSuccess n) ∷ Goal t m ∷ J) σ (record w { conditions = n }))
    (after visit s (Condition n e m σ J))

abbrev pub selected : Visitor → Setup → Control → Term Text → Barrier → List Item → Bindings Text → World → Visited
selected visit s TrueGoal t m J σ w = visit J σ w
selected visit s FailGoal t m J σ w = gives Failed w
selected visit s CutGoal t m J σ w = and_then (visit J σ w) (cut m)
selected visit s (Conjunction a b) t m J σ w = visit (Goal a m ∷ Goal b m ∷ J) σ w
selected visit s (Disjunction a b) t m J σ w = and_then (visit (Goal a m ∷ J) σ w) (after visit s (Branch b m σ J))
selected visit s (IfThenElse c a b) t m J σ w = if_then_else visit s c a b m J σ w
selected visit s BoxedGoal t m J σ w = boxed visit s t J σ w

-- a goal is selected: one step
abbrev pub selects : Visitor → Setup → Term Text → Barrier → List Item → Bindings Text → World → Visited
selects visit s t m J σ w = spends s 1 w (selected visit s (control t) t m J σ)

-- what the yield of an execution leads to: it fails; or its box exits, and a further execution may be left; a body runs in its box,
-- which exits behind
-- it; a ball leaves it, and all boxes around it; or the run ends
abbrev pub yields : Visitor → Setup → (Bindings Text → World → Visited) → ℕ → Term Text → List Item → Bindings Text → Yield → World
    → Visited
yields visit s rest k g J σ Fails w = gives Failed w
yields visit s rest k g J σ (Succeeds τ) w = exits visit s rest k g J τ w
yields visit s rest k g J σ (Succeeds_again τ t) w = and_then (exits visit s rest k g J τ w) (after visit s (Again t k g σ J))
yields visit s rest k g J σ (Runs b) w = selects visit s b (Call k) (Exit k g ∷ J) σ w
yields visit s rest k g J σ (Throws b) w = gives (Thrown b (k ∷ open_boxes J)) w
yields visit s rest k g J σ (Halts n) w = gives (Halted n) w

-- a solution, which ends the walk if it is the wanted one
abbrev pub solved : Setup → Bindings Text → World → Visited
solved s σ w =
    let u : World = record w { solutions = w.solutions + 1 } in
    with_turns (Solved σ u ∷ []) (gives (if u.solutions == s.wanted then Stopped else Failed) u)

-- One equation for each kind of first item. One that has paid a step may go on by `visit`; one that hasn't goes on with the items
-- behind its own.
unfoldable pub visit_with : Visitor → Setup → List Item → Bindings Text → World → Visited
visit_with visit s [] σ w = solved s σ w
visit_with visit s (Exit k g ∷ J) σ w = exits visit s (visit_with visit s J) k g J σ w
visit_with visit s (Cut m ∷ J) σ w = and_then (visit_with visit s J σ w) (cut m)
visit_with visit s (Execute t k g ∷ J) σ w = performs s (s.act (s.budget - w.steps) t g σ w) w (yields visit s
    (visit_with visit s J) k g J σ)
visit_with visit s (Goal t m ∷ J) σ w = selects visit s t m J σ w

-- The walk, given up where it calls itself at a greater depth than this. Each such call has paid a step, so that the depth below, one
-- more than there are steps left, is enough (`laws::visit_equations`).
unfoldable pub visit_by : ℕ → Setup → List Item → Bindings Text → World → Visited
visit_by zero s I σ w = gives Spent w
visit_by (suc f) s I σ w = visit_with (visit_by f s) s I σ w

-- the walk of the search tree of these items
unfoldable pub visit : Setup → List Item → Bindings Text → World → Visited
visit s I σ w = visit_by (suc (s.budget - w.steps)) s I σ w
