-- What one move of the machine does to its parts.
use Rattle.std.specs.Prelude.{◌≡◌, ℕ, ◌-◌, ◌≤◌, List, [], ◌∷◌, length, take, if◌then◌else◌, Option}
use Rattle.op_logic.specs.Term.{Term, shift, Args, no_args, args_of, nth_arg}
use Rattle.op_term.specs.Places.{term_at}
use Rattle.op_logic.specs.Bind.{apply, follow, unify, Solved as Result}
use Rattle.op_trace.specs.World as world
use Rattle.op_trace.specs.declared.barrier.Barrier.{Barrier}
use Rattle.op_trace.specs.declared.barrier.Barrier.TheVariants.{Call}
use Rattle.op_trace.specs.Database.{Text, text_eq}
use Rattle.op_trace.specs.World.{World, Turn, Shown, Solved}
use Rattle.op_trace.specs.Act.{Act}
use Rattle.op_trace.specs.Body.{divided}
use Rattle.op_trace.specs.Builtins.{throw, run_goal, run_division, alone}
use Rattle.op_machine.specs.Acts.{act_of_goal}
use Rattle.op_trace.specs.Visit.{control, inside, is_true}
use Rattle.op_trace.specs.Visit as visit
use Rattle.op_bind.specs.declared.places.Clause.{Clause as NumberedClause}
use Rattle.op_machine.specs.Program.{clause_in, clauses_from, goal_named}
use Rattle.op_machine.specs.declared.core_state.Core.{Core}
use Rattle.op_machine.specs.declared.core_state.Step.{Step}
use Rattle.op_machine.specs.declared.core_state.Step.TheVariants as step
use Rattle.op_machine.specs.Meaning.{setup_of, world_in, items_now, goal_now, bindings_now, choice_points_in, state_of, event_seen}
use Rattle.op_machine.specs.Meaning.{ball_text, open_in}
use Rattle.op_machine.specs.inner.Invariant.{IsGood, IsSeen, HasGoal}
use Rattle.op_bind.specs.Grown.{Grows}
use Rattle.op_bind.specs.State.{bindings}
use Rattle.op_store.specs.Stored.{Stored, database_of}
use Rattle.op_machine.specs.declared.builtin_kind.Around.{Around}
use Rattle.op_machine.specs.inner.BuiltinKinds.{body_around, first_argument, more_arguments}
use Rattle.op_machine.specs.Resume.{State, entered_state, Moved, Forward, Backward, Throwing, silent, pay}
use Rattle.op_machine.specs.Resume.{keep, if_then_else_chosen, chosen, invoked}
use Rattle.op_machine.specs.Resume.{head_unified, tried}
use Rattle.op_machine.specs.Resume.{branched, executed_again, performed, yielded, leaving, move}

-- the turn that a machine shows after a step
abbrev pub turns_of : Step → Core → List Turn
turns_of step.Silent c = []
turns_of step.Event c = Shown (event_seen c.store c.bindings c.seen) (world_in c) ∷ []
turns_of step.Solution c = Solved (bindings_now c) (world_in c) ∷ []

-- the goal that was shown can be looked at
abbrev pub IsLooked : Step → Core → Type 0
IsLooked step.Event c = IsSeen c
IsLooked s c = Unit {0}

-- the move of a goal that is selected before a continuation, and what it leads to once its step was paid
abbrev pub chosen_now : Core → Term Text → Barrier → ℕ → World → Moved
chosen_now c t m n w = chosen (control t) t m (items_now c n) (choice_points_in c) (bindings_now c) w

abbrev pub goal_moved : Core → Term Text → Barrier → ℕ → Moved
goal_moved c t m n = pay (setup_of c) 1 (world_in c) (chosen_now c t m n)

-- the exit of a box before a continuation
abbrev pub exit_moved : Core → ℕ → ℕ → ℕ → Moved
exit_moved c k g n = move (setup_of c) (Forward (world.Exit k (goal_now c g) ∷ items_now c n) (choice_points_in c) (bindings_now c)
    (world_in c))

-- a box is invoked
abbrev pub box_invoked : Core → ℕ → ℕ → Moved
box_invoked c g n = invoked (goal_now c g) (items_now c n) (choice_points_in c) (bindings_now c) (world_in c)

-- a box was entered, at the present moment
abbrev pub box_entered : Core → ℕ → ℕ → ℕ → State
box_entered c k g n =
    entered_state (inside (database_of c.store) (goal_now c g)) k (goal_now c g) (items_now c n) (choice_points_in c) (bindings_now c)
    (world_in c)

-- the body of a clause before items, with this barrier: nothing for a fact
abbrev pub body_before : Core → ℕ → ℕ → List world.Item → List world.Item
body_before c b k J = if is_true (goal_now c b) then J else world.Goal (goal_now c b) (Call k) ∷ J

-- a clause's body and then the exit of the box come next
abbrev pub body_entered : Core → ℕ → ℕ → ℕ → ℕ → Moved
body_entered c b k g n =
    silent (Forward (body_before c b k (world.Exit k (goal_now c g) ∷ items_now c n)) (choice_points_in c) (bindings_now c) (world_in c))

-- the two goals of a conjunction before a continuation
abbrev pub conjunction_before : Core → ℕ → Barrier → ℕ → List world.Item
conjunction_before c g m n =
    let ts : Args ℕ = args_of (term_at c.bindings.terms g) in
    world.Goal (goal_named c.store (nth_arg ts 0)) m ∷ world.Goal (goal_named c.store (nth_arg ts 1)) m ∷ items_now c n

-- a clause's head is unified with the goal, with the steps that are left
abbrev pub head_unifier : Core → NumberedClause → ℕ → Option (Result Text)
head_unifier c r g =
    unify text_eq (c.budget - c.steps) (bindings_now c) ((goal_now c g, shift c.bindings.count (clause_in c.store r).head) ∷ [])

abbrev pub clause_unified : Core → NumberedClause → ℕ → ℕ → ℕ → Moved
clause_unified c r k g n = head_unified (setup_of c) (clause_in c.store r) k (goal_now c g) (items_now c n) (choice_points_in c)
    (world_in c) (head_unifier c r g)

-- the move of a clause that is tried for a goal before a continuation
abbrev pub clause_tried : Core → NumberedClause → ℕ → ℕ → ℕ → Moved
clause_tried c r k g n =
    tried (setup_of c) (clause_in c.store r) k (goal_now c g) (bindings_now c) (items_now c n) (choice_points_in c) (world_in c)

-- the move of a choice point, made at the present moment, of clauses from one on
abbrev pub clauses_tried : Core → List NumberedClause → ℕ → ℕ → ℕ → ℕ → Moved
clauses_tried c snapshot i k g n =
    move (setup_of c) (Backward (visit.More (clauses_from c.store snapshot i) k (goal_now c g) (bindings_now c) (items_now c n)
    ∷ choice_points_in c) (world_in c))

-- another branch is tried, made at the present moment
abbrev pub branch_tried : Core → ℕ → Barrier → ℕ → Moved
branch_tried c g m n = branched (setup_of c) (goal_now c g) m (bindings_now c) (items_now c n) (choice_points_in c) (world_in c)

-- the choice points that a cut keeps
abbrev pub cut_moved : Core → Barrier → ℕ → Moved
cut_moved c m n = silent (Forward (items_now c n) (keep m (choice_points_in c)) (bindings_now c) (world_in c))

-- the first branch comes next, and the second is kept as a choice point
abbrev pub disjunction_before : Core → ℕ → ℕ → Barrier → ℕ → Moved
disjunction_before c a b m n =
    silent (Forward (world.Goal (goal_now c a) m ∷ items_now c n)
    (visit.Branch (goal_now c b) m (bindings_now c) (items_now c n) ∷ choice_points_in c) (bindings_now c) (world_in c))

-- a condition comes next, and the else branch is kept as a choice point
abbrev pub if_then_else_before : Core → ℕ → ℕ → ℕ → Barrier → ℕ → Moved
if_then_else_before c a b e m n = if_then_else_chosen (goal_now c a) (goal_now c b) (goal_now c e) m (items_now c n) (choice_points_in c)
    (bindings_now c) (world_in c)

-- the move of an execution that does this, for a goal before a continuation, in the box of this number
abbrev pub act_moved : Core → Act → ℕ → ℕ → ℕ → Moved
act_moved c a k g n = performed (setup_of c) a (world_in c) (yielded k (goal_now c g) (items_now c n) (choice_points_in c) (bindings_now c))

abbrev pub steps_left : Core → ℕ
steps_left c = c.budget - c.steps

-- a goal that has no procedure is executed
abbrev pub goal_executed : Core → ℕ → ℕ → ℕ → Moved
goal_executed c k g n = act_moved c (act_of_goal (steps_left c) (goal_now c g) (bindings_now c) (world_in c)) k g n

-- a ball is thrown, a copy of this term
abbrev pub ball_thrown : Core → Term Text → ℕ → ℕ → ℕ → Moved
ball_thrown c t k g n = act_moved c (throw (steps_left c) (bindings_now c) t (world_in c)) k g n

-- a term, as it stands in a ball, goes up from a box
abbrev pub ball_raised : Core → ℕ → ℕ → Moved
ball_raised c b k = silent (Throwing (apply (bindings_now c) (goal_now c b)) (open_in c.frames k) (choice_points_in c) (world_in c))

-- the first argument of a goal runs in its box
abbrev pub argument_run : Core → Around → ℕ → ℕ → ℕ → Moved
argument_run c r k g n = act_moved c (run_goal (body_around r) (follow (bindings_now c) (first_argument (goal_now c g)))
    (more_arguments (goal_now c g)) (steps_left c) (bindings_now c) (world_in c)) k g n

-- one of its arguments, by its place, runs in its box, with no more arguments
abbrev pub part_run : Core → ℕ → ℕ → ℕ → ℕ → Moved
part_run c i k g n = act_moved c (run_goal alone (follow (bindings_now c) (nth_arg (args_of (goal_now c g)) i)) no_args (steps_left c)
    (bindings_now c) (world_in c)) k g n

-- the recovery of a box comes next, over the choice points that there are
abbrev pub recovery_moved : Core → ℕ → ℕ → ℕ → Moved
recovery_moved c k g n = executed_again (setup_of c) world.Recovery k (goal_now c g) (bindings_now c) (items_now c n)
    (choice_points_in c) (world_in c)

-- a goal is converted, and runs in the box of another
abbrev pub goal_run : Core → Around → ℕ → ℕ → ℕ → ℕ → Moved
goal_run c r q k g n = act_moved c (run_division (divided (bindings_now c) (goal_now c q)) (body_around r) (goal_now c q) (steps_left c)
    (bindings_now c) (world_in c)) k g n

-- a body runs in a box
abbrev pub body_run : Core → ℕ → ℕ → ℕ → ℕ → Moved
body_run c b k g n = silent (Forward (world.Goal (goal_now c b) (Call k) ∷ world.Exit k (goal_now c g) ∷ items_now c n)
    (choice_points_in c) (bindings_now c) (world_in c))

-- a ball goes up from a box
abbrev pub ball_moved : Core → ℕ → Moved
ball_moved c n = leaving (setup_of c) (ball_text c.store c.ball) (open_in c.frames n) (choice_points_in c) (world_in c)

-- the program and the goal's names stay, also where memory is wanting, and steps never fall
pub record Keeps (old new : Core) : Type 0 where
  pub store : new.store ≡ old.store
  pub names : new.names ≡ old.names
  pub later : old.steps ≤ new.steps

-- names have joined those of a program, and nothing else of it has changed
pub record HasGrown (old new : Stored) : Type 0 where
  pub rest : new ≡ record old { names = new.names }
  pub names : take (length old.names) new.names ≡ old.names

-- the same as of Keeps where names may have joined those of the program
pub record KeepsProgram (old new : Core) : Type 0 where
  pub store : HasGrown old.store new.store
  pub names : new.names ≡ old.names
  pub later : old.steps ≤ new.steps

-- a term was made, and all else is as it was
pub record Makes (old new : Core) (r : ℕ) : Type 0 where
  pub rest : new ≡ record old { bindings = new.bindings }
  pub grows : Grows old.bindings new.bindings
  pub bindings : bindings new.bindings ≡ bindings old.bindings
  pub count : new.bindings.count ≡ old.bindings.count
  pub there : HasGoal new r

-- the parts have made a move
pub record Advances (old new : Core) (m : Moved) (s : Step) : Type 0 where
  pub turns : turns_of s new ≡ m.turns
  pub state : state_of new ≡ m.state
  pub good : IsGood new
  pub looked : IsLooked s new
  pub store : new.store ≡ old.store
  pub names : new.names ≡ old.names
  pub budget : new.budget ≡ old.budget
  pub wanted : new.wanted ≡ old.wanted

-- the same where names may have joined those of the program
pub record Proceeds (old new : Core) (m : Moved) (s : Step) : Type 0 where
  pub turns : turns_of s new ≡ m.turns
  pub state : state_of new ≡ m.state
  pub good : IsGood new
  pub looked : IsLooked s new
  pub store : HasGrown old.store new.store
  pub names : new.names ≡ old.names
  pub budget : new.budget ≡ old.budget
  pub wanted : new.wanted ≡ old.wanted
