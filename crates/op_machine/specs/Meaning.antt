-- What a machine's parts mean: over texts, the items, choice points, bindings and world of a walk.
use Rattle.std.specs.Prelude.{ℕ, List, [], ◌∷◌, map, reverse, take, Option, Some, None}
use Rattle.op_logic.specs.Term.{Term, atom}
use Rattle.op_logic.specs.Bind.{Bindings}
use Rattle.op_logic.specs.Laws.{rename_bindings}
use Rattle.op_logic.specs.Names.{name_at}
use Rattle.op_term.specs.Places.{term_at}
use Rattle.op_bind.specs.State.{resolved, oldest, value_of}
use Rattle.op_bind.specs.State as bind
use Rattle.op_trace.specs.World as world
use Rattle.op_trace.specs.Database.{Text}
use Rattle.op_trace.specs.World.{World, Event, loaded}
use Rattle.op_trace.specs.Act.{Setup}
use Rattle.op_machine.specs.Acts.{setup_for}
use Rattle.op_trace.specs.Visit as visit
use Rattle.op_trace.specs.Visit.{Verdict}
use Rattle.op_machine.specs.declared.continuations.Item.{Item}
use Rattle.op_machine.specs.declared.continuations.Item.TheVariants as item
use Rattle.op_frames.specs.declared.choice.Choice.{Choice}
use Rattle.op_frames.specs.Frames.{Framed, open_from}
use Rattle.op_machine.specs.declared.choice_points.ChoiceKind.{ChoiceKind}
use Rattle.op_machine.specs.declared.choice_points.ChoiceKind.TheVariants as kind
use Rattle.op_machine.specs.declared.choice_points.Alternative.{Alternative}
use Rattle.op_machine.specs.declared.core_state.Core.{Core}
use Rattle.op_machine.specs.declared.core_state.Mode.{Mode}
use Rattle.op_machine.specs.declared.core_state.Mode.TheVariants as mode
use Rattle.op_machine.specs.declared.core_state.Outcome.{Outcome}
use Rattle.op_machine.specs.declared.core_state.Outcome.TheVariants as outcome
use Rattle.op_machine.specs.declared.core_state.Seen.{Seen}
use Rattle.op_machine.specs.inner.Continuations.{continuation_in}
use Rattle.op_store.specs.Stored.{Stored, database_of}
use Rattle.op_machine.specs.Program.{clauses_from, goal_named}
use Rattle.op_machine.specs.Resume.{State, Forward, Backward, Throwing, Over}

-- a choice point with what the machine keeps with it
abbrev pub Frame : Type 0
Frame = Choice Alternative

-- the terms, the bindings and the continuations of a moment
pub record Level : Type 0 where
  pub terms : List (Term ℕ)
  pub bound : List (ℕ × ℕ)
  pub continuations : List (List Item)

-- what the bindings of a moment are over texts, and the term of a Ref
abbrev pub bindings_in : Stored → Level → Bindings Text
bindings_in t v = rename_bindings (name_at t.names) (resolved v.terms v.bound)

abbrev pub term_in : Stored → Level → ℕ → Term Text
term_in t v r = goal_named t (term_at v.terms r)

abbrev pub item_term : Stored → Level → Item → world.Item
item_term t v (item.Goal r m) = world.Goal (term_in t v r) m
item_term t v (item.Cut m) = world.Cut m
item_term t v (item.Exit k r) = world.Exit k (term_in t v r)
item_term t v (item.Execute k r) = world.Execute world.First k (term_in t v r)
item_term t v (item.Recover k r) = world.Execute world.Recovery k (term_in t v r)

abbrev pub items_in : Stored → Level → ℕ → List world.Item
items_in t v n = map (item_term t v) (continuation_in v.continuations n)

-- what each kind means, with its goal, before a continuation
abbrev pub choice_point_by : Stored → Level → ChoiceKind → ℕ → ℕ → visit.Choice
choice_point_by t v (kind.Redo k) g n = visit.Redo k (term_in t v g) (bindings_in t v) (items_in t v n)
choice_point_by t v (kind.Branch m) g n = visit.Branch (term_in t v g) m (bindings_in t v) (items_in t v n)
choice_point_by t v (kind.More k rs i) g n = visit.More (clauses_from t rs i) k (term_in t v g) (bindings_in t v) (items_in t v n)
choice_point_by t v (kind.Fail k) g n = visit.Fail k (term_in t v g) (bindings_in t v) (items_in t v n)
choice_point_by t v (kind.Catch k) g n = visit.Catch k (term_in t v g) (bindings_in t v) (items_in t v n)
choice_point_by t v (kind.Condition c m) g n = visit.Condition c (term_in t v g) m (bindings_in t v) (items_in t v n)

abbrev pub choice_point_of : Stored → Level → Frame → visit.Choice
choice_point_of t v f = choice_point_by t v f.kept.kind f.kept.goal f.rest

-- the moment at which a choice point was made, which is the beginning of a later one
abbrev pub level_at : Frame → Level → Level
level_at f v = record {
  terms = take f.mark.terms v.terms;
  bound = oldest f.mark.bound v.bound;
  continuations =
      take f.kept.continuations v.continuations;
}

-- the last first
abbrev pub choice_points_of : Stored → Level → List Frame → List visit.Choice
choice_points_of t v [] = []
choice_points_of t v (f ∷ F) = choice_point_of t (level_at f v) f ∷ choice_points_of t (level_at f v) F

abbrev pub setup_of : Core → Setup
setup_of c = setup_for c.budget c.wanted

abbrev pub world_in : Core → World
world_in c = record (loaded (database_of c.store)) {
  variables = c.bindings.count;
  calls = c.calls;
  conditions = c.conditions;
  steps = c.steps;
  events = c.events;
  solutions =
      c.solutions;
}

abbrev pub level_of : bind.State → List (List Item) → Level
level_of s L = record { terms = s.terms; bound = s.bound; continuations = L }

abbrev pub level_in : Core → Level
level_in c = level_of c.bindings c.continuations

abbrev pub bindings_now : Core → Bindings Text
bindings_now c = bindings_in c.store (level_in c)

abbrev pub items_now : Core → ℕ → List world.Item
items_now c n = items_in c.store (level_in c) n

abbrev pub goal_now : Core → ℕ → Term Text
goal_now c g = term_in c.store (level_in c) g

abbrev pub choice_points_in : Core → List visit.Choice
choice_points_in c = choice_points_of c.store (level_in c) (reverse c.frames.choices)

-- the ball that was thrown, over texts; where none was, nothing is meant
abbrev pub ball_text : Stored → Option (Term ℕ) → Term Text
ball_text t None = atom []
ball_text t (Some b) = goal_named t b

-- the numbers of a box and of those around it, the innermost first
abbrev pub open_in : Framed Alternative → ℕ → List ℕ
open_in x n = map (λ (p : ℕ × ℕ). p.0) (open_from x.boxes n)

abbrev pub verdict_of : Stored → Framed Alternative → Option (Term ℕ) → Outcome → Verdict
verdict_of t x b outcome.Stopped = visit.Stopped
verdict_of t x b outcome.Failed = visit.Failed
verdict_of t x b (outcome.Thrown n) = visit.Thrown (ball_text t b) (open_in x n)
verdict_of t x b (outcome.Halted i) = visit.Halted i
verdict_of t x b outcome.Spent = visit.Spent
verdict_of t x b (outcome.Interrupted n) = visit.Spent

-- how many variables were given out: at the end of a run those of a builtin that was interrupted don't count
abbrev pub variables_left : Mode → ℕ → ℕ
variables_left (mode.Over outcome.Stopped) v = v
variables_left (mode.Over outcome.Failed) v = v
variables_left (mode.Over (outcome.Thrown n)) v = v
variables_left (mode.Over (outcome.Halted i)) v = v
variables_left (mode.Over outcome.Spent) v = v
variables_left (mode.Over (outcome.Interrupted n)) v = n
variables_left (mode.Forward n) v = v
variables_left mode.Backward v = v
variables_left (mode.Throwing n) v = v

-- the world that a machine leaves
abbrev pub left_by : Mode → World → World
left_by q w = record w { variables = variables_left q w.variables }

abbrev pub state_with : Stored → Level → Framed Alternative → World → Option (Term ℕ) → Mode → State
state_with t v x w b (mode.Forward n) = Forward (items_in t v n) (choice_points_of t v (reverse x.choices)) (bindings_in t v) w
state_with t v x w b mode.Backward = Backward (choice_points_of t v (reverse x.choices)) w
state_with t v x w b (mode.Throwing n) = Throwing (ball_text t b) (open_in x n) (choice_points_of t v (reverse x.choices)) w
state_with t v x w b (mode.Over e) = Over (verdict_of t x b e) (left_by (mode.Over e) w)

-- the world of a machine, as a run that has ended left it
abbrev pub world_left : Core → World
world_left c = left_by c.mode (world_in c)

abbrev pub state_of : Core → State
state_of c = state_with c.store (level_in c) c.frames (world_in c) c.ball c.mode

abbrev pub event_seen : Stored → bind.State → Seen → Event
event_seen t s e = record {
  chrono = e.chrono;
  call = e.call;
  parent = e.parent;
  depth = e.depth;
  port = e.port;
  goal = goal_named t (value_of s e.goal);
}
