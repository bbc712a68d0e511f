-- What callers see of a machine, and what its calls answer.
use Rattle.std.specs.Prelude.{◌≡◌, ℕ, ◌+◌, ◌&&◌, not, Bool, true, false, List, [], ◌∷◌, ◌++◌, Option}
use Rattle.op_logic.specs.Term.{Term}
use Rattle.op_logic.specs.Names.{HasNames, named}
use Rattle.op_trace.specs.Database.{Text}
use Rattle.op_trace.specs.World.{World, Event, Turn, Shown, Solved, loaded}
use Rattle.op_trace.specs.Outside.{Outside, Beyond, Taking, follow, at}
use Rattle.op_trace.specs.Act.{Setup}
use Rattle.op_machine.specs.Acts.{setup_for}
use Rattle.op_trace.specs.Run.{Run, ran}
use Rattle.op_trace.specs.Ending as ending
use Rattle.op_machine.specs.declared.continuations.Item.{Item}
use Rattle.op_frames.specs.Frames.{Framed}
use Rattle.op_machine.specs.declared.choice_points.Alternative.{Alternative}
use Rattle.op_machine.specs.declared.core_state.Core.{Core}
use Rattle.op_machine.specs.declared.core_state.Mode.{Mode}
use Rattle.op_machine.specs.declared.core_state.Seen.{Seen}
use Rattle.op_machine.specs.declared.turn.Ending.{Ending}
use Rattle.op_machine.specs.declared.turn.Ending.TheVariants as answer
use Rattle.op_machine.specs.declared.turn.Last.{Last}
use Rattle.op_machine.specs.declared.turn.Last.TheVariants as last
use Rattle.op_machine.specs.declared.turn.Turn as declared
use Rattle.op_machine.specs.declared.turn.Turn.TheVariants as turn
use Rattle.op_store.specs.Stored.{Stored, database_of}
use Rattle.op_bind.specs.State as bind
use Rattle.op_machine.specs.Meaning.{Level, level_of, bindings_in, left_by, state_with, event_seen}
use Rattle.op_machine.specs.inner.Invariant.{IsSeen}
use Rattle.op_machine.specs.Resume.{State, owed}
use Rattle.op_machine.specs.Outer.{state_at}

-- what a caller sees of what a machine keeps: but the last event, no turn that was or is to come is among it
pub record Kept : Type 0 where
  pub tables : Stored
  pub bindings : bind.State
  pub continuations : List (List Item)
  pub frames : Framed Alternative
  pub mode : Mode
  -- the ball that was thrown last
  pub ball : Option (Term ℕ)
  pub seen : Seen
  -- the goal's named variables
  pub names : List (List ℕ × ℕ)
  pub last : Last
  pub faulted : Bool
  pub calls : ℕ
  pub conditions : ℕ
  pub steps : ℕ
  pub events : ℕ
  pub solutions : ℕ
  pub budget : ℕ
  pub wanted : ℕ

abbrev pub kept_of : Core → Last → Bool → Kept
kept_of c l f = record {
  tables = c.store;
  bindings = c.bindings;
  continuations = c.continuations;
  frames = c.frames;
  mode = c.mode;
  ball = c.ball;
  seen = c.seen;
  names = c.names;
  last = l;
  faulted = f;
  calls = c.calls;
  conditions = c.conditions;
  steps = c.steps;
  events = c.events;
  solutions = c.solutions;
  budget = c.budget;
  wanted = c.wanted;
}

abbrev pub setup : Kept → Setup
setup k = setup_for k.budget k.wanted

-- the run's world at this moment, without what lies outside
abbrev pub moment : Kept → World
moment k = record (loaded (database_of k.tables)) {
  variables = k.bindings.count;
  calls = k.calls;
  conditions = k.conditions;
  steps = k.steps;
  events = k.events;
  solutions = k.solutions;
}

-- the same, as a run that has ended left it
abbrev pub world_now : Kept → World
world_now k = left_by k.mode (moment k)

abbrev pub level_now : Kept → Level
level_now k = level_of k.bindings k.continuations

abbrev pub state_now : Kept → State
state_now k = state_with k.tables (level_now k) k.frames (moment k) k.ball k.mode

-- the turns that are still to come, the ending, and the world at it, over what lies outside, where these bytes were written before
unfoldable pub to_come : Kept → Outside → List ℕ → Run
to_come k h o = ran (owed (setup k) (state_at h o (state_now k)))

-- the event that was shown last
abbrev pub event_now : Kept → Event
event_now k = event_seen k.tables k.bindings k.seen

abbrev pub is_event : Last → Bool
is_event last.Event = true
is_event l = false

abbrev pub is_solution : Last → Bool
is_solution last.Solution = true
is_solution l = false

-- whether the last turn was an event, and the machine has not ended by a fault
abbrev pub has_event : Kept → Bool
has_event k = is_event k.last && not k.faulted

abbrev pub has_solution : Kept → Bool
has_solution k = is_solution k.last && not k.faulted

-- how many turns were answered
abbrev pub answered : Kept → ℕ
answered k = k.events + k.solutions

abbrev pub with_turn : Turn → Run → Run
with_turn t r = record { turns = t ∷ r.turns; ending = r.ending; world = r.world }

abbrev pub ending_for : List Text → Ending → ending.Ending
ending_for names answer.Stopped = ending.Stopped
ending_for names answer.Failed = ending.Failed
ending_for names (answer.Thrown b) = ending.Thrown (named names b)
ending_for names (answer.Halted n) = ending.Halted n
ending_for names answer.Spent = ending.Spent

abbrev pub only_ending : List Text → Ending → World → Run
only_ending names e w = record { turns = []; ending = ending_for names e; world = w }

-- the names of the ball of an ending are among the first n
abbrev pub HasBallNames : ℕ → Ending → Type 0
HasBallNames n (answer.Thrown b) = HasNames n b
HasBallNames n e = Unit {0}

abbrev pub TurnHasNames : ℕ → declared.Turn → Type 0
TurnHasNames n (turn.Ended e) = HasBallNames n e
TurnHasNames n t = Unit {0}

-- of the turns that were to come the first was answered, in this world, and these are left; or none were, the ending was answered, and
-- nothing else is left
abbrev pub Answers : declared.Turn → Kept → Kept → Run → Run → World → Type 0
Answers turn.Event old new before after w =
    (before ≡ with_turn (Shown (event_now new) w) after) × (has_event new ≡ true) × (answered new ≡ answered old + 1)
Answers turn.Solution old new before after w =
    (before ≡ with_turn (Solved (bindings_in new.tables (level_now new)) w) after) × (has_solution new ≡ true)
    × (answered new ≡ answered old + 1)
Answers (turn.Ended e) old new before after w =
    (before ≡ only_ending new.tables.names e w) × (after ≡ before) × (has_event new ≡ false) × (has_solution new ≡ false) ×
    (answered new ≡ answered old)

-- A machine goes on over a host, which comes to what it is now by a taking and by writing some bytes. Whatever the source of the input
-- still has, and whatever was written before, the turn is that of the run over it, and the rest of the run is left over what lies outside
-- now.
pub record Goes (t : declared.Turn) (old new : Kept) (reach : Taking → List ℕ → Type 0) (out out_now : Beyond) : Type 0 where
  pub taking : Taking
  pub bytes : List ℕ
  pub went : reach taking bytes
  pub answers : (rest o : List ℕ) → Answers t old new (to_come old (out (follow taking rest)) o) (to_come new (out_now rest) (o ++ bytes))
      (at (out_now rest) (o ++ bytes) (world_now new))

abbrev pub last_after : declared.Turn → Last
last_after turn.Event = last.Event
last_after turn.Solution = last.Solution
last_after (turn.Ended e) = last.Nothing

-- the goal of the last event, where that was the last turn, can be looked at
abbrev pub CanLook : Last → Core → Type 0
CanLook last.Event c = IsSeen c
CanLook l c = Unit {0}
