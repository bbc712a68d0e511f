-- What the feed of a run's events keeps.
use Rattle.std.specs.Prelude.{◌≡◌, ℕ, ◌+◌, ◌≤◌, true, [], ◌∷◌, drop, max, Option, Some, None}
use Rattle.op_session.specs.inner.Reader.{IsReader}
use Rattle.op_trace.specs.Outside.{no_outside}
use Rattle.op_trace.specs.Run.{Run, events_of, worlds_of, steps_at}
use Rattle.op_machine.specs.Machine.{Kept, to_come, event_now, world_now, has_event}
use Rattle.op_session.specs.declared.feed.Feed.{Feed}
use Rattle.op_session.specs.declared.feed.End.{End}
use Rattle.op_session.specs.declared.feed.End.TheVariants.{Over, Spent}
use Rattle.op_session.specs.Traced.{Traced}
use Rattle.op_event.specs.Line.{event_line}
use Rattle.op_moves.specs.Moves.{Stand, Found, At, No_event, Past_budget, end_found, moved}
use Rattle.op_moves.specs.Places.{event_count}
use Rattle.op_session.specs.MostSteps.{most_steps}
use Rattle.op_session.specs.Session.{line_at, next_in}

-- what a move to this end finds
abbrev pub found_at : End → Found
found_at Over = No_event
found_at Spent = Past_budget

-- the end was looked at, or it wasn't
pub record AtEnd (run : Run) (s : Stand) (e : End) : Type 0 where
  pub furthest : s.furthest ≡ event_count run + 1
  pub place : s.place ≡ event_count run
  pub ending : end_found run.ending ≡ found_at e

abbrev pub Looked : Run → Stand → Option End → Type 0
Looked run s None = s.furthest ≡ s.place
Looked run s (Some e) = AtEnd run s e

-- what a machine still has to show: nothing lies outside its program
abbrev pub to_show : Kept → Run
to_show k = to_come k no_outside []

-- and the operators in which it is written
abbrev pub traced_by : Kept → Traced
traced_by k = record { run = to_show k; table = k.tables.table }

-- the feed stands where the user stands: the events behind the place are those that the machine still has to show
pub record Feeds (traced : Traced) (s : Stand) (feed : Feed) : Type 0 where
  pub events : drop s.place (events_of traced.run.turns) ≡ events_of (to_show feed.machine).turns
  pub worlds : drop s.place (worlds_of traced.run.turns) ≡ worlds_of (to_show feed.machine).turns
  pub ending : traced.run.ending ≡ (to_show feed.machine).ending
  pub world : traced.run.world ≡ (to_show feed.machine).world
  pub within : s.place ≤ event_count traced.run
  pub steps : feed.machine.steps ≡ steps_at traced.run s.furthest
  pub least : steps_at traced.run s.place ≤ feed.machine.steps
  pub looked : Looked traced.run s feed.ended
  pub operators : feed.machine.tables.table ≡ traced.table
  pub reads : IsReader feed.commands

-- the most steps that a machine has made or has still to show
abbrev pub most_of : Kept → ℕ
most_of k = max k.steps (most_steps (to_show k))

-- a machine went on to its next event
pub record ShowsEvent (old new : Kept) : Type 0 where
  pub events : events_of (to_show old).turns ≡ event_now new ∷ events_of (to_show new).turns
  pub worlds : worlds_of (to_show old).turns ≡ world_now new ∷ worlds_of (to_show new).turns
  pub ending : (to_show old).ending ≡ (to_show new).ending
  pub world : (to_show old).world ≡ (to_show new).world
  pub here : has_event new ≡ true

-- or to its end
pub record ShowsEnd (old new : Kept) (e : End) : Type 0 where
  pub none : events_of (to_show old).turns ≡ []
  pub no_worlds : worlds_of (to_show old).turns ≡ []
  pub events : events_of (to_show new).turns ≡ []
  pub worlds : worlds_of (to_show new).turns ≡ []
  pub ending : end_found (to_show old).ending ≡ found_at e
  pub same_ending : (to_show old).ending ≡ (to_show new).ending
  pub world : (to_show old).world ≡ world_now new
  pub same_world : (to_show new).world ≡ world_now new

abbrev pub Shows : Kept → Kept → Option End → Type 0
Shows old new None = ShowsEvent old new
Shows old new (Some e) = ShowsEnd old new e

-- what a move to the next place found, and where the feed stands then
pub record Arrives (traced : Traced) (s : Stand) (feed : Feed) (f : Found) : Type 0 where
  pub found : (next_in traced s).found ≡ f
  pub feeds : Feeds traced (moved s (next_in traced s)) feed

pub record ArrivesAt (traced : Traced) (s : Stand) (feed : Feed) : Type 0 where
  pub arrives : Arrives traced s feed (At (s.place + 1))
  pub here : has_event feed.machine ≡ true
  pub line : line_at traced.table (events_of traced.run.turns) s.place ≡ event_line traced.table (event_now feed.machine)

abbrev pub Finds : Traced → Stand → Feed → Option End → Type 0
Finds traced s feed None = ArrivesAt traced s feed
Finds traced s feed (Some e) = Arrives traced s feed (found_at e)

-- the present event is there where one was found
abbrev pub IsHere : Option End → Kept → Type 0
IsHere None k = has_event k ≡ true
IsHere (Some e) k = Unit {0}
