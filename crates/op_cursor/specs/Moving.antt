-- What the moves of a cursor do: each is its definition over the events of the run.
use Rattle.std.specs.Prelude.{◌≡◌, ℕ, ◌+◌, ◌-◌, ◌*◌, ◌<◌, ◌≤◌, true, List, Some}
use Rattle.op_logic.specs.Term.{Term}
use Rattle.op_trace.specs.Database.{Text}
use Rattle.op_trace.specs.World.{Event}
use Rattle.op_trace.specs.Ending.{Ending}
use Rattle.op_trace.specs.Run.{Run, events_of, steps_at}
use Rattle.op_moves.specs.Moves.{Stand, Found, At, No_event, Past_budget, Spent, Outcome, moved, event_at, call_of}
use Rattle.op_moves.specs.Moves as moves
use Rattle.op_moves.specs.Places.{least_steps}
use Rattle.op_retrace.specs.Fed.{shows_event, event_shown}
use Rattle.op_cursor.specs.declared.cursor.Move.{Move}
use Rattle.op_cursor.specs.declared.cursor.Move.TheVariants as move
use Rattle.op_cursor.specs.Seen.{stand_of, Moment}
use Rattle.op_cursor.specs.Comes.{Comes, Broke}

-- a move by the events of a run and its ending, from a stand, with so much fuel
abbrev pub Moving : Type 0
Moving = List Event → Ending → Stand → ℕ → Outcome

abbrev pub outcome_of : Moving → Run → Moment → Outcome
outcome_of m r a = m (events_of r.turns) r.ending (stand_of a.cursor) a.fuel

abbrev pub to_place : ℕ → Moving
to_place j es e s fuel = moves.goto es e j s fuel

abbrev pub back_one : Moving
back_one es e s fuel = moves.prev s fuel

abbrev pub to_start : Moving
to_start es e s fuel = moves.first s fuel

abbrev pub to_parent : Moving
to_parent es e s fuel = moves.parent es s fuel

abbrev pub to_call : Moving
to_call es e s fuel = moves.retry es s fuel

abbrev pub back_to : Term Text → Moving
back_to p es e s fuel = moves.seek_back p es s fuel

abbrev pub move_of : Found → Move
move_of (At j) = move.Moved
move_of No_event = move.NoEvent
move_of Past_budget = move.PastBudget
move_of Spent = move.Spent

-- the greatest place that a move touches: the furthest after it, had it seen no further than its place
abbrev pub touched : Moving → Run → Moment → ℕ
touched m r a =
    (m (events_of r.turns) r.ending (record { place = a.cursor.place; furthest = a.cursor.place }) a.fuel).furthest

-- The steps of one call that found its feed at a place and left it at another: no more than a limit, and, where the feed keeps no further
-- machine, no fewer than lie between the events, or all up to the second place where that is the earlier one.
pub record Bounded (keeps : ℕ) (r : Run) (limit from to before after : ℕ) : Type 0 where
  pub most : after ≤ before + limit
  pub least : keeps ≡ 0 → from ≤ to → before + (least_steps r to - least_steps r from) ≤ after
  pub again : keeps ≡ 0 → to < from → before + least_steps r to ≤ after

-- the answer, the place, the furthest place and the fuel that is left are those of the definition
pub record IsAnswer (m : Moving) (x : Move) (r : Run) (a b : Moment) : Type 0 where
  pub answer : x ≡ move_of (outcome_of m r a).found
  pub place : b.cursor.place ≡ (moved (stand_of a.cursor) (outcome_of m r a)).place
  pub furthest : b.cursor.fed.furthest ≡ (outcome_of m r a).furthest
  pub left : b.fuel ≡ (outcome_of m r a).left

-- the answer is told of the runs of which something is known
pub record MovedBy (IsKnown : Run → Type 0) (m : Moving) (x : Move) (r : Run) (a b : Moment) : Type 0 where
  pub answer : IsKnown r → IsAnswer m x r a b
  pub steps : Bounded a.cursor.fed.keeps r (2 * steps_at r (touched m r a)) a.cursor.fed.place b.cursor.fed.place a.steps b.steps

-- a move that answers no fault
abbrev pub Moves : (Run → Type 0) → Moving → Move → Moment → Moment → Type 0
Moves IsKnown m x a b = Comes (λ r. MovedBy IsKnown m x r a b) a.cursor.fed b.cursor.fed a.desk b.desk

abbrev pub any_run : Run → Type 0
any_run r = Unit {0}

-- a box, where it has a number, was called up to a place
abbrev pub IsCalledBy : List Event → ℕ → ℕ → Type 0
IsCalledBy es i k = 0 < k → (j : ℕ) × ((j ≤ i) × (call_of es k ≡ At j))

-- at each event its box and the parent of that have been called
abbrev pub HasCalls : Run → Type 0
HasCalls r =
    (i : ℕ) (e : Event) → event_at (events_of r.turns) i ≡ Some e
    → IsCalledBy (events_of r.turns) i e.call × IsCalledBy (events_of r.turns) i e.parent

-- a move that answers a fault: no further place was reached than the definition's, and no more steps were made
pub record BrokenBy (m : Moving) (r : Run) (a b : Moment) : Type 0 where
  pub furthest : a.cursor.fed.furthest ≤ b.cursor.fed.furthest
  pub within : b.cursor.fed.furthest ≤ (outcome_of m r a).furthest
  pub most : b.steps ≤ a.steps + 2 * steps_at r (touched m r a)

-- the place stays
pub record Breaks (m : Moving) (a b : Moment) : Type 0 where
  pub place : b.cursor.place ≡ a.cursor.place
  pub broke : Broke (λ r. (outcome_of m r a).furthest) (λ r. BrokenBy m r a b) a.cursor.fed b.cursor.fed a.desk b.desk

-- A move that goes forward where its feed stands at or before the place: its machine made no more steps than lie between. Where an event
-- was found, the feed stands at it or before it, if it did so at first.
pub record GoesForward (x : Move) (a b : Moment) : Type 0 where
  pub steps : a.cursor.fed.place ≤ a.cursor.place → (rest : List ℕ)
      → b.steps ≤ a.steps + (steps_at (b.cursor.fed.run rest) b.cursor.fed.place - steps_at (b.cursor.fed.run rest) a.cursor.fed.place)
  pub ahead : x ≡ move.Moved → a.cursor.fed.place ≤ b.cursor.place → b.cursor.fed.place ≤ b.cursor.place

-- The feed stands at the place. Nothing further was looked at.
pub record ShownBy (r : Run) (a b : Moment) : Type 0 where
  pub event : event_at (events_of r.turns) a.cursor.place ≡ event_shown b.cursor.fed.machine
  pub steps : Bounded a.cursor.fed.keeps r (steps_at r a.cursor.place) a.cursor.fed.place b.cursor.fed.place a.steps b.steps
  pub forward : a.cursor.fed.place ≤ a.cursor.place
      → b.steps ≤ a.steps + (steps_at r b.cursor.fed.place - steps_at r a.cursor.fed.place)

-- the present event is shown
pub record Shows (a b : Moment) : Type 0 where
  pub place : b.cursor.place ≡ a.cursor.place
  pub furthest : b.cursor.fed.furthest ≡ a.cursor.fed.furthest
  pub there : b.cursor.fed.place ≡ a.cursor.place
  pub shown : 0 < a.cursor.place → shows_event b.cursor.fed ≡ true
  pub comes : Comes (λ r. ShownBy r a b) a.cursor.fed b.cursor.fed a.desk b.desk

-- the event could not be shown
pub record BrokeShowing (r : Run) (a b : Moment) : Type 0 where
  pub most : b.steps ≤ a.steps + steps_at r a.cursor.place

pub record ShowBreaks (a b : Moment) : Type 0 where
  pub place : b.cursor.place ≡ a.cursor.place
  pub furthest : b.cursor.fed.furthest ≡ a.cursor.fed.furthest
  pub broke : Broke (λ r. a.cursor.fed.furthest) (λ r. BrokeShowing r a b) a.cursor.fed b.cursor.fed a.desk b.desk
