-- What is known of a run at its places: place 0 is before the first event, place i is at event i, and n + 1 stands for the end.
use Rattle.std.specs.Prelude.{◌≡◌, ℕ, zero, suc, ◌+◌, ◌≤◌, List, [], ◌∷◌, ◌++◌, length, min, Some}
use Rattle.op_trace.specs.World.{World, Event, Turn, Shown, Solved}
use Rattle.op_trace.specs.Act.{Setup, Act}
use Rattle.op_trace.specs.World as world
use Rattle.op_trace.specs.Database.{Text}
use Rattle.op_trace.specs.Run.{Run, events_of, steps_at, looked_at, output_at}
use Rattle.op_logic.specs.Term.{Term}
use Rattle.op_logic.specs.Bind.{Bindings}
use Rattle.op_moves.specs.Moves.{event_at}

abbrev pub event_count : Run → ℕ
event_count r = length (events_of r.turns)

-- the place behind one: an event, or the end, and behind the end is nothing
abbrev pub place_behind : Run → ℕ → ℕ
place_behind r p = min (p + 1) (event_count r + 1)

-- how many turns there are up to an event; behind the last event are all
abbrev pub turns_to : List Turn → ℕ → ℕ
turns_to ts zero = 0
turns_to [] (suc i) = 0
turns_to (Shown e w ∷ ts) (suc i) = 1 + turns_to ts i
turns_to (Solved σ w ∷ ts) (suc i) = 1 + turns_to ts (suc i)

-- the steps at a place, or at the last event for the end
abbrev pub least_steps : Run → ℕ → ℕ
least_steps r i = steps_at r (min i (event_count r))

-- this was written behind that
abbrev pub IsWrittenBehind : List ℕ → List ℕ → Type 0
IsWrittenBehind before after = (more : List ℕ) × (after ≡ before ++ more)

-- a later place has no fewer steps, no fewer bytes that were looked at, and what was written up to it goes on from what was written before
pub record Rising (r : Run) : Type 0 where
  pub steps : (i j : ℕ) → i ≤ j → steps_at r i ≤ steps_at r j
  pub looked : (i j : ℕ) → i ≤ j → looked_at r i ≤ looked_at r j
  pub output : (i j : ℕ) → i ≤ j → IsWrittenBehind (output_at r i) (output_at r j)

-- an event's number is its place
abbrev pub IsNumbered : Run → Type 0
IsNumbered r = (i : ℕ) (e : Event) → event_at (events_of r.turns) i ≡ Some e → e.chrono ≡ i

-- a world in which no less was looked at, and nothing that was written is gone
pub record GoesOn (w u : World) : Type 0 where
  pub looked : w.looked ≤ u.looked
  pub output : IsWrittenBehind w.output u.output

-- an act takes back nothing, whether it is interrupted or not
pub record TakesNothingBack (w : World) (a : Act) : Type 0 where
  pub after : GoesOn w a.after
  pub interrupted : GoesOn w a.interrupted

abbrev pub ActsGoOn : Setup → Type 0
ActsGoOn s =
    (left : ℕ) (t : world.Execution) (g : Term Text) (σ : Bindings Text) (w : World) → TakesNothingBack w (s.act left t g σ w)

-- a world without a further event
pub record IsSilent (w u : World) : Type 0 where
  pub steps : w.steps ≤ u.steps
  pub events : u.events ≡ w.events
  pub goes_on : GoesOn w u

-- a world with one more event, whose number is that of the events by then
pub record IsShown (w : World) (e : Event) (u : World) : Type 0 where
  pub chrono : e.chrono ≡ w.events + 1
  pub steps : w.steps ≤ u.steps
  pub events : u.events ≡ w.events + 1
  pub goes_on : GoesOn w u

-- turns that lead from one world to another
abbrev pub IsCourse : World → List Turn → World → Type 0
IsCourse w [] v = IsSilent w v
IsCourse w (Shown e u ∷ ts) v = IsShown w e u × IsCourse u ts v
IsCourse w (Solved σ u ∷ ts) v = IsSilent w u × IsCourse u ts v
