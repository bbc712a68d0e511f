-- What a feed stands for, and what its calls do.
use Rattle.std.specs.Prelude.{◌≡◌, ℕ, ◌+◌, ◌-◌, ◌^◌, ◌<◌, ◌≤◌, Bool, true, false, ◌&&◌, not}
use Rattle.std.specs.Prelude.{List, ◌∷◌, ◌++◌, length, take, drop, max, Option, Some, None, is_some, Result, Ok, Err}
use Rattle.std.specs.Io.KnownBytes.{Appends}
use Rattle.op_desk.specs.Contents.{Known}
use Rattle.op_trace.specs.Database.{Text}
use Rattle.op_trace.specs.World.{Event}
use Rattle.op_trace.specs.Outside.{Outside, Taking, follow}
use Rattle.op_trace.specs.Run.{Run, events_of, steps_at, looked_at, output_at}
use Rattle.op_moves.specs.Moves.{event_at}
use Rattle.op_moves.specs.Places.{event_count, place_behind, turns_to, least_steps, IsWrittenBehind, Rising, IsNumbered}
use Rattle.op_store.specs.Stored.{Stored}
use Rattle.op_machine.specs.declared.turn.Ending.{Ending}
use Rattle.op_machine.specs.Machine.{Kept, event_now, has_event, has_solution, answered, to_come, ending_for, HasBallNames}
use Rattle.op_retrace.specs.declared.feed.FeedStep.{FeedStep}
use Rattle.op_retrace.specs.declared.feed.FeedStep.TheVariants as step
use Rattle.op_retrace.specs.declared.fault.Cause.{Cause}
use Rattle.op_retrace.specs.declared.fault.Cause.TheVariants as cause
use Rattle.op_retrace.specs.declared.fault.FeedFault.{FeedFault}
use Rattle.op_retrace.specs.declared.fault.FeedFault.TheVariants as fault
use Rattle.op_retrace.specs.Takes.{Source, Takes}

-- a feed gives the events of a run in order
pub record Fed : Type 0 where
  -- the whole run, by the bytes that the source of its input still has
  pub run : List ℕ → Run
  -- the program as loading left it
  pub loaded : Stored
  -- where the feed stands, which may be the end, and the furthest place where it stood
  pub place : ℕ
  pub furthest : ℕ
  -- how the run ended, once its end was reached
  pub ending : Option Ending
  -- the machine that stands at the place
  pub machine : Kept
  -- how many further machines the feed may keep
  pub keeps : ℕ
  -- how many bytes of the input were taken for it, and whether the input's end was met
  pub drawn : ℕ
  pub ended : Bool
  -- the fault that was answered
  pub fault : Option Cause

-- how many bytes of the input may be taken
abbrev pub input_limit : ℕ
input_limit = 67108864

-- the event that a machine has shown last
abbrev pub event_by : Bool → Kept → Option Event
event_by true k = Some (event_now k)
event_by false k = None

abbrev pub event_shown : Kept → Option Event
event_shown k = event_by (has_event k) k

-- an event can be looked at
abbrev pub shows_event : Fed → Bool
shows_event v = has_event v.machine && not (is_some v.fault)

-- the end was reached: the furthest place stands for it, and the ending is that of the run; while the feed stands there, in the names of
-- its machine
pub record AtEnd (v : Fed) (r : Run) (e : Ending) : Type 0 where
  pub furthest : v.furthest ≡ event_count r + 1
  pub names : List Text
  pub ending : r.ending ≡ ending_for names e
  pub here : v.place ≡ v.furthest → names ≡ v.machine.tables.names
  pub known : v.place ≡ v.furthest → HasBallNames (length v.machine.tables.names) e

abbrev pub Looked : Fed → Run → Option Ending → Type 0
Looked v r None = v.furthest ≤ event_count r
Looked v r (Some e) = AtEnd v r e

-- A machine stands at a place of a run: it has ended by no fault, shows no solution, and what it still has to show, over what lies outside
-- by then, is the rest of the run.
pub record IsMachineAt (k : Kept) (r : Run) (p : ℕ) : Type 0 where
  pub whole : k.faulted ≡ false
  pub no_solution : has_solution k ≡ false
  pub outside : Outside
  pub turns : (to_come k outside (output_at r p)).turns ≡ drop (turns_to r.turns p) r.turns
  pub ending : (to_come k outside (output_at r p)).ending ≡ r.ending
  pub world : (to_come k outside (output_at r p)).world ≡ r.world

-- the feed stands at a place of this run
pub record Stands (v : Fed) (r : Run) : Type 0 where
  pub within : v.place ≤ v.furthest
  pub looked : Looked v r v.ending
  pub rising : Rising r
  pub numbered : IsNumbered r
  pub event : event_at (events_of r.turns) v.place ≡ event_shown v.machine
  pub steps : v.machine.steps ≡ steps_at r v.place
  pub turns : answered v.machine ≡ turns_to r.turns v.place
  pub machine : IsMachineAt v.machine r v.place
  pub first : v.place ≡ 0 → v.machine.tables ≡ v.loaded
  pub names : take (length v.loaded.names) v.machine.tables.names ≡ v.loaded.names
  pub drawn : v.drawn ≡ looked_at r v.furthest
  pub limit : v.drawn ≤ input_limit
  pub ended_within : v.ended ≡ true → v.drawn < input_limit
  pub few : shows_event v ≡ true → v.place < 2 ^ 63

-- what holds of a feed that has answered no fault, whatever its input still has
abbrev pub IsSound : Fed → Type 0
IsSound v = v.fault ≡ None → (rest : List ℕ) → Stands v (v.run rest)

-- what a feed was fed by
abbrev pub source_of : Known → Fed → Source
source_of left v = record { left = left; drawn = v.drawn; ended = v.ended }

-- the feed went to the next event, or to the end, behind which there is nothing
pub record AtNext (r : Run) (old new : Fed) : Type 0 where
  pub place : new.place ≡ old.place + 1
  pub within : new.place ≤ event_count r
  pub few : new.place < 2 ^ 63
  pub ending : new.ending ≡ old.ending
  pub shown : shows_event new ≡ true

pub record AtLast (r : Run) (old new : Fed) : Type 0 where
  pub past : event_count r ≤ old.place
  pub place : new.place ≡ event_count r + 1
  pub ending : is_some new.ending ≡ true

abbrev pub ComesTo : FeedStep → Run → Fed → Fed → Type 0
ComesTo step.Event r old new = AtNext r old new
ComesTo step.End r old new = AtLast r old new

-- The steps that the machines of a feed have made: none are taken back, no more are made than lie between two places, and, where it keeps
-- no further machine, no fewer than lie between the events.
pub record Pays (keeps : ℕ) (r : Run) (from to before after : ℕ) : Type 0 where
  pub later : before ≤ after
  pub most : after ≤ before + (steps_at r to - steps_at r from)
  pub least : keeps ≡ 0 → before + (least_steps r to - least_steps r from) ≤ after

-- an advance over one rest of the input: the run is the same one; of its output these bytes were put, those up to the furthest place, and
-- of its input those were taken that it has looked at up to there
pub record Over (s : FeedStep) (r now : Run) (old new : Fed) (taken put : List ℕ) (before after : ℕ) : Type 0 where
  pub run : now ≡ r
  pub comes : ComesTo s r old new
  pub output : output_at r new.furthest ≡ output_at r old.furthest ++ put
  pub looked : looked_at r new.furthest ≡ looked_at r old.furthest + length taken
  pub pays : Pays old.keeps r old.place new.place before after

-- an advance that answers no fault
pub record Advances (s : FeedStep) (old new : Fed) (left left_now written written_now : Known) (before after : ℕ) : Type 0 where
  pub loaded : new.loaded ≡ old.loaded
  pub keeps : new.keeps ≡ old.keeps
  pub names : take (length old.machine.tables.names) new.machine.tables.names ≡ old.machine.tables.names
  pub furthest : new.furthest ≡ max old.furthest new.place
  pub taking : Taking
  pub takes : Takes taking (source_of left old) (source_of left_now new)
  pub put : List ℕ
  pub appends : Appends written written_now put
  pub over : (rest : List ℕ) → Over s (old.run (follow taking rest)) (new.run rest) old new taking.bytes put before after

-- the furthest place after an advance
abbrev pub furthest_behind : Run → Fed → ℕ
furthest_behind r v = max v.furthest (place_behind r v.place)

-- after a fault: what was put, taken and paid is no more than the place behind would have brought
pub record BrokenOver (r now : Run) (old : Fed) (taken put : List ℕ) (before after : ℕ) : Type 0 where
  pub run : now ≡ r
  pub output : IsWrittenBehind (output_at r old.furthest ++ put) (output_at r (furthest_behind r old))
  pub looked : looked_at r old.furthest + length taken ≤ looked_at r (furthest_behind r old)
  pub later : before ≤ after
  pub most : after ≤ before + (steps_at r (place_behind r old.place) - steps_at r old.place)

-- an advance that answers a fault: the place, the furthest place and the ending stay
pub record Breaks (old new : Fed) (left left_now written written_now : Known) (before after : ℕ) : Type 0 where
  pub loaded : new.loaded ≡ old.loaded
  pub keeps : new.keeps ≡ old.keeps
  pub place : new.place ≡ old.place
  pub furthest : new.furthest ≡ old.furthest
  pub ending : new.ending ≡ old.ending
  pub taking : Taking
  pub takes : Takes taking (source_of left old) (source_of left_now new)
  pub put : List ℕ
  pub appends : Appends written written_now put
  pub over : (rest : List ℕ) → BrokenOver (old.run (follow taking rest)) (new.run rest) old taking.bytes put before after

-- whatever byte the input has next, the place behind is reached only over it: more would be looked at than may be taken
abbrev pub AsksTooMuch : Fed → Fed → Type 0
AsksTooMuch old new =
    (b : ℕ) (rest : List ℕ) → input_limit < looked_at (new.run (b ∷ rest)) (furthest_behind (new.run (b ∷ rest)) old)

-- by which fault a feed has ended
abbrev pub cause_of : FeedFault → Cause
cause_of fault.Memory = cause.Memory
cause_of fault.Read = cause.Read
cause_of fault.Write = cause.Write
cause_of fault.InputTooLong = cause.TooLong
cause_of (fault.Ended c) = c

-- no fault is answered where none was; after one, the same cause is answered from then on, and nothing changes
abbrev pub EndsBy : FeedFault → Fed → Fed → Type 0
EndsBy (fault.Ended c) old new = (old.fault ≡ Some c) × (new ≡ old)
EndsBy f old new = (old.fault ≡ None) × (new.fault ≡ Some (cause_of f))

abbrev pub Ends : {T : Type 0} → Result T FeedFault → Fed → Fed → Type 0
Ends (Ok x) old new = (old.fault ≡ None) × (new.fault ≡ None)
Ends (Err f) old new = EndsBy f old new

-- the place is 0 again; the run, the furthest place and the ending stay
abbrev pub IsReset : Fed → Fed → Type 0
IsReset old new = new ≡ record old { place = 0; machine = new.machine }

-- a reset that answers a fault leaves all but this
abbrev pub IsBrokenReset : Fed → Fed → Type 0
IsBrokenReset old new = new ≡ record old { machine = new.machine; fault = new.fault }

-- the faults of a reset
abbrev pub IsResetFault : FeedFault → Type 0
IsResetFault fault.Memory = Unit {0}
IsResetFault (fault.Ended c) = Unit {0}
IsResetFault f = ⊥
