-- A run: its turns in order, its ending, and the world at its end.
use Rattle.std.specs.Prelude.{ℕ, ◌-◌, nat_le, List, [], ◌∷◌, if◌then◌else◌, slice_index_or}
use Rattle.op_logic.specs.Term.{Term}
use Rattle.op_trace.specs.declared.barrier.Barrier.TheVariants.{Call}
use Rattle.op_trace.specs.Database.{Text}
use Rattle.op_trace.specs.World.{World, Goal, Event, Turn, Shown, Solved}
use Rattle.op_trace.specs.Act.{Setup}
use Rattle.op_trace.specs.Visit.{Verdict, Visited, visit}
use Rattle.op_trace.specs.Visit as verdict
use Rattle.op_trace.specs.Ending.{Ending, Stopped, Failed, Thrown, Halted, Spent}

-- a cut out of the whole goal leaves no alternative
abbrev pub ending_of : Verdict → Ending
ending_of verdict.Failed = Failed
ending_of (verdict.CutTo m) = Failed
ending_of (verdict.Thrown b o) = Thrown b
ending_of verdict.Stopped = Stopped
ending_of (verdict.Halted n) = Halted n
ending_of verdict.Spent = Spent

pub record Run : Type 0 where
  pub turns : List Turn
  pub ending : Ending
  pub world : World

abbrev pub ran : Visited → Run
ran v = record { turns = v.turns; ending = ending_of v.verdict; world = v.world }

-- a world in which the goal's variables alone were given out, so many of them
abbrev pub started : ℕ → World → World
started n w = record w { variables = n }

-- the run of a converted goal, its n variables numbered from 0 in order of first occurrence, from a world in which nothing was run yet
abbrev pub run : Setup → Term Text → ℕ → World → Run
run s g n w = ran (visit s (Goal g (Call 0) ∷ []) [] (started n w))

-- the events, and the worlds at them
abbrev pub events_of : List Turn → List Event
events_of [] = []
events_of (Shown e w ∷ ts) = e ∷ events_of ts
events_of (Solved σ w ∷ ts) = events_of ts

abbrev pub worlds_of : List Turn → List World
worlds_of [] = []
worlds_of (Shown e w ∷ ts) = w ∷ worlds_of ts
worlds_of (Solved σ w ∷ ts) = worlds_of ts

-- The places of a run with n events: 0 before the first event, i at event i, and n + 1 for the end. A part of the world at a place: as in
-- the world of an event at that event, as in the last world at the end, and nothing at place 0.
abbrev pub at_place : {A : Type 0} → A → (World → A) → Run → ℕ → A
at_place nothing part v i = if nat_le i 0 then nothing else part (slice_index_or (worlds_of v.turns) (i - 1) v.world)

-- what was written up to a place; how many bytes of the input were looked at, and how many steps were made
abbrev pub output_at : Run → ℕ → List ℕ
output_at v i = at_place [] (λ w. w.output) v i

abbrev pub looked_at : Run → ℕ → ℕ
looked_at v i = at_place 0 (λ w. w.looked) v i

abbrev pub steps_at : Run → ℕ → ℕ
steps_at v i = at_place 0 (λ w. w.steps) v i
