-- A machine's state and moves, with what lies outside and what was written before.
use Rattle.std.specs.Prelude.{ℕ, List, map}
use Rattle.op_trace.specs.World.{Turn, Shown, Solved}
use Rattle.op_trace.specs.Outside.{Outside, at}
use Rattle.op_machine.specs.Resume.{State, Forward, Backward, Throwing, Over, Moved}

abbrev pub state_at : Outside → List ℕ → State → State
state_at h o (Forward I K σ w) = Forward I K σ (at h o w)
state_at h o (Backward K w) = Backward K (at h o w)
state_at h o (Throwing b p K w) = Throwing b p K (at h o w)
state_at h o (Over r w) = Over r (at h o w)

abbrev pub turn_at : Outside → List ℕ → Turn → Turn
turn_at h o (Shown e w) = Shown e (at h o w)
turn_at h o (Solved σ w) = Solved σ (at h o w)

abbrev pub turns_at : Outside → List ℕ → List Turn → List Turn
turns_at h o ts = map (turn_at h o) ts

abbrev pub moved_at : Outside → List ℕ → Moved → Moved
moved_at h o m = record { turns = turns_at h o m.turns; state = state_at h o m.state }
