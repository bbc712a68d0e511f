-- What a view of an event shows.
use Rattle.std.specs.Prelude.{ℕ, ◌<◌, List, length}
use Rattle.op_logic.specs.Names.{named, HasNames}
use Rattle.op_bind.specs.State.{State, value_of}
use Rattle.op_trace.specs.declared.port.Port.{Port}
use Rattle.op_trace.specs.World.{Event}

-- an event whose goal is the value of a Ref, with the bindings and the names of its moment
pub record Showing : Type 0 where
  pub chrono : ℕ
  pub call : ℕ
  pub parent : ℕ
  pub depth : ℕ
  pub port : Port
  pub goal : ℕ
  pub state : State
  pub names : List (List ℕ)

abbrev pub event_in : Showing → Event
event_in v = record {
  chrono = v.chrono;
  call = v.call;
  parent = v.parent;
  depth = v.depth;
  port = v.port;
  goal = named v.names (value_of v.state v.goal);
}

-- its goal is there, and all names of the goal's value are
pub record IsShowing (v : Showing) : Type 0 where
  pub there : v.goal < length v.state.terms
  pub known : HasNames (length v.names) (value_of v.state v.goal)
