-- The line of an event (this project's own): its chronological number, its box's call number and depth, the port and the goal, quoted, cut,
-- with the operators that loading left.
use Rattle.std.specs.Prelude.{ℕ, false, List, ◌++◌, codes, decimal}
use Rattle.op_term.specs.Ops.{Table}
use Rattle.op_writer.specs.Cut.{short}
use Rattle.op_trace.specs.declared.port.Port.{Port}
use Rattle.op_trace.specs.declared.port.Port.TheVariants.{Call, Exit, Redo, Fail, Exception}
use Rattle.op_trace.specs.World.{Event}

abbrev pub port_word : Port → List ℕ
port_word Call = codes "call"
port_word Exit = codes "exit"
port_word Redo = codes "redo"
port_word Fail = codes "fail"
port_word Exception = codes "exception"

abbrev pub space : List ℕ
space = codes " "

-- what stands before the goal
abbrev pub heading : Event → List ℕ
heading e = decimal e.chrono ++ space ++ decimal e.call ++ space ++ decimal e.depth ++ space ++ port_word e.port ++ space

-- without a newline
abbrev pub event_line : Table → Event → List ℕ
event_line ops e = heading e ++ short ops e.goal 1200 false
