-- A program's run, and the operators that loading left, in which its events are written.
use Rattle.op_term.specs.Ops.{Table}
use Rattle.op_trace.specs.Run.{Run}

pub record Traced : Type 0 where
  pub run : Run
  pub table : Table
