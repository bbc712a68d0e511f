-- Why a term of a text is refused.
use Rattle.std.specs.Prelude.{Result, Ok, Err}
use Rattle.op_reader.specs.declared.fault.ReadFaultKind.{ReadFaultKind}
use Rattle.op_trace.specs.Database.{Indicator}

-- it can't be read; something stands behind a goal; a clause's head or body is none; no clause may be for its name; no such directive
pub data Fault : Type 0 where
  syntax : ReadFaultKind → Fault
  trailing : Fault
  head : Fault
  body : Fault
  locked : Indicator → Fault
  directive : Fault

-- what follows, unless there is a fault
abbrev pub and_then : {A B : Type 0} → Result A Fault → (A → Result B Fault) → Result B Fault
and_then (Ok a) f = f a
and_then (Err e) f = Err e
