-- The lines of two events, by computation.
use Rattle.std.specs.Prelude.{◌≡◌, refl, codes}
use Rattle.std.specs.Fmt.{digits}
use lib.Utf8.{encode}
use Rattle.std.specs.Str.{chars}
use Rattle.op_logic.specs.Term.{node, no_args, arg, atom, var}
use Rattle.op_term.specs.Ops.{iso_operators, iso_table}
use Rattle.op_trace.specs.declared.port.Port.TheVariants.{Call, Exception}
use Rattle.op_event.specs.Line.{event_line}

-- neither the parent is in it, nor a newline
pub a_call : event_line iso_table (record {
  chrono = 6;
  call = 5;
  parent = 3;
  depth = 4;
  port = Call;
  goal = node (codes "=") (arg (atom (codes "B c")) (arg (var 2) no_args));
}) ≡ codes "6 5 4 call 'B c'=_2"
unfolding iso_table iso_operators digits encode chars
a_call = refl

pub an_exception : event_line iso_table (record {
  chrono = 17;
  call = 5;
  parent = 3;
  depth = 4;
  port = Exception;
  goal = node (codes "throw") (arg (atom (codes "x")) no_args);
}) ≡ codes "17 5 4 exception throw(x)"
unfolding iso_table iso_operators digits
an_exception = refl
