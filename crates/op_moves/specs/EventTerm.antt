-- The term of an event: event(Chrono,Call,Parent,Depth,Port,Goal).
use Rattle.std.specs.Prelude.{ℕ, pos, codes}
use Rattle.op_logic.specs.Term.{Term, var, int, node, Args, no_args, arg, atom}
use Rattle.op_trace.specs.declared.port.Port.{Port}
use Rattle.op_trace.specs.declared.port.Port.TheVariants.{Call, Exit, Redo, Fail, Exception}
use Rattle.op_trace.specs.Database.{Text}
use Rattle.op_trace.specs.World.{Event}

abbrev pub number : ℕ → Term Text
number n = int (pos n)

-- a term with '$V'(N) in place of each variable, so that it has none
abbrev mutual
  pub shown : Term Text → Term Text
  shown (var v) = node (codes "$V") (arg (number v) no_args)
  shown (int i) = int i
  shown (node f ts) = node f (shown_args ts)

  pub shown_args : Args Text → Args Text
  shown_args no_args = no_args
  shown_args (arg t ts) = arg (shown t) (shown_args ts)

abbrev pub port_name : Port → Text
port_name Call = codes "call"
port_name Exit = codes "exit"
port_name Redo = codes "redo"
port_name Fail = codes "fail"
port_name Exception = codes "exception"

abbrev pub event_args : Event → Args Text
event_args e =
    arg (number e.chrono) (arg (number e.call) (arg (number e.parent) (arg (number e.depth) (arg (atom (port_name e.port))
    (arg (shown e.goal) no_args)))))

abbrev pub event_term : Event → Term Text
event_term e = node (codes "event") (event_args e)
