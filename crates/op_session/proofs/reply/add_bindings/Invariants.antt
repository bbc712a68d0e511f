use Rattle.std.proofs.Common.{◌≡◌, ◌++◌, drop}
use Rattle.op_session.specs.Commands.{binding_lines}
use Rattle.op_session.proofs.reply.add_bindings.Given as goal

abbrev pub invariant-loop-i : goal.invariant-loop-i
invariant-loop-i l = l.text ++ binding_lines (drop l.i l.names) ≡ l.initial.text ++ binding_lines l.names
