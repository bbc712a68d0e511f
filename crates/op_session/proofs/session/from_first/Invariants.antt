use Rattle.std.proofs.Common.{◌≡◌, drop}
use Rattle.op_session.specs.Session.{from_first}
use Rattle.op_session.proofs.session.from_first.Given as goal

abbrev pub invariant-loop-i : goal.invariant-loop-i
invariant-loop-i l = from_first l.bytes ≡ from_first (drop l.i l.bytes)
