use Rattle.std.proofs.Common.{◌≡◌, ◌+◌, drop}
use Rattle.op_token.specs.Spelling.{quoted_from}
use Rattle.op_token.proofs.quoted.quoted.Given as goal

abbrev pub invariant-loop-i : goal.invariant-loop-i
invariant-loop-i l =
    quoted_from l.kind l.quote l.start (l.start + 1 + l.i) l.inside (drop l.i l.rest)
    ≡ quoted_from l.kind l.quote l.start (l.start + 1) 0 l.rest
