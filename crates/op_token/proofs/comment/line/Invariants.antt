use Rattle.std.proofs.Common.{◌≡◌, ◌+◌, drop}
use Rattle.op_token.specs.Spelling.{line_from}
use Rattle.op_token.proofs.comment.line.Given as goal

abbrev pub invariant-loop-i : goal.invariant-loop-i
invariant-loop-i l = line_from (l.at + l.i) l.inside (drop l.i l.rest) ≡ line_from l.at 0 l.rest
