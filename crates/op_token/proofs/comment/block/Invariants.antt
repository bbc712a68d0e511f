use Rattle.std.proofs.Common.{◌≡◌, ◌+◌, drop}
use Rattle.op_token.specs.Spelling.{block_from}
use Rattle.op_token.proofs.comment.block.Given as goal

abbrev pub invariant-loop-i : goal.invariant-loop-i
invariant-loop-i l = block_from l.start (l.start + 2 + l.i) l.inside (drop l.i l.rest) ≡ block_from l.start (l.start + 2) 0 l.rest
