use Rattle.std.proofs.Common.{◌≡◌, drop, []}
use Rattle.std.specs.Prelude.{reverse}
use Rattle.op_reader.specs.FirstClause.{unmatched}
use Rattle.op_reader.proofs.bracket.unmatched.Given as goal

abbrev pub invariant-loop-token : goal.invariant-loop-token
invariant-loop-token l = unmatched (reverse l.stack.items) (drop l.token-index l.tokens) ≡ unmatched [] l.tokens
