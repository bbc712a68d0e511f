use Rattle.op_token.specs.Cut.{IsOpen}
use Rattle.op_text_cases.proofs.tokens.pieces.Given as goal

abbrev pub invariant-bytes : goal.invariant-bytes
invariant-bytes l = IsOpen l.cutter
