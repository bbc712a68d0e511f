use Rattle.std.proofs.Common.{◌≡◌, drop}
use Rattle.std.specs.Prelude.{map}
use Rattle.op_token.specs.Kind.{kind_of}
use Rattle.op_token.specs.Cut.{cut_of}
use Rattle.op_token.specs.Walk.{piece_in}
use Rattle.op_token.proofs.piece.cut.Given as goal

abbrev pub invariant-loop-byte : goal.invariant-loop-byte
invariant-loop-byte l = (l.walk.at ≡ l.byte-index) × (piece_in l.walk (map kind_of (drop l.byte-index l.bytes)) ≡ cut_of l.bytes)
