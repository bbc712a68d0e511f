use Rattle.std.proofs.Common.{◌≡◌, ◌-◌, ◌^◌, min, take}
use Rattle.op_token.specs.Spelling.{number_of}
use Rattle.op_token.proofs.digits.number.Given as goal

abbrev pub invariant-loop-byte : goal.invariant-loop-byte
invariant-loop-byte l = l.number ≡ min (number_of l.base (take l.byte-index l.digits)) (2 ^ 64 - 1)
