use Rattle.std.proofs.Common.{length, false, ◌-◌, ◌≡◌, ◌≤◌, drop}
use Rattle.op_token.specs.Tokens.{lex}
use Rattle.op_token.proofs.scanner.find.Given as goal

abbrev pub invariant-loop-at : goal.invariant-loop-at
invariant-loop-at l =
    (l.at ≤ length l.bytes)
    × (lex l.at 0 l.layout_before l.minus (drop l.at l.bytes) ≡ lex l.start 0 false l.fn.minus (drop l.start l.bytes))

abbrev pub decreases-loop-at : goal.decreases-loop-at
decreases-loop-at l = length l.bytes - l.at
