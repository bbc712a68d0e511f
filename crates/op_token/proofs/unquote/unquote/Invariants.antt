use Rattle.std.proofs.Common.{◌≡◌, ◌++◌, take, drop, length}
use Rattle.op_token.specs.Tokens.{text_from}
use Rattle.op_token.proofs.unquote.unquote.Given as goal

abbrev pub invariant-loop-i : goal.invariant-loop-i
invariant-loop-i l =
    (l.out.items ++ text_from l.quote l.inside (drop l.i l.rest) ≡ l.initial.out.items ++ text_from l.quote 0 l.rest)
    × (take (length l.initial.out.items) l.out.items ≡ l.initial.out.items)
