use Rattle.std.proofs.Common.{◌≡◌, suc, ◌+◌, ◌∙◌, ap, sym, map, drop, arith}
use Rattle.op_token.specs.Kind.{kind_of}
use Rattle.op_token.specs.Cut.{cut_of}
use Rattle.op_token.specs.Walk.{piece_in, step_of}
use Rattle.op_token.proofs.TermTexts.{step_drop, ended_piece}
use Rattle.op_token.proofs.piece.cut.Goals as goal
use Rattle.op_token.proofs.piece.cut.Goals.{After-step-walk}

steps : (c : After-step-walk)
    → piece_in c.step-walk.result (map kind_of (drop (c.loop-byte.byte-index + 1) c.args.bytes.now)) ≡ cut_of c.args.bytes.now
steps c =
    ap (λ w. piece_in w (map kind_of (drop (c.loop-byte.byte-index + 1) c.args.bytes.now)))
    (c.step-walk.ensures ∙ ap (λ k. step_of c.loop-byte.walk k) c.of.ensures)
    ∙ step_drop c.loop-byte.walk c.args.bytes.now c.loop-byte.byte-index 0 c.loop-byte-test.true
    ∙ c.loop-byte.invariant.1

pub returns-then-has_ended : goal.returns-then-has_ended
returns-then-has_ended c =
    c.piece.ensures
    ∙ ended_piece c.step-walk.result (map kind_of (drop (c.loop-byte.byte-index + 1) c.args.bytes.now)) (sym c.if-has_ended.ensures)
    ∙ steps (goal.at.returns-then-has_ended c).After-step-walk

pub loop-byte-preserved : goal.loop-byte-preserved
loop-byte-preserved c =
    let at : suc c.loop-byte.walk.at ≡ c.loop-byte.byte-index + 1 = omega (arith, c.loop-byte.invariant.0) in
    (ap (λ w. w.at) c.step-walk.ensures ∙ at, steps (goal.at.loop-byte-preserved c).After-step-walk)
