use Rattle.std.proofs.Common.{◌≡◌, ◌+◌, ◌∙◌, ap, sym, subst, drop, length, arith}
use Rattle.op_token.specs.declared.spelling.Spelling.TheVariants.{Gap, Whole}
use Rattle.op_token.specs.Spelling.{begins, EndsBy}
use Rattle.op_token.proofs.ListRests.{take_rest}
use Rattle.op_token.proofs.LexedSpellings.{ends_front, lex_gap, lex_whole}
use Rattle.op_token.proofs.scanner.find.Goals as goal
use Rattle.op_token.proofs.scanner.find.Goals.{After-lexeme}

begun : (c : After-lexeme) → begins c.loop-at.at c.loop-at.minus (drop c.loop-at.at c.args.bytes.now) ≡ c.lexeme.result
begun c = sym (ap (begins c.loop-at.at c.loop-at.minus) (take_rest c.args.bytes.now c.loop-at.at)) ∙ sym c.lexeme.ensures

ended : (c : After-lexeme) → EndsBy (c.loop-at.at + 1) (length c.args.bytes.now) c.lexeme.result
ended c =
    subst (EndsBy (c.loop-at.at + 1) (length c.args.bytes.now)) (begun c)
    (ends_front c.args.bytes.now c.loop-at.at c.loop-at.minus c.loop-at-test.true)

pub loop-at-smaller : goal.loop-at-smaller
loop-at-smaller c =
    let w : EndsBy (c.loop-at.at + 1) (length c.args.bytes.now) (Gap c.in-Gap.end) =
    subst (EndsBy (c.loop-at.at + 1) (length c.args.bytes.now)) c.in-Gap.is (ended (goal.at.loop-at-smaller c).After-lexeme) in
    let low = w.0 in
    let high = w.1 in
    omega arith

pub loop-at-preserved : goal.loop-at-preserved
loop-at-preserved c =
    let w : EndsBy (c.loop-at.at + 1) (length c.args.bytes.now) (Gap c.in-Gap.end) =
    subst (EndsBy (c.loop-at.at + 1) (length c.args.bytes.now)) c.in-Gap.is (ended (goal.at.loop-at-preserved c).After-lexeme) in (
      w.1,
      sym (lex_gap c.args.bytes.now c.loop-at.at c.loop-at.layout_before c.loop-at.minus c.loop-at-test.true c.in-Gap.end
          (begun (goal.at.loop-at-preserved c).After-lexeme ∙ c.in-Gap.is))
          ∙ c.loop-at.invariant.1,
    )

pub returns-in-Whole : goal.returns-in-Whole
returns-in-Whole c =
    let w : EndsBy (c.loop-at.at + 1) (length c.args.bytes.now) (Whole c.in-Whole.kind c.in-Whole.end) =
    subst (EndsBy (c.loop-at.at + 1) (length c.args.bytes.now)) c.in-Whole.is (ended (goal.at.returns-in-Whole c).After-lexeme) in
    let low = w.0 in (
      sym c.loop-at.invariant.1
          ∙ lex_whole c.args.bytes.now c.loop-at.at c.loop-at.layout_before c.loop-at.minus c.loop-at-test.true c.in-Whole.kind
          c.in-Whole.end (begun (goal.at.returns-in-Whole c).After-lexeme ∙ c.in-Whole.is),
      omega arith,
      w.1,
    )
