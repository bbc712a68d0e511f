use Rattle.std.proofs.Common.{◌≡◌, ℕ, sym, ◌∙◌, ap, arith}
use Rattle.op_writer.specs.Cut.{boundary as the_boundary}
use Rattle.op_writer.proofs.CutTexts.{boundary-back, boundary-here, boundary-zero}
use Rattle.op_writer.proofs.cut.boundary.Goals as goal

pub back-preserved : goal.back-preserved
back-preserved c =
    let t = c.args.text.now in (
      omega (arith, c.back.invariant.0),
      boundary-back t c.back.at c.back-test.true (sym c.continues.ensures ∙ c.if-continues.true) ∙ c.back.invariant.1,
    )

pub returns-else-continues-clause-value : goal.returns-else-continues-clause-value
returns-else-continues-clause-value c =
    let t = c.args.text.now in
    boundary-here t c.back.at (sym c.continues.ensures ∙ c.if-continues.false) ∙ c.back.invariant.1

pub returns-after-back-clause-value : goal.returns-after-back-clause-value
returns-after-back-clause-value c =
    let t = c.args.text.now in
    let z : c.back.at ≡ 0 = omega (arith, c.back-test.false) in
    z ∙ (sym (ap (λ (n : ℕ). the_boundary t n) z ∙ boundary-zero t) ∙ c.back.invariant.1)
