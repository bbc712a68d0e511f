use Rattle.std.proofs.Common.{ℕ, ◌<◌, List, length, take, sym, ◌∙◌, ap, subst, arith}
use Rattle.op_term.specs.inner.Cells.{terms_of, Laid, HaveSmallShapes}
use Rattle.op_term.specs.declared.builder.Cell.{Cell}
use Rattle.op_term.proofs.Integers.{small-take}
use Rattle.op_term.proofs.BuilderTerms.{Laid-cut, terms_of-cut}
use Rattle.op_term.proofs.BuilderCalls.{same-length, take-whole}
use Rattle.op_term.proofs.builder.Builder.cut.Goals as goal

pub invariant_of-self : goal.invariant_of-self
invariant_of-self c =
    let parts = c.self.inside.parts.items in
    let cells = c.self.inside.cells.items in
    let m = c.index.result.now.from in
    let l : c.args.n < length cells = omega (arith, c.self.inside.cells.ok.0) in
    let laid = Laid-cut parts cells c.self.invariant.0 c.args.n m c.index.result.now l (ap (λ (x : Cell). x.from) c.index.ensures) in (
      subst (Laid 0 0 c.truncate.new.self.items) (sym c.truncate-then-n-len.ensures.items)
          (subst (λ (q : List ℕ). Laid 0 0 q (take c.args.n cells)) (sym c.truncate.ensures.items) laid),
      subst HaveSmallShapes (sym c.truncate-then-n-len.ensures.items) (small-take c.args.n cells c.self.invariant.1),
    )

pub returns-then-n-len : goal.returns-then-n-len
returns-then-n-len c =
    let parts = c.self.inside.parts.items in
    let cells = c.self.inside.cells.items in
    let m = c.index.result.now.from in
    let l : c.args.n < length cells = omega (arith, c.self.inside.cells.ok.0) in
    ap (terms_of c.truncate.new.self.items) c.truncate-then-n-len.ensures.items
    ∙ (ap (λ (q : List ℕ). terms_of q (take c.args.n cells)) c.truncate.ensures.items
    ∙ (terms_of-cut parts cells c.self.invariant.0 c.args.n m c.index.result.now l (ap (λ (x : Cell). x.from) c.index.ensures)
    ∙ ap (take c.args.n) c.self.view_is))

pub returns-else-n-len : goal.returns-else-n-len
returns-else-n-len c =
    let l = same-length c.self.inside.parts.items c.self.inside.cells.items c.self.invariant.0 c.args.self.now c.self.view_is in
    take-whole c.args.n c.args.self.now (omega (arith, c.self.inside.cells.ok.0))
