use Rattle.std.proofs.Common.{ℕ, List, length, ◌∙◌, ap, arith}
use Rattle.op_term.specs.inner.Cells.{stretch}
use Rattle.op_term.proofs.BuilderCalls.{same-length, found_made, within_cell, below_cell, args_of_cell, args_of_other}
use Rattle.op_term.proofs.builder.Builder.parts.Goals as goal

pub index-cell-requires : goal.index-cell-requires
index-cell-requires c =
    let l = same-length c.self.inside.parts.items c.self.inside.cells.items c.self.invariant.0 c.args.self.now c.self.view_is in
    omega (arith, c.self.inside.cells.ok.0)

pub stretch_of-requires : goal.stretch_of-requires
stretch_of-requires c =
    let m =
    found_made c.self.inside.parts.items c.self.inside.cells.items c.self.invariant.0 c.args.self.now c.self.view_is
    c.args.at c.requires c.index-cell.result.now c.index-cell.ensures in
    let w = within_cell _ _ _ _ m c.in-Named.field-0 c.in-Named.n c.in-Named.is in
    omega (arith, ap length c.deref.ensures.value)

pub returns-in-Named-clause-below : goal.returns-in-Named-clause-below
returns-in-Named-clause-below c =
    let m =
    found_made c.self.inside.parts.items c.self.inside.cells.items c.self.invariant.0 c.args.self.now c.self.view_is
    c.args.at c.requires c.index-cell.result.now c.index-cell.ensures in
    below_cell _ _ _ _ m c.in-Named.field-0 c.in-Named.n c.in-Named.is c.stretch_of.result.now
    (c.stretch_of.ensures ∙ ap (λ (q : List ℕ). stretch q c.index-cell.result.now.from c.in-Named.n) c.deref.ensures.value)

pub returns-in-Named-clause-value : goal.returns-in-Named-clause-value
returns-in-Named-clause-value c =
    let m =
    found_made c.self.inside.parts.items c.self.inside.cells.items c.self.invariant.0 c.args.self.now c.self.view_is
    c.args.at c.requires c.index-cell.result.now c.index-cell.ensures in
    args_of_cell _ _ _ _ m c.in-Named.field-0 c.in-Named.n c.in-Named.is c.stretch_of.result.now
    (c.stretch_of.ensures ∙ ap (λ (q : List ℕ). stretch q c.index-cell.result.now.from c.in-Named.n) c.deref.ensures.value)

pub returns-in_default : goal.returns-in_default
returns-in_default c =
    let m =
    found_made c.self.inside.parts.items c.self.inside.cells.items c.self.invariant.0 c.args.self.now c.self.view_is
    c.args.at c.requires c.index-cell.result.now c.index-cell.ensures in
    record {
      below = λ k d l. absurd (omega arith);
      value = args_of_other _ _ _ _ m c.in_default.not-Named;
    }
