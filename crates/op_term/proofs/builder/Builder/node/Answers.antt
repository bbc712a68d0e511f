use Rattle.std.proofs.Common.{◌≡◌, sym, ◌∙◌, ap, arith, w64}
use Rattle.op_term.specs.declared.builder.Shape.TheVariants.{Var, Int}
use Rattle.op_term.proofs.BuilderCalls.{same-length, found_made, head_of_cell, head_of_atom, head_of_struct}
use Rattle.std.proofs.lemmas.Int.{to_z-of_z}
use mir.Val.{to_z, of_z}
use Rattle.op_term.specs.declared.node.Node.TheVariants as nodes
use Rattle.op_term.proofs.builder.Builder.node.Goals as goal

pub index-requires : goal.index-requires
index-requires c =
    let l = same-length c.self.inside.parts.items c.self.inside.cells.items c.self.invariant.0 c.args.self.now c.self.view_is in
    omega (arith, c.self.inside.cells.ok.0)

pub returns-in-Var : goal.returns-in-Var
returns-in-Var c =
    let m =
    found_made c.self.inside.parts.items c.self.inside.cells.items c.self.invariant.0 c.args.self.now c.self.view_is
    c.args.at c.requires c.index.result.now c.index.ensures in
    sym (head_of_cell _ _ _ _ m (Var c.in-Var.n) c.in-Var.is)

pub returns-in-Int : goal.returns-in-Int
returns-in-Int c =
    let m =
    found_made c.self.inside.parts.items c.self.inside.cells.items c.self.invariant.0 c.args.self.now c.self.view_is
    c.args.at c.requires c.index.result.now c.index.ensures in
    let e : to_z w64 (of_z w64 c.in-Int.i) ≡ c.in-Int.i = grind (arith, to_z-of_z) in
    ap (λ i. nodes.Int i) e ∙ sym (head_of_cell _ _ _ _ m (Int c.in-Int.i) c.in-Int.is)

pub returns-then-n-eq0 : goal.returns-then-n-eq0
returns-then-n-eq0 c =
    let m =
    found_made c.self.inside.parts.items c.self.inside.cells.items c.self.invariant.0 c.args.self.now c.self.view_is
    c.args.at c.requires c.index.result.now c.index.ensures in
    head_of_atom _ _ _ _ m c.in-Named.name c.in-Named.n c.in-Named.is c.if-n-eq0.true

pub returns-else-n-eq0 : goal.returns-else-n-eq0
returns-else-n-eq0 c =
    let m =
    found_made c.self.inside.parts.items c.self.inside.cells.items c.self.invariant.0 c.args.self.now c.self.view_is
    c.args.at c.requires c.index.result.now c.index.ensures in
    head_of_struct _ _ _ _ m c.in-Named.name c.in-Named.n c.in-Named.is (omega (arith, c.if-n-eq0.false))
