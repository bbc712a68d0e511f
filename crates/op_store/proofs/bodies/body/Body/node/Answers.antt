use Rattle.std.proofs.Common.{◌<◌, List, length, sym, subst}
use Rattle.op_store.specs.Nodes.{IsLinked}
use Rattle.op_store.specs.declared.bodies.body_node.BodyNode.{BodyNode}
use Rattle.op_store.proofs.BodyNodes.{linked-at}
use Rattle.op_store.proofs.bodies.body.Body.node.Goals as goal

pub returns-clause-linked : goal.returns-clause-linked
returns-clause-linked g c =
    let xs = c.self.inside.nodes.items in
    let h = subst (λ (ys : List (BodyNode _)). c.args.i < length ys) (sym c.self.view_is) c.requires in
    subst (λ (ys : List (BodyNode _)). IsLinked c.args.i (length ys) c.index.result.now) c.self.view_is
    (subst (λ (x : BodyNode _). IsLinked c.args.i (length xs) x) (sym c.index.ensures)
    (linked-at xs (length xs) c.args.i c.index.result.now h c.self.invariant.linked))
