use Rattle.op_store.proofs.TermShapes.{one-shape, two-shape, three-shape}
use Rattle.op_store.proofs.terms.shape.shape_of.Goals as goal

pub returns-then-arity-eq1-clause-shape : goal.returns-then-arity-eq1-clause-shape
returns-then-arity-eq1-clause-shape g c =
    one-shape (g.T.Tree.term c.args.tree.now c.args.at.now)
    (g.T.Tree.term c.args.tree.now c.part.result) c.in-Struct.name c.in-Struct.arity c.in-Struct.ensures c.if-arity-eq1.true
    c.part.ensures.value

pub returns-then-arity-eq2-clause-shape : goal.returns-then-arity-eq2-clause-shape
returns-then-arity-eq2-clause-shape g c =
    let term = g.T.Tree.term c.args.tree.now in
    two-shape (term c.args.at.now) (term c.part-then-arity-eq2.result)
    (term c.part-then-arity-eq2-2.result) c.in-Struct.name c.in-Struct.arity c.in-Struct.ensures c.if-arity-eq2.true
    c.part-then-arity-eq2.ensures.value c.part-then-arity-eq2-2.ensures.value

pub returns-then-arity-eq3-clause-shape : goal.returns-then-arity-eq3-clause-shape
returns-then-arity-eq3-clause-shape g c =
    let term = g.T.Tree.term c.args.tree.now in
    three-shape (term c.args.at.now) (term c.part-then-arity-eq3.result) (term c.part-then-arity-eq3-2.result)
    (term c.part-then-arity-eq3-3.result) c.in-Struct.name c.in-Struct.arity c.in-Struct.ensures c.if-arity-eq3.true
    c.part-then-arity-eq3.ensures.value c.part-then-arity-eq3-2.ensures.value c.part-then-arity-eq3-3.ensures.value
