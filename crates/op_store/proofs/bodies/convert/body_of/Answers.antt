use Rattle.std.proofs.Common.{◌≡◌, [], ◌∷◌, Some, sym, ap, ◌∙◌}
use Rattle.op_logic.specs.Names.{named}
use Rattle.op_trace.specs.Body.{Body}
use Rattle.op_store.specs.Nodes.{body_tree}
use Rattle.op_store.proofs.ConvertedTerm.{body-read}
use Rattle.op_store.proofs.ConversionSteps.{T}
use Rattle.op_store.proofs.bodies.convert.body_of.Goals as goal

pub linked-requires : goal.linked-requires
linked-requires g c =
    let b = body-read _ _ c.in-Ok.ensures.body in
    ((λ p. named c.args.symbols.now (g.T.Tree.term c.args.tree.now p)), (b.0, b.1.1))

pub returns-in_ok-linked-in-Ok-clause-body : goal.returns-in_ok-linked-in-Ok-clause-body
returns-in_ok-linked-in-Ok-clause-body g c =
    let text : g.row.T-At.Denot → T = λ p. named c.args.symbols.now (g.T.Tree.term c.args.tree.now p) in
    let b = body-read _ _ c.in-Ok.ensures.body in
    let tree : Body = body_tree text c.in_ok-linked-in-Ok.field-0 in
    let same : Some (b.0 ∷ []) ≡ Some (tree ∷ []) = sym b.1.1 ∙ c.in_ok-linked-in-Ok.ensures.tree text in
    let e : b.0 ≡ tree = cc in
    b.1.0 ∙ ap Some e
