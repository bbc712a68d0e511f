use Rattle.std.proofs.Common.{◌≡◌, ◌++◌, ◌∷◌, [], ℕ, max, List, subst, ap, ◌∙◌, arith}
use Rattle.op_store.specs.Counted.{variable_count}
use Rattle.op_term.specs.declared.node.Node.{Node}
use Rattle.op_store.proofs.VariableCounts.{counted, counted-visit, counting-goes}
use Rattle.op_store.proofs.bodies.converted.count_variables.Goals as goal

pub back-init : goal.back-init
back-init g c =
    let t = g.T.Tree.term c.args.tree.now c.args.at.now in
    let e : counted c.in_ok-nodes.nodes.items ≡ variable_count t = ap counted c.in_ok-nodes.ensures ∙ counted-visit t in
    omega arith

pub back-preserved : goal.back-preserved
back-preserved g c =
    let t = g.T.Tree.term c.args.tree.now c.args.at.now in
    let h : max c.back.most (counted (c.pop.new.self.items ++ c.in-Some.node ∷ [])) ≡ variable_count t =
    subst (λ (ns : List Node). max c.back.most (counted ns) ≡ variable_count t) c.in-Some.ensures.items c.back.invariant in
    ap (λ (k : ℕ). max k (counted c.pop.new.self.items)) c.max-most.ensures
    ∙ counting-goes c.pop.new.self.items c.in-Some.node c.back.most c.in_ok-variables_of.field-0
    (variable_count t) c.in_ok-variables_of.ensures h
