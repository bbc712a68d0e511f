use Rattle.std.proofs.Common.{◌≡◌, ◌+◌, ℕ, length, ap, ◌∙◌, subst, OnOk}
use Rattle.op_bind.proofs.TermCopies.{visit-size, on-within}
use Rattle.op_bind.proofs.copy.copy_term.Goals as goal

pub returns-clause-added : goal.returns-clause-added
returns-clause-added g c =
    let t = g.T.Tree.term c.args.tree.now c.args.at.now in
    subst (λ (k : ℕ). OnOk c.build.result (length c.build.new.made ≡ length c.args.made.now + k)) (ap length c.in_ok-nodes.ensures
    ∙ visit-size t) c.build.ensures.added

pub returns-clause-within : goal.returns-clause-within
returns-clause-within g c =
    on-within c.args.made.now c.build.new.made c.in_ok-nodes.nodes.items (g.T.Tree.term c.args.tree.now c.args.at.now)
    c.in_ok-nodes.ensures c.build.result c.build.ensures.within
