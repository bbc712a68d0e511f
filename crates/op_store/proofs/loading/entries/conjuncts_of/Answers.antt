use Rattle.std.proofs.Common.{◌≡◌, ◌+◌, ap, ◌∙◌, arith}
use Rattle.op_logic.specs.Term.{size}
use Rattle.op_store.proofs.DirectiveEntries.{weight, weight-push, size-some, parting-goes, parting-leaf}
use Rattle.op_store.proofs.loading.entries.conjuncts_of.Goals as goal

pub parts-smaller-in-Continue-branch-3 : goal.parts-smaller-in-Continue-branch-3
parts-smaller-in-Continue-branch-3 g c =
    let term = g.T.Tree.term c.args.tree.now in
    let before : weight term c.parts.todo.items ≡ weight term c.pop.new.self.items + size (term c.in-Some.next) =
    ap (weight term) c.in-Some.ensures.items ∙ weight-push term c.pop.new.self.items c.in-Some.next in
    let mid : weight term c.push-in-Some-pair_of.new.self.items ≡ weight term c.pop.new.self.items + size (term c.in-Some-pair_of.pair.1) =
    ap (weight term) c.in_ok-push-in-Some-pair_of.ensures.items ∙ weight-push term c.pop.new.self.items c.in-Some-pair_of.pair.1 in
    let after : weight term c.push-in-Some-pair_of-2.new.self.items
    ≡ weight term c.push-in-Some-pair_of.new.self.items + size (term c.in-Some-pair_of.pair.0) =
    ap (weight term) c.in_ok-push-in-Some-pair_of-2.ensures.items
    ∙ weight-push term c.push-in-Some-pair_of.new.self.items c.in-Some-pair_of.pair.0 in
    omega (arith, before, mid, after, c.in-Some-pair_of.ensures.smaller)

pub parts-preserved-in-Continue-branch-3 : goal.parts-preserved-in-Continue-branch-3
parts-preserved-in-Continue-branch-3 g c =
    parting-goes c.args.symbols.now (g.T.Tree.term c.args.tree.now)
    (g.T.Tree.IsPlace c.args.tree.now) c.args.at.now c.parts.parts.items c.parts.todo.items c.pop.new.self.items
    c.push-in-Some-pair_of.new.self.items c.push-in-Some-pair_of-2.new.self.items
    c.in-Some.next c.in-Some-pair_of.pair.0 c.in-Some-pair_of.pair.1 c.parts.invariant c.in-Some.ensures.items
    c.in-Some-pair_of.ensures.pair c.in_ok-push-in-Some-pair_of.ensures.items c.in_ok-push-in-Some-pair_of-2.ensures.items
    c.in-Some-pair_of.ensures.first c.in-Some-pair_of.ensures.second

pub parts-smaller : goal.parts-smaller
parts-smaller g c =
    let term = g.T.Tree.term c.args.tree.now in
    let before : weight term c.parts.todo.items ≡ weight term c.pop.new.self.items + size (term c.in-Some.next) =
    ap (weight term) c.in-Some.ensures.items ∙ weight-push term c.pop.new.self.items c.in-Some.next in
    omega (arith, before, size-some (term c.in-Some.next))

pub parts-preserved : goal.parts-preserved
parts-preserved g c =
    parting-leaf c.args.symbols.now (g.T.Tree.term c.args.tree.now)
    (g.T.Tree.IsPlace c.args.tree.now) c.args.at.now c.parts.parts.items c.push-in-None.new.self.items c.parts.todo.items
    c.pop.new.self.items
    c.in-Some.next c.parts.invariant c.in-Some.ensures.items c.in-None.ensures.pair c.in_ok-push-in-None.ensures.items
