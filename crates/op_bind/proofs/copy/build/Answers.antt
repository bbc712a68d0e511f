use Rattle.std.proofs.Common.{ℕ, List, subst, sym}
use Rattle.op_term.specs.declared.node.Node.{Node}
use Rattle.op_bind.proofs.TermCopies.{IsBuilding, building-starts, building-args, building-goes}
use Rattle.op_bind.proofs.copy.build.Goals as goal

pub back-init : goal.back-init
back-init c =
    subst (λ (ks : List ℕ). IsBuilding c.args.made.now c.args.made.now c.args.nodes.items c.args.nodes.items ks)
    (sym c.new-stack.ensures.items) (building-starts c.args.made.now c.args.nodes.items)

pub join_node-requires-clause-args : goal.join_node-requires-clause-args
join_node-requires-clause-args c =
    let b = subst (λ (ns : List Node). IsBuilding c.args.made.now c.back.made c.args.nodes.items ns c.back.stack.items)
    c.in-Some.ensures.items c.back.invariant in
    building-args c.args.made.now c.back.made c.args.nodes.items c.pop.new.self.items c.in-Some.node c.back.stack.items
    c.requires.0 c.requires.1 b

pub back-preserved : goal.back-preserved
back-preserved c =
    let b = subst (λ (ns : List Node). IsBuilding c.args.made.now c.back.made c.args.nodes.items ns c.back.stack.items)
    c.in-Some.ensures.items c.back.invariant in
    building-goes c.args.made.now c.back.made c.join_node.new.made c.args.nodes.items c.pop.new.self.items c.in-Some.node
    c.back.stack.items c.join_node.new.stack.items
    c.join_node.ensures.kept c.in_ok-join_node.ensures.there c.in_ok-join_node.ensures.joined c.in_ok-join_node.ensures.more b

pub returns-clause-within : goal.returns-clause-within
returns-clause-within c = λ n h k. (c.back.invariant.within n h k).0
