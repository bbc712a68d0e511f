use Rattle.std.proofs.Common.{◌≡◌, [], List, subst, refl, arith}
use Rattle.op_bind.proofs.TermCopies.{IsMeeting, meeting-goes, meeting-spent, meeting-ends, meeting-paid, none-left}
use Rattle.op_bind.proofs.TermCopies
use Rattle.op_bind.proofs.copy.nodes_within.Goals as goal

pub returns-in_err-spend-clause-spent : goal.returns-in_err-spend-clause-spent
returns-in_err-spend-clause-spent g c = λ _.
    let term = g.T.Tree.term c.args.tree.now in
    let t = g.T.Tree.term c.args.tree.now c.args.at.now in
    let m = subst (λ (ps : List _). IsMeeting term t c.walk.nodes.items ps) c.in-Some.ensures.items c.walk.invariant.meeting in
    meeting-spent term t c.walk.nodes.items c.pop.new.self.items c.in-Some.next c.args.fuel.now c.walk.fuel c.walk.invariant.paid
    (c.in_err-spend.ensures.spent.0 refl) m

pub walk-preserved : goal.walk-preserved
walk-preserved g c =
    let term = g.T.Tree.term c.args.tree.now in
    let t = g.T.Tree.term c.args.tree.now c.args.at.now in
    let m = subst (λ (ps : List _). IsMeeting term t c.walk.nodes.items ps) c.in-Some.ensures.items c.walk.invariant.meeting in
    record {
      meeting = meeting-goes term t c.walk.nodes.items c.push-in-Some.new.self.items c.pop.new.self.items c.push_args.new.todo.items
          c.in-Some.next c.node-node.result c.node-node.ensures c.in_ok-push-2.ensures.items c.in_ok-push_args.ensures.terms m;
      there = c.in_ok-push_args.ensures.todo;
      paid = omega (arith, c.walk.invariant.paid, c.in_ok-spend.ensures.ok, TermCopies.pushed-length _ _ _ c.in_ok-push-2.ensures.items);
    }

pub returns-clause-nodes : goal.returns-clause-nodes
returns-clause-nodes g c =
    let term = g.T.Tree.term c.args.tree.now in
    let t = g.T.Tree.term c.args.tree.now c.args.at.now in
    let empty : c.walk.todo.items ≡ [] = none-left c.walk.todo.items (omega (arith, c.in_default.ensures.cases.0, c.walk.todo.ok.0)) in
    meeting-ends term t c.walk.nodes.items (subst (λ (ps : List _). IsMeeting term t c.walk.nodes.items ps) empty c.walk.invariant.meeting)

pub returns-clause-paid : goal.returns-clause-paid
returns-clause-paid g c =
    let term = g.T.Tree.term c.args.tree.now in
    let t = g.T.Tree.term c.args.tree.now c.args.at.now in
    let empty : c.walk.todo.items ≡ [] = none-left c.walk.todo.items (omega (arith, c.in_default.ensures.cases.0, c.walk.todo.ok.0)) in
    meeting-paid term t c.walk.nodes.items c.args.fuel.now c.walk.fuel c.walk.invariant.paid
    (subst (λ (ps : List _). IsMeeting term t c.walk.nodes.items ps) empty c.walk.invariant.meeting)
