use Rattle.std.proofs.Common.{reverse, arith}
use Rattle.op_writer.specs.inner.Stack.{ways_of}
use Rattle.op_writer.proofs.ExpandedCompounds
use Rattle.op_writer.proofs.rest.further.Goals as goal

pub returns-then-i-arity_of : goal.returns-then-i-arity_of
returns-then-i-arity_of g c =
    ExpandedCompounds.end-replaces (g.T.Tree.term c.args.tree.now) (ways_of c.args.setting.now)
    (g.T.Tree.IsPlace c.args.tree.now) c.args.at.now c.args.i (reverse c.args.stack.now.items) (reverse c.push_sign.new.stack.items)
    (omega (arith, c.if-i-arity_of.true, c.arity_of.ensures)) c.in_ok-push_sign.ensures c.requires.good

pub returns : goal.returns
returns g c =
    ExpandedCompounds.further-replaces (g.T.Tree.term c.args.tree.now) (ways_of c.args.setting.now) (g.T.Tree.IsPlace c.args.tree.now)
    c.args.at.now c.part-next.result c.args.i (reverse c.args.stack.now.items) (reverse c.push.new.stack.items)
    (reverse c.push-2.new.stack.items) (reverse c.push_sign-2.new.stack.items)
    (omega (arith, c.if-i-arity_of.false, c.arity_of.ensures)) c.part-next.ensures.value
    c.in_ok-push.ensures c.in_ok-push-2.ensures c.in_ok-push_sign-2.ensures c.requires.good c.requires.place c.part-next.ensures.place
