use Rattle.std.proofs.Common.{reverse}
use Rattle.op_writer.specs.inner.Stack.{ways_of}
use Rattle.op_writer.proofs.ExpandedCompounds
use Rattle.op_writer.proofs.expand.functional.Goals as goal

pub returns : goal.returns
returns g c =
    ExpandedCompounds.functional-replaces (g.T.Tree.term c.args.tree.now) (ways_of c.args.setting.now) (g.T.Tree.IsPlace c.args.tree.now)
    c.args.at.now c.part-first.result c.args.name c.args.n c.args.bound (reverse c.args.stack.now.items) (reverse c.push.new.stack.items)
    (reverse c.push-2.new.stack.items) (reverse c.push_sign.new.stack.items) (reverse c.push-3.new.stack.items)
    c.requires.node c.part-first.ensures.value c.requires.letter c.requires.notation
    c.in_ok-push.ensures c.in_ok-push-2.ensures c.in_ok-push_sign.ensures c.in_ok-push-3.ensures c.requires.good c.requires.place
    c.part-first.ensures.place
