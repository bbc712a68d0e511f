use Rattle.std.proofs.Common.{reverse}
use Rattle.op_writer.specs.inner.Stack.{ways_of}
use Rattle.op_writer.proofs.ExpandedCompounds
use Rattle.op_writer.proofs.expand.list.Goals as goal

pub returns : goal.returns
returns g c =
    ExpandedCompounds.list-replaces (g.T.Tree.term c.args.tree.now) (ways_of c.args.setting.now) (g.T.Tree.IsPlace c.args.tree.now)
    c.args.at.now c.part-first.result c.part-rest.result c.args.name c.args.bound (reverse c.args.stack.now.items)
    (reverse c.push.new.stack.items) (reverse c.push-2.new.stack.items) (reverse c.push_sign.new.stack.items)
    c.requires.node c.part-first.ensures.value c.part-rest.ensures.value c.requires.letter c.requires.notation
    c.in_ok-push.ensures c.in_ok-push-2.ensures c.in_ok-push_sign.ensures c.requires.good c.part-first.ensures.place
    c.part-rest.ensures.place
