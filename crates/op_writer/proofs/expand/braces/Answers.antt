use Rattle.std.proofs.Common.{reverse}
use Rattle.op_writer.specs.inner.Stack.{ways_of}
use Rattle.op_writer.proofs.ExpandedCompounds
use Rattle.op_writer.proofs.expand.braces.Goals as goal

pub returns : goal.returns
returns g c =
    ExpandedCompounds.braces-replaces (g.T.Tree.term c.args.tree.now) (ways_of c.args.setting.now) (g.T.Tree.IsPlace c.args.tree.now)
    c.args.at.now c.part-inside.result c.args.name c.args.bound (reverse c.args.stack.now.items) (reverse c.push_sign.new.stack.items)
    (reverse c.push.new.stack.items) (reverse c.push_sign-2.new.stack.items)
    c.requires.node c.part-inside.ensures.value c.requires.letter c.requires.notation
    c.in_ok-push_sign.ensures c.in_ok-push.ensures c.in_ok-push_sign-2.ensures c.requires.good c.part-inside.ensures.place
