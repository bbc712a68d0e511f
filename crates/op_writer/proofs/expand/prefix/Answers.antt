use Rattle.std.proofs.Common.{reverse, ◌∷◌, ◌∙◌, ap}
use Rattle.op_writer.specs.declared.item.Item.TheVariants as Item
use Rattle.op_writer.specs.inner.Stack.{ways_of}
use Rattle.op_writer.proofs.ExpandedCompounds
use Rattle.op_writer.proofs.expand.prefix.Goals as goal

pub returns : goal.returns
returns g c =
    ExpandedCompounds.prefix-replaces (g.T.Tree.term c.args.tree.now) (ways_of c.args.setting.now) (g.T.Tree.IsPlace c.args.tree.now)
    c.args.at.now c.part-right.result c.args.name c.args.bound c.args.m c.is_passed-brackets.result
    (reverse c.args.stack.now.items) (reverse c.push_bracket.new.stack.items) (reverse c.push.new.stack.items)
    (reverse c.prefix_name.new.stack.items) (reverse c.push_bracket-2.new.stack.items)
    c.requires.node c.part-right.ensures.value c.requires.letter c.requires.notation c.is_passed-brackets.ensures
    c.in_ok-push_bracket.ensures
    (c.in_ok-push.ensures ∙ ap (λ x. Item.Term c.part-right.result x ∷ (reverse c.push_bracket.new.stack.items)) c.right_of.ensures)
    c.in_ok-prefix_name.ensures.fragments c.in_ok-prefix_name.ensures.weights c.in_ok-prefix_name.ensures.good
    c.in_ok-push_bracket-2.ensures
