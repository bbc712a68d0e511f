use Rattle.std.proofs.Common.{ap, sym, ◌∙◌, map, List, length, subst, All}
use Rattle.std.proofs.lemmas.List.Sorted.{All-permutation}
use Rattle.op_reader.specs.Row.{tree}
use Rattle.op_reader.specs.inner.ReadRows.{member_in}
use Rattle.op_reader.specs.inner.Members.{MemberBelow}
use Rattle.op_reader.specs.declared.member.Member.{Member}
use Rattle.op_reader.proofs.AddedNodes.{tree_seen}
use Rattle.op_reader.proofs.read_rows.tree_node.Goals as goal

pub returns-clause-term : goal.returns-clause-term
returns-clause-term c v k =
    let turned = c.deref.ensures.value ∙ c.reverse.ensures.items in
    let below = subst (λ (ps : List Member). All (MemberBelow (length c.args.nodes.now)) ps) (sym c.deref.ensures.value)
    (All-permutation (MemberBelow (length c.args.nodes.now)) c.args.row.items c.reverse.new.self.items
    c.reverse.ensures.permutation c.requires) in
    ap (λ (ps : List Member). tree c.args.bound (map (member_in v) ps)) (sym turned)
    ∙ tree_seen v c.args.nodes.now c.row_node.new.nodes c.deref.result.now c.args.bound c.in_ok-found.found k c.in_ok-found.ensures.kept
    below c.in_ok-found.ensures.there c.in_ok-found.ensures.tree
