use Rattle.std.proofs.Common.{subst}
use Rattle.std.specs.Prelude.{Option, Bool}
use Rattle.op_reader.specs.inner.Members.{TakesMember}
use Rattle.op_reader.proofs.RowShape.{member_refused, row_unended}
use Rattle.op_reader.proofs.row_node.row_node.Goals as goal

pub returns-in-None-clause-tree : goal.returns-in-None-clause-tree
returns-in-None-clause-tree c =
    let refused = subst (λ (o : Option Bool). TakesMember c.loop-member.nodes c.member-item.result c.loop-member.expected c.loop-member.row
    c.take_member.new.nodes c.take_member.new.row o) c.in-None.is c.in_ok-next.ensures.takes in
    member_refused c.args.nodes.now c.loop-member.nodes c.args.members.now c.loop-member.member-index c.args.bound
    c.member-item.result c.loop-member.expected
    c.loop-member-test.true c.member-item.is c.loop-member.invariant.goes_on refused

pub returns-then-expected-clause-tree : goal.returns-then-expected-clause-tree
returns-then-expected-clause-tree c =
    row_unended c.args.nodes.now c.args.members.now c.loop-member.member-index c.args.bound c.loop-member.expected c.loop-member-test.false
    c.if-expected.true c.loop-member.invariant.goes_on
