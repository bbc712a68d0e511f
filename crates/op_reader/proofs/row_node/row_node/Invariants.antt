use Rattle.std.proofs.Common.{◌≡◌, length, take, drop}
use Rattle.std.specs.Prelude.{map, true}
use Rattle.op_reader.specs.Row.{alternates}
use Rattle.op_reader.specs.inner.RowState.{expects_operand, AreBelow, Stands}
use Rattle.op_reader.specs.inner.Members.{member_at}
use Rattle.op_reader.proofs.row_node.row_node.Given as goal

abbrev pub invariant-loop-member : goal.invariant-loop-member
invariant-loop-member l = record {
  stands : Stands l.nodes (map (member_at l.initial.nodes) (take l.member-index l.members)) l.row;
  below : AreBelow (length l.nodes) l.row;
  expects : expects_operand l.row ≡ l.expected;
  goes_on : alternates true (map (member_at l.initial.nodes) l.members) ≡ alternates l.expected (map (member_at l.initial.nodes)
      (drop l.member-index l.members));
  kept : take (length l.initial.nodes) l.nodes ≡ l.initial.nodes;
}
