use Rattle.std.proofs.Common.{◌≡◌, ◌<◌, length, take, vec_len}
use Rattle.op_reader.specs.inner.RowState.{BranchesBelow}
use Rattle.op_reader.specs.inner.Spine.{whole_priority}
use Rattle.op_reader.specs.inner.Adding.{spine_at, whole_term}
use Rattle.op_reader.proofs.row.close_all.Given as goal

abbrev pub invariant-close : goal.invariant-close
invariant-close l = record {
  branches_there : BranchesBelow (length l.nodes) l.branches.items;
  part_there : l.right.node < length l.nodes;
  kept : take (length l.initial.nodes) l.nodes ≡ l.initial.nodes;
  term : whole_term (spine_at l.initial.nodes l.initial.branches.items l.initial.right)
      ≡ whole_term (spine_at l.nodes l.branches.items l.right);
  priority : whole_priority (spine_at l.initial.nodes l.initial.branches.items l.initial.right) ≡ whole_priority
      (spine_at l.nodes l.branches.items l.right);
}

abbrev pub decreases-close : goal.decreases-close
decreases-close l = vec_len l.branches
