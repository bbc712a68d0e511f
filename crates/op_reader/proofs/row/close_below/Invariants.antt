use Rattle.std.proofs.Common.{◌≡◌, ◌<◌, length, take, vec_len}
use Rattle.op_reader.specs.inner.RowState.{BranchesBelow}
use Rattle.op_reader.specs.inner.Adding.{spine_at, IsSameTo}
use Rattle.op_reader.proofs.row.close_below.Given as goal

abbrev pub invariant-close : goal.invariant-close
invariant-close l = record {
  branches_there : BranchesBelow (length l.nodes) l.branches.items;
  part_there : l.right.node < length l.nodes;
  kept : take (length l.initial.nodes) l.nodes ≡ l.initial.nodes;
  same : IsSameTo l.priority (spine_at l.initial.nodes l.initial.branches.items l.initial.right)
      (spine_at l.nodes l.branches.items l.right);
}

abbrev pub decreases-close : goal.decreases-close
decreases-close l = vec_len l.branches
