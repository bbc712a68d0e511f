use Rattle.std.proofs.Common.{◌≤◌, ◌<◌, ℕ, length, get_or}
use Rattle.op_term.specs.declared.node.Node.{Node}
use Rattle.op_cursor.specs.inner.OwnNames.{IsOwnNode}
use Rattle.op_cursor.proofs.own_names.names_among.Given as goal

abbrev pub invariant-back : goal.invariant-back
invariant-back l = record {
  inside : l.i ≤ length l.nodes;
  added : (k : ℕ) (d : Node) → l.i ≤ k → k < length l.nodes → IsOwnNode l.symbols l.own (get_or l.nodes k d);
}

abbrev pub decreases-back : goal.decreases-back
decreases-back l = l.i
