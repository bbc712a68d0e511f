use Rattle.std.proofs.Common.{◌≡◌, ◌≤◌, length, take, drop}
use Rattle.op_reader.specs.inner.RoleLists.{View, with_roles, no_layers}
use Rattle.op_reader.specs.inner.ReadRows.{Extends, Reads, PendingBelow}
use Rattle.op_reader.proofs.terms.term_node.Given as goal

abbrev pub invariant-roles : goal.invariant-roles
invariant-roles l = record {
  inside : l.i ≤ length l.roles;
  reads : (v : View) → Extends v l.nodes → Reads v l.known l.pending (with_roles v (drop l.i l.roles) no_layers);
  below : PendingBelow (length l.nodes) l.pending;
  kept : take (length l.initial.nodes) l.nodes ≡ l.initial.nodes;
}

abbrev pub decreases-roles : goal.decreases-roles
decreases-roles l = l.i
