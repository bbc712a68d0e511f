use Rattle.std.proofs.Common.{◌≡◌, take, map}
use Rattle.op_bind.specs.inner.Renewed.{renewed_node}
use Rattle.op_bind.proofs.renamed_copy.renewed_nodes.Given as goal

abbrev pub invariant-loop-node : goal.invariant-loop-node
invariant-loop-node l = l.renewed.items ≡ map (renewed_node l.first l.met.keys) (take l.node-index l.nodes)
