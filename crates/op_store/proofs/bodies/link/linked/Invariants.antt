use Rattle.std.proofs.Common.{length, reverse}
use Rattle.op_store.proofs.LinkedNodes.{IsLinking}
use Rattle.op_store.proofs.bodies.link.linked.Given as goal

abbrev pub invariant-back : goal.invariant-back
invariant-back g l = IsLinking l.fn.met.items l.met.items (reverse l.nodes.items) (reverse l.stack.items)

abbrev pub decreases-back : goal.decreases-back
decreases-back g l = length l.met.items
