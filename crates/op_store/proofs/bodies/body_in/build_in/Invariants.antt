use Rattle.std.proofs.Common.{length}
use Rattle.op_store.proofs.BoundBodies.{IsBuilding}
use Rattle.op_store.proofs.bodies.body_in.build_in.Given as goal

abbrev pub invariant-back : goal.invariant-back
invariant-back l = IsBuilding l.known l.fn.made l.fn.met.items l.met.items l.made l.stack.items

abbrev pub decreases-back : goal.decreases-back
decreases-back l = length l.met.items
