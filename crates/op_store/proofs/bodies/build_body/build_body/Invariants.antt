use Rattle.std.proofs.Common.{length, All}
use Rattle.op_store.specs.Nodes.{leaves}
use Rattle.op_store.proofs.BodyTerms.{IsMaking}
use Rattle.op_store.proofs.bodies.build_body.build_body.Given as goal

abbrev pub invariant-back : goal.invariant-back
invariant-back g l = record {
  making : IsMaking (g.T.Tree.term l.tree) l.known l.fn.met.items l.met.items l.made l.stack.items;
  places : All (λ p. g.T.Tree.IsPlace l.tree p) (leaves l.met.items);
}

abbrev pub decreases-back : goal.decreases-back
decreases-back g l = length l.met.items
