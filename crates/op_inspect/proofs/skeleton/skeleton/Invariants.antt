use Rattle.op_inspect.proofs.MakingFunctors.{IsSkeleton}
use Rattle.op_inspect.proofs.skeleton.skeleton.Given as goal

abbrev pub invariant-variables : goal.invariant-variables
invariant-variables l = record { skeleton : IsSkeleton l.i l.nodes l.parts.items }
