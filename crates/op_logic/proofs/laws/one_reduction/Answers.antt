use Rattle.op_logic.proofs.StepCounts.{unify-reduction}
use Rattle.std.proofs.Common.{nat_eq}
use Rattle.op_logic.proofs.laws.one_reduction.Goals as goal

pub returns : goal.returns
returns c = unify-reduction nat_eq
