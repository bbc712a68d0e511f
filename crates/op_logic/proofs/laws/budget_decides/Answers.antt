use Rattle.op_logic.proofs.StepCounts.{unify-within}
use Rattle.std.proofs.Common.{nat_eq}
use Rattle.op_logic.proofs.laws.budget_decides.Goals as goal

pub returns : goal.returns
returns c = unify-within nat_eq
