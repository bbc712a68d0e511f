use Rattle.op_logic.proofs.AppliedBindings.{apply-bound}
use Rattle.op_logic.proofs.laws.value_of_bound.Goals as goal

pub returns : goal.returns
returns c = apply-bound
