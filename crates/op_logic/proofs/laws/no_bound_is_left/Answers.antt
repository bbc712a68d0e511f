use Rattle.op_logic.proofs.AppliedBindings.{occurs-apply}
use Rattle.op_logic.proofs.laws.no_bound_is_left.Goals as goal

pub returns : goal.returns
returns c = occurs-apply
