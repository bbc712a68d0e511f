use Rattle.op_logic.proofs.AppliedBindings.{apply-append-same}
use Rattle.op_logic.proofs.laws.later_keeps_equal.Goals as goal

pub returns : goal.returns
returns c = apply-append-same
