use Rattle.op_logic.proofs.StepCounts.{solve-unique}
use Rattle.std.proofs.Common.{nat_eq}
use Rattle.op_logic.proofs.laws.one_result.Goals as goal

pub returns : goal.returns
returns c = solve-unique nat_eq
