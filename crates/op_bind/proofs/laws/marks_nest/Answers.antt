use Rattle.op_bind.proofs.StateGrowth.{mark-stays}
use Rattle.op_bind.proofs.laws.marks_nest.Goals as goal

pub returns : goal.returns
returns c = mark-stays
