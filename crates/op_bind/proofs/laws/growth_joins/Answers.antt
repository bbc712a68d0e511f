use Rattle.op_bind.proofs.StateGrowth.{grows-grows}
use Rattle.op_bind.proofs.laws.growth_joins.Goals as goal

pub returns : goal.returns
returns c = grows-grows
