use Rattle.op_bind.proofs.StateGrowth.{undone-later}
use Rattle.op_bind.proofs.laws.undone_is_then.Goals as goal

pub returns : goal.returns
returns c = undone-later
