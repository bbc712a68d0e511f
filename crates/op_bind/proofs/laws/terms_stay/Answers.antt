use Rattle.op_bind.proofs.StateGrowth.{term-stays}
use Rattle.op_bind.proofs.laws.terms_stay.Goals as goal

pub returns : goal.returns
returns c = term-stays
