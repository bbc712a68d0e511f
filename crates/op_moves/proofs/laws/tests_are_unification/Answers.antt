use Rattle.op_moves.proofs.PatternUnifiers.{tested-unifies}
use Rattle.op_moves.proofs.laws.tests_are_unification.Goals as goal

pub returns : goal.returns
returns c = tested-unifies
