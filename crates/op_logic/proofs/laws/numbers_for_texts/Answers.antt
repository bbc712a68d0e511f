use Rattle.op_logic.proofs.RenamedUnification.{unify-named}
use Rattle.op_logic.proofs.laws.numbers_for_texts.Goals as goal

pub returns : goal.returns
returns c = unify-named
