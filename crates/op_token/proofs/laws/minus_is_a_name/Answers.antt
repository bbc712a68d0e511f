use Rattle.op_token.proofs.MinusName.{minus_is}
use Rattle.op_token.proofs.laws.minus_is_a_name.Goals as goal

pub returns : goal.returns
returns c = minus_is
