use Rattle.op_token.proofs.MadeUpTexts.{text_made_up}
use Rattle.op_token.proofs.laws.tokens_make_up.Goals as goal

pub returns : goal.returns
returns c = text_made_up
