use Rattle.op_token.proofs.SpellingCompleteness.{spelling_whole}
use Rattle.op_token.proofs.laws.spellings_are_tokens.Goals as goal

pub returns : goal.returns
returns c = spelling_whole
