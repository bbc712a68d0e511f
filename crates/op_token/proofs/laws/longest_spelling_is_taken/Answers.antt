use Rattle.op_token.proofs.SpellingCompleteness.{no_longer}
use Rattle.op_token.proofs.laws.longest_spelling_is_taken.Goals as goal

pub returns : goal.returns
returns c = no_longer
