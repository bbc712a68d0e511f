use Rattle.op_token.proofs.SpellingEnds.{token_ends}
use Rattle.op_token.proofs.SpellingSoundness.{begins_sound}
use Rattle.op_token.proofs.laws.tokens_are_spellings.Goals as goal

pub returns : goal.returns
returns c = record { within = token_ends; spelled = begins_sound }
