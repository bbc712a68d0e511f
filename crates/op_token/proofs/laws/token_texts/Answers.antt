use Rattle.op_token.proofs.TokenTexts.{token_within, plain_text, quoted_text}
use Rattle.op_token.proofs.laws.token_texts.Goals as goal

pub returns : goal.returns
returns c = record { within = token_within; plain = plain_text; quoted = quoted_text }
