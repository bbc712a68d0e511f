use Rattle.op_token.proofs.QuotedTexts.{token_stands, one_text}
use Rattle.op_token.proofs.laws.quoted_texts.Goals as goal

pub returns : goal.returns
returns c = record { spelled = token_stands; alone = one_text }
