use Rattle.op_token.proofs.TermTexts.{cut_within as within_lem, cut_behind, followed_is_text}
use Rattle.op_token.proofs.laws.cut_within.Goals as goal

pub returns : goal.returns
returns c = record { within = within_lem; gap = cut_behind; text = followed_is_text }
