use Rattle.op_token.proofs.TermTexts.{cut_any_more, cut_more as more, text_more, rest_more}
use Rattle.op_token.proofs.laws.cut_more.Goals as goal

pub returns : goal.returns
returns c = record { piece = more; text = text_more; rest = rest_more; any = cut_any_more }
