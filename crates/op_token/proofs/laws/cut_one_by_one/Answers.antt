use Rattle.op_token.proofs.TermTexts.{texts_more, behind_more}
use Rattle.op_token.proofs.laws.cut_one_by_one.Goals as goal

pub returns : goal.returns
returns c = record { text = texts_more; behind = behind_more }
