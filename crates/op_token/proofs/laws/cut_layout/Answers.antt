use Rattle.op_token.proofs.TermTexts.{cut_newline, cut_layout as layout_lem}
use Rattle.op_token.proofs.laws.cut_layout.Goals as goal

pub returns : goal.returns
returns c = record { newline = cut_newline; other = layout_lem }
