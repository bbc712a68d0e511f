use Rattle.op_token.proofs.GapsPassed.{gap_passed}
use Rattle.op_token.proofs.laws.layout_and_comments_are_gaps.Goals as goal

pub returns : goal.returns
returns c = gap_passed
