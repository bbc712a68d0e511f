use Rattle.op_logic.proofs.FollowedTerms.{apply-follow}
use Rattle.op_logic.proofs.laws.followed_has_value.Goals as goal

pub returns : goal.returns
returns c = apply-follow
