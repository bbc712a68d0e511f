use Rattle.std.proofs.Common.{◌∙◌}
use Rattle.op_session.proofs.CallOutcomes.{says_as}
use Rattle.op_session.proofs.talk.say_load.Goals as goal

pub returns : goal.returns
returns g c = says_as _ _ _ _ _ (c.as_slice.ensures ∙ c.in_ok-bytes.ensures) c.say.ensures
