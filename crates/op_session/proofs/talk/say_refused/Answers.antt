use Rattle.std.proofs.Common.{◌∙◌, ap}
use Rattle.op_session.specs.Words.{load_line}
use Rattle.op_session.proofs.CallOutcomes.{says_as}
use Rattle.op_session.proofs.talk.say_refused.Goals as goal

pub returns : goal.returns
returns g c = says_as _ _ _ _ _ (ap (load_line c.args.name.now c.args.line) (c.as_slice.ensures ∙ c.in_ok-words.ensures)) c.say_load.ensures
