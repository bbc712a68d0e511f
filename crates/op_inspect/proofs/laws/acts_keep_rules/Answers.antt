use Rattle.op_inspect.proofs.TermActs.{rules-kept}
use Rattle.op_inspect.proofs.laws.acts_keep_rules.Goals as goal

pub returns : goal.returns
returns c = rules-kept
