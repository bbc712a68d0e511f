use Rattle.op_token.proofs.LongestTokens.{longest}
use Rattle.op_token.proofs.laws.tokens_are_longest.Goals as goal

pub returns : goal.returns
returns c = longest
