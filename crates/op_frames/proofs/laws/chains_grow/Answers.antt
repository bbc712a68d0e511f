use Rattle.op_frames.proofs.Chains.{chain-pushed, chain-kept}
use Rattle.op_frames.proofs.laws.chains_grow.Goals as goal

pub returns-clause-begins : goal.returns-clause-begins
returns-clause-begins c = chain-pushed

pub returns-clause-stays : goal.returns-clause-stays
returns-clause-stays c = chain-kept
