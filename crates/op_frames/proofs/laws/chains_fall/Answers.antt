use Rattle.op_frames.proofs.Chains.{open-falls}
use Rattle.op_frames.proofs.laws.chains_fall.Goals as goal

pub returns : goal.returns
returns c = open-falls
