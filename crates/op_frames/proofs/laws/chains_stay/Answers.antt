use Rattle.op_frames.proofs.Chains.{chain-dropped}
use Rattle.op_frames.proofs.laws.chains_stay.Goals as goal

pub returns : goal.returns
returns c = chain-dropped
