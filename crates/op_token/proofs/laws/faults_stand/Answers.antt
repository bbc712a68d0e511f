use Rattle.op_token.proofs.FaultSoundness.{fault_found}
use Rattle.op_token.proofs.laws.faults_stand.Goals as goal

pub returns : goal.returns
returns c = fault_found
