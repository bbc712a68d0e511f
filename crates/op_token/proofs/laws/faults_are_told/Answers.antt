use Rattle.op_token.proofs.FaultCompleteness.{fault_told}
use Rattle.op_token.proofs.laws.faults_are_told.Goals as goal

pub returns : goal.returns
returns c = fault_told
