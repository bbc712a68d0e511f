use Rattle.op_machine.proofs.TakingLaws.{follow-then}
use Rattle.op_machine.proofs.laws.takings_join.Goals as goal

pub returns : goal.returns
returns c = follow-then
