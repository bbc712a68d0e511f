use Rattle.op_machine.proofs.ActLaws.{program-acts}
use Rattle.op_machine.proofs.laws.acts_of_program.Goals as goal

pub returns : goal.returns
returns c = program-acts
