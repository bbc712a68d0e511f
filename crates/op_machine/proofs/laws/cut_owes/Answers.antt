use Rattle.op_machine.proofs.MoveLaws.{resume-cut}
use Rattle.op_machine.proofs.laws.cut_owes.Goals as goal

pub returns : goal.returns
returns c = resume-cut
