use Rattle.op_moves.proofs.ProgramActs.{program-acts-go-on}
use Rattle.op_moves.proofs.laws.program_acts_go_on.Goals as goal

pub returns : goal.returns
returns c = program-acts-go-on
