use Rattle.op_moves.proofs.CalledBoxes.{run-called}
use Rattle.op_moves.proofs.laws.boxes_are_called.Goals as goal

pub returns : goal.returns
returns c = run-called
