use Rattle.op_moves.proofs.MoveCosts.{finish-rises, seek-rises}
use Rattle.op_moves.proofs.MoveCosts.{seek-back-rises}
use Rattle.op_moves.proofs.laws.furthest_never_falls.Goals as goal

pub returns-clause-finish : goal.returns-clause-finish
returns-clause-finish c = finish-rises

pub returns-clause-seek : goal.returns-clause-seek
returns-clause-seek c = seek-rises

pub returns-clause-seek_back : goal.returns-clause-seek_back
returns-clause-seek_back c = seek-back-rises
