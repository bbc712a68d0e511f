use Rattle.op_moves.proofs.SearchedPlaces.{there-and-back}
use Rattle.op_moves.proofs.laws.next_then_prev.Goals as goal

pub returns : goal.returns
returns c = there-and-back
