use Rattle.op_moves.proofs.SearchedPlaces.{call-found, call-none}
use Rattle.op_moves.proofs.laws.calls_are_found.Goals as goal

pub returns-clause-found : goal.returns-clause-found
returns-clause-found c = call-found

pub returns-clause-none : goal.returns-clause-none
returns-clause-none c = call-none
