use Rattle.op_moves.proofs.SearchedPlaces.{back-found, back-none}
use Rattle.op_moves.proofs.laws.search_back_finds_the_last.Goals as goal

pub returns-clause-found : goal.returns-clause-found
returns-clause-found c = λ test es s fuel j there. back-found test es s fuel there j

pub returns-clause-no_event : goal.returns-clause-no_event
returns-clause-no_event c = λ test es s fuel there. back-none test es s fuel there
