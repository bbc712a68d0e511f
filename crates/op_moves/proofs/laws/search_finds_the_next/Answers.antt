use Rattle.op_moves.specs.Moves.{No_event, Past_budget}
use Rattle.op_moves.proofs.SearchedPlaces.{on-found, on-none}
use Rattle.op_moves.proofs.laws.search_finds_the_next.Goals as goal

pub returns-clause-found : goal.returns-clause-found
returns-clause-found c = on-found

pub returns-clause-no_event : goal.returns-clause-no_event
returns-clause-no_event c = λ test es e s fuel. on-none test es e s fuel No_event (λ h. cc) (λ j h. cc)

pub returns-clause-past_budget : goal.returns-clause-past_budget
returns-clause-past_budget c = λ test es e s fuel. on-none test es e s fuel Past_budget (λ h. cc) (λ j h. cc)
