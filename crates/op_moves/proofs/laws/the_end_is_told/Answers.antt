use Rattle.op_moves.specs.Moves.{No_event, Past_budget}
use Rattle.op_moves.proofs.SearchedPlaces.{on-end, goto-end, last-end, spent-of, not-spent}
use Rattle.op_moves.proofs.laws.the_end_is_told.Goals as goal

pub returns-clause-search_past : goal.returns-clause-search_past
returns-clause-search_past c = λ test es e s fuel h. spent-of e (on-end test es e s fuel Past_budget (λ q. cc) (λ j q. cc) h)

pub returns-clause-search_none : goal.returns-clause-search_none
returns-clause-search_none c = λ test es e s fuel h. not-spent e (on-end test es e s fuel No_event (λ q. cc) (λ j q. cc) h)

pub returns-clause-goto_past : goal.returns-clause-goto_past
returns-clause-goto_past c = λ es e j s fuel h. spent-of e (goto-end es e j s fuel Past_budget (λ q. cc) (λ i q. cc) h)

pub returns-clause-goto_none : goal.returns-clause-goto_none
returns-clause-goto_none c = λ es e j s fuel h. not-spent e (goto-end es e j s fuel No_event (λ q. cc) (λ i q. cc) h)

pub returns-clause-last_past : goal.returns-clause-last_past
returns-clause-last_past c = λ es e s fuel h. spent-of e (last-end es e s fuel Past_budget (λ q. cc) (λ i q. cc) h)

pub returns-clause-last_none : goal.returns-clause-last_none
returns-clause-last_none c = λ es e s fuel h. not-spent e (last-end es e s fuel No_event (λ q. cc) (λ i q. cc) h)
