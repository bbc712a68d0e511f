use Rattle.op_moves.proofs.MoveCosts.{goto-costs, prev-costs, first-costs, last-costs, parent-costs, retry-costs, on-costs, seek-costs}
use Rattle.op_moves.proofs.MoveCosts.{seek-back-costs}
use Rattle.op_moves.proofs.laws.moves_cost.Goals as goal

pub returns-clause-goto : goal.returns-clause-goto
returns-clause-goto c = goto-costs

pub returns-clause-prev : goal.returns-clause-prev
returns-clause-prev c = prev-costs

pub returns-clause-first : goal.returns-clause-first
returns-clause-first c = first-costs

pub returns-clause-last : goal.returns-clause-last
returns-clause-last c = last-costs

pub returns-clause-parent : goal.returns-clause-parent
returns-clause-parent c = parent-costs

pub returns-clause-retry : goal.returns-clause-retry
returns-clause-retry c = retry-costs

pub returns-clause-search : goal.returns-clause-search
returns-clause-search c = on-costs

pub returns-clause-seek : goal.returns-clause-seek
returns-clause-seek c = seek-costs

pub returns-clause-seek_back : goal.returns-clause-seek_back
returns-clause-seek_back c = seek-back-costs
