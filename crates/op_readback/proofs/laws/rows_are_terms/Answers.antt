use Rattle.op_readback.proofs.RowTrees.{rows-are-terms}
use Rattle.op_readback.proofs.laws.rows_are_terms.Goals as goal

pub returns : goal.returns
returns c = rows-are-terms
