use Rattle.op_term.proofs.TotalOrder.{equal-same, same-equal}
use Rattle.op_term.proofs.laws.equal_is_same.Goals as goal

pub returns : goal.returns
returns c = λ t u. (equal-same t u, same-equal t u)
