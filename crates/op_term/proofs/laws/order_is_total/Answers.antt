use Rattle.op_term.proofs.TotalOrder.{standard-total}
use Rattle.op_term.proofs.laws.order_is_total.Goals as goal

pub returns : goal.returns
returns c = standard-total
