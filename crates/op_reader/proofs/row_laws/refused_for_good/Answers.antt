use Rattle.op_reader.proofs.RefusedRows.{infix_keeps, postfix_keeps, prefix_keeps}
use Rattle.op_reader.proofs.row_laws.refused_for_good.Goals as goal

pub returns : goal.returns
returns c = record { infix_operator = infix_keeps; postfix_operator = postfix_keeps; prefix_operator = prefix_keeps }
