use Rattle.std.proofs.Common.{refl}
use Rattle.op_term.proofs.ops.add_clause_operators.Goals as goal

pub returns : goal.returns
returns c = rw (c.in_ok-add_group-3.ensures, c.in_ok-add_group-2.ensures, c.in_ok-add_group.ensures) refl
