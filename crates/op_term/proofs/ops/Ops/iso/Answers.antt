use Rattle.std.proofs.Common.{sym, subst, refl}
use Rattle.op_term.specs.Ops.{iso_operators, iso_table, IsTable}
use Rattle.op_term.proofs.Operators.{IsTable-iso}
use Rattle.op_term.proofs.ops.Ops.iso.Goals as goal

pub returns-clause-iso : goal.returns-clause-iso
unfolding iso_table iso_operators
returns-clause-iso c =
    rw (
      c.in_ok-add_arithmetic_operators.ensures,
      c.in_ok-add_comparison_operators.ensures,
      c.in_ok-add_control_operators.ensures,
      c.in_ok-add_clause_operators.ensures,
      c.new-table.ensures,
    ) refl

pub invariant_of-result : goal.invariant_of-result
invariant_of-result c = subst IsTable (sym (returns-clause-iso c)) IsTable-iso

pub returns-clause-table : goal.returns-clause-table
returns-clause-table c = subst IsTable (sym (returns-clause-iso c)) IsTable-iso
