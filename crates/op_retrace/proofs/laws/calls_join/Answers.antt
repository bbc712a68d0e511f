use Rattle.op_retrace.proofs.WaysOn.{went-nothing, went-reset, went-on}
use Rattle.op_retrace.proofs.laws.calls_join.Goals as goal

pub returns-clause-nothing : goal.returns-clause-nothing
returns-clause-nothing c = went-nothing

pub returns-clause-reset : goal.returns-clause-reset
returns-clause-reset c = went-reset

pub returns-clause-advance : goal.returns-clause-advance
returns-clause-advance c = went-on
