use Rattle.op_trace.proofs.WalkEquations.{visit_equations}
use Rattle.op_trace.proofs.laws.visit_equations.Goals as goal

pub returns : goal.returns
returns c = visit_equations
