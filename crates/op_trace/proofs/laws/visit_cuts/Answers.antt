use Rattle.op_trace.proofs.WalkBarriers.{visit_cuts}
use Rattle.op_trace.proofs.laws.visit_cuts.Goals as goal

pub returns : goal.returns
returns c = visit_cuts
