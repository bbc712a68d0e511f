use Rattle.op_trace.proofs.FollowedBodies.{followed-bodies}
use Rattle.op_trace.proofs.laws.followed_bodies.Goals as goal

pub returns : goal.returns
returns c = followed-bodies
