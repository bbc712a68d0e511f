use Rattle.op_store.proofs.BodyTerms.{reverse-push}
use Rattle.op_store.proofs.bodies.body_in.push_goal.Goals as goal

pub returns : goal.returns
returns c = reverse-push c.args.stack.now.items c.args.at c.push.new.self.items c.in_ok-push.ensures.items
