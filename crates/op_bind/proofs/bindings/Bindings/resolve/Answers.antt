use Rattle.op_bind.specs.State.{value_of}
use Rattle.op_bind.proofs.bindings.Bindings.resolve.Goals as goal

pub build-requires : goal.build-requires
build-requires c = (value_of c.args.self.now c.args.r.now, c.in_ok-nodes.ensures.nodes)
