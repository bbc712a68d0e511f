use Rattle.op_machine.proofs.ThrownBalls.{raised-advances}
use Rattle.op_machine.proofs.core_state.Core.raise.Goals as goal

pub returns-in-Ok-clause-advances : goal.returns-in-Ok-clause-advances
returns-in-Ok-clause-advances c =
    raised-advances c.args.self.now c.args.ball c.args.call c.in-Ok.ball c.requires.good c.requires.ball c.requires.within
    c.in-Ok.ensures.value
