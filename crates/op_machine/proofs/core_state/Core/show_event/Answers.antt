use Rattle.op_machine.proofs.EventLaws.{event-shown}
use Rattle.op_machine.proofs.core_state.Core.show_event.Goals as goal

pub returns-clause-seen : goal.returns-clause-seen
returns-clause-seen c =
    event-shown c.args.self.now c.args.port c.args.call c.args.goal c.args.rest c.parent.result c.depth.result c.parent.ensures
    c.depth.ensures.count
