use Rattle.op_machine.specs.declared.core_state.Core.{Core}
use Rattle.op_machine.proofs.BoxLaws.{first-entered}
use Rattle.op_machine.proofs.core_state.Core.forward.Goals as goal

pub perform-requires-clause-entered : goal.perform-requires-clause-entered
perform-requires-clause-entered c =
    let old : Core = c.args.self.now in
    first-entered old.frames.boxes old.calls old.continuations c.args.items c.in-Some.item c.in-Some.rest c.requires.good.boxes
    c.requires.there c.in-Some.ensures.there
