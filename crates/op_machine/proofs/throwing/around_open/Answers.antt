use Rattle.std.proofs.Common.{sym, ◌∙◌}
use Rattle.op_machine.proofs.OpenBoxes.{lower-open}
use Rattle.op_machine.proofs.throwing.around_open.Goals as goal

pub returns-then-at-call-2-clause-no : goal.returns-then-at-call-2-clause-no
returns-then-at-call-2-clause-no c =
    sym c.up.invariant.0
    ∙ lower-open c.args.frames.now c.args.call c.up.at c.in_ok-outer.outer c.in_ok-outer.ensures.some.0 c.in_ok-outer.ensures.some.1
    c.if-at-call-2.true c.in_ok-outer.ensures.falls
