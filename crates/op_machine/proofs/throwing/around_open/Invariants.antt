use Rattle.std.proofs.Common.{◌≡◌}
use Rattle.op_trace.specs.Visit.{is_open, around}
use Rattle.op_machine.specs.Meaning.{open_in}
use Rattle.op_machine.proofs.throwing.around_open.Given as goal

-- the boxes that were passed are not the one that is looked for
abbrev pub invariant-up : goal.invariant-up
invariant-up l = (is_open l.call (open_in l.frames l.at) ≡ is_open l.call (open_in l.frames l.inner)) ×
    (around l.call (open_in l.frames l.at) ≡ around l.call (open_in l.frames l.inner))

abbrev pub decreases-up : goal.decreases-up
decreases-up l = l.at
