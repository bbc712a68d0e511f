use Rattle.std.proofs.Common.{◌≡◌, ◌≤◌, length, take, reverse}
use Rattle.op_machine.specs.Meaning.{open_in}
use Rattle.op_machine.specs.inner.Leaving.{left_frames}
use Rattle.op_machine.proofs.throwing.next_leaving.Given as goal

-- the choice points behind the first n are not left
abbrev pub invariant-loop-n : goal.invariant-loop-n
invariant-loop-n l = (l.n ≤ length l.choices) ×
    (left_frames (open_in l.frames l.inner) (reverse (take l.n l.choices))
    ≡ left_frames (open_in l.frames l.inner) (reverse l.choices))

abbrev pub decreases-loop-n : goal.decreases-loop-n
decreases-loop-n l = l.n
