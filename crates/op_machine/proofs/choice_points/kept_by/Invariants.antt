use Rattle.std.proofs.Common.{◌≡◌, ◌≤◌, length, take, reverse}
use Rattle.op_machine.specs.inner.Cuts.{keep_frames}
use Rattle.op_machine.proofs.choice_points.kept_by.Given as goal

-- the choice points behind the first n are dropped
abbrev pub invariant-loop-n : goal.invariant-loop-n
invariant-loop-n l = (l.n ≤ length l.fn.choices) ×
    (keep_frames l.fn.barrier (reverse (take l.n l.fn.choices)) ≡ keep_frames l.fn.barrier (reverse l.fn.choices))

abbrev pub decreases-loop-n : goal.decreases-loop-n
decreases-loop-n l = l.n
