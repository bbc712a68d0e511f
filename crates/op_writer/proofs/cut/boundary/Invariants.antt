use Rattle.std.proofs.Common.{◌≡◌, ◌≤◌}
use Rattle.op_writer.specs.Cut.{boundary}
use Rattle.op_writer.proofs.cut.boundary.Given as goal

abbrev pub decreases-back : goal.decreases-back
decreases-back l = l.at

abbrev pub invariant-back : goal.invariant-back
invariant-back l = (l.at ≤ l.n) × (boundary l.text l.at ≡ boundary l.text l.n)
