use Rattle.std.proofs.Common.{◌≡◌, take}
use Rattle.op_bind.proofs.bindings.Bindings.compound.Given as goal

abbrev pub invariant-loop-r : goal.invariant-loop-r
invariant-loop-r l = l.parts.items ≡ take l.r-index l.args
