use Rattle.std.proofs.Common.{◌≡◌, take}
use Rattle.op_machine.specs.inner.Invariant.{AreValues}
use Rattle.op_machine.proofs.start.load_values.Given as goal

abbrev pub invariant-loop-i : goal.invariant-loop-i
invariant-loop-i l =
    AreValues l.bindings.terms l.values.items (take l.i l.names) × (l.bindings.bound ≡ l.fn.bindings.bound)
    × (l.bindings.count ≡ l.fn.bindings.count)
