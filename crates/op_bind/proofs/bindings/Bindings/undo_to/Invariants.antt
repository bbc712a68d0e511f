use Rattle.std.proofs.Common.{length}
use Rattle.op_bind.proofs.UndoneBindings
use Rattle.op_bind.proofs.bindings.Bindings.undo_to.Given as goal

abbrev pub decreases-undo : goal.decreases-undo
decreases-undo l = length l.self.bound

abbrev pub invariant-undo : goal.invariant-undo
invariant-undo l = UndoneBindings.IsUndoing l.fn.self l.self l.mark-inside.bound
