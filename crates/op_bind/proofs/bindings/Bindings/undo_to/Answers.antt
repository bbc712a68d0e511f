use Rattle.std.proofs.Common.{◌<◌, length, arith}
use Rattle.op_bind.proofs.UndoneBindings
use Rattle.op_bind.proofs.bindings.Bindings.undo_to.Goals as goal

pub undo-preserved : goal.undo-preserved
undo-preserved c =
    let l : c.mark.inside.bound < length c.undo.self.bound = omega arith in
    UndoneBindings.undoing-more c.args.self.now c.undo.self c.unbind.new.self c.mark.inside.bound c.undo.invariant l
    c.unbind.ensures.terms c.unbind.ensures.count c.unbind.ensures.bound
