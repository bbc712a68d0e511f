use Rattle.std.proofs.Common.{List, sym, subst}
use Rattle.op_frames.specs.declared.boxes.BoxFrame.{BoxFrame}
use Rattle.op_frames.specs.Frames.{open_from, AreFalling}
use Rattle.op_frames.proofs.Chains.{open-falls}
use Rattle.op_frames.proofs.frames.Frames.open_boxes.Goals as goal

pub returns-clause-falls : goal.returns-clause-falls
returns-clause-falls g c =
    subst (λ (B : List BoxFrame). AreFalling (open_from B c.args.number)) (sym c.deref.ensures.value)
    (open-falls c.self.inside.boxes.items c.args.number c.self.invariant.1)
