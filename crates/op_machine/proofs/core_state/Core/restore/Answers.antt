use Rattle.std.proofs.Common.{◌≡◌, ℕ, ◌+◌, ◌<◌, subst}
use Rattle.op_frames.specs.Frames.{Framed, open_from}
use Rattle.op_machine.specs.declared.choice_points.Alternative.{Alternative}
use Rattle.op_machine.specs.declared.core_state.Core.{Core}
use Rattle.op_machine.proofs.core_state.Core.restore.Goals as goal

pub returns-clause-stays : goal.returns-clause-stays
returns-clause-stays c =
    let old : Core = c.args.self.now in
    subst (λ (x : Framed Alternative). (n : ℕ) → n < c.args.choice.now.kept.calls + 1 → open_from x.boxes n ≡ open_from old.frames.boxes n)
    c.drop_boxes.ensures.boxes c.drop_boxes.ensures.stays
