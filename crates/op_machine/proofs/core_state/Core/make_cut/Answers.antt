use Rattle.std.proofs.Common.{ap, refl}
use Rattle.op_frames.specs.Frames.{Framed}
use Rattle.op_machine.specs.declared.core_state.Core.{Core}
use Rattle.op_machine.specs.declared.choice_points.Alternative.{Alternative}
use Rattle.op_machine.proofs.CutLaws.{cut-keeps, cut_moved-choice_points, cut_moved-good}
use Rattle.op_machine.proofs.core_state.Core.make_cut.Goals as goal

pub returns-clause-choices : goal.returns-clause-choices
returns-clause-choices c =
    let old : Core = c.args.self.now in
    cut_moved-choice_points old (record old { frames = c.cut_to.new.self }) c.args.barrier c.requires.good refl
    (cut-keeps old.frames c.cut_to.new.self _ _ c.args.barrier c.cut_to.ensures c.choices.ensures c.kept_by-kept.ensures.kept)

pub returns-clause-good : goal.returns-clause-good
returns-clause-good c =
    let old : Core = c.args.self.now in
    cut_moved-good old (record old { frames = c.cut_to.new.self }) c.args.barrier c.requires.good refl
    (ap (λ (f : Framed Alternative). f.boxes) c.cut_to.ensures)
    (cut-keeps old.frames c.cut_to.new.self _ _ c.args.barrier c.cut_to.ensures c.choices.ensures c.kept_by-kept.ensures.kept)
