use Rattle.std.proofs.Common.{◌<◌, sym, subst, rules}
use Rattle.std.specs.List.{All}
use Rattle.op_frames.specs.declared.boxes.BoxFrame.{BoxFrame}
use Rattle.op_frames.specs.Frames.{AreRising, HaveLowerParents}
use Rattle.op_frames.proofs.Chains.{rising-push, lower-push}
use Rattle.op_frames.proofs.frames.Frames.push_box.Goals as goal

pub invariant_of-self-2 : goal.invariant_of-self-2
invariant_of-self-2 g c =
    let less : All (λ (b : BoxFrame). b.number < c.args.number) c.self.inside.boxes.items = search rules in (
      subst AreRising (sym c.in_ok-push.ensures.items) (rising-push _ _ c.self.invariant.0 less),
      subst HaveLowerParents (sym c.in_ok-push.ensures.items) (lower-push _ _ c.self.invariant.1 c.requires.below),
    )
