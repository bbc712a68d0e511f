use Rattle.std.proofs.Common.{◌≡◌, List, take, filter, nat_lt, sym, ap, ◌∙◌, subst}
use Rattle.op_frames.specs.declared.boxes.BoxFrame.{BoxFrame}
use Rattle.op_frames.specs.Frames.{Framed, open_from}
use Rattle.op_frames.proofs.Chains.{chain-dropped}
use Rattle.op_frames.proofs.frames.Frames.drop_boxes.Goals as goal

pub returns-clause-stays : goal.returns-clause-stays
returns-clause-stays g c =
    λ n less.
    let front : filter (λ (b : BoxFrame). nat_lt b.number c.args.from) c.self.inside.boxes.items
    ≡ take c.count_below-kept.result c.self.inside.boxes.items =
    subst (λ (B : List BoxFrame). filter (λ (b : BoxFrame). nat_lt b.number c.args.from) B ≡ take c.count_below-kept.result B)
    c.deref.ensures.value c.count_below-kept.ensures.first in
    ap (λ (B : List BoxFrame). open_from B n) (c.truncate.ensures.items ∙ sym front)
    ∙ (chain-dropped c.self.inside.boxes.items c.args.from n c.self.invariant.0 less
    ∙ ap (λ (x : Framed _). open_from x.boxes n) c.self.view_is)
