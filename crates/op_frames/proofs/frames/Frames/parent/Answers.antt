use Rattle.std.proofs.Common.{◌≡◌, ◌<◌, List, ◌∷◌, sym, ap, ◌∙◌, subst, arith}
use Rattle.op_frames.specs.declared.boxes.BoxFrame.{BoxFrame}
use Rattle.op_frames.specs.Frames.{Framed, open_from, AreFalling, AreRising, HaveLowerParents}
use Rattle.op_frames.proofs.Chains.{chain-parent, open-falls}
use Rattle.op_frames.proofs.frames.Frames.parent.Goals as goal

pub returns-clause-some : goal.returns-clause-some
returns-clause-some g c =
    let b : BoxFrame = c.in_ok-frame.frame in
    let D : List BoxFrame = c.deref.result.now in
    let rises : AreRising D = subst AreRising (sym c.deref.ensures.value) c.self.invariant.0 in
    let low : HaveLowerParents D = subst HaveLowerParents (sym c.deref.ensures.value) c.self.invariant.1 in
    let all : open_from D c.args.number ≡ (c.args.number, b.goal) ∷ open_from D b.parent =
    c.in_ok-frame.ensures.some
    ∙ ap (λ ps. (c.args.number, b.goal) ∷ ps)
    (sym (chain-parent D c.in_ok-frame.field-0-0 b rises low c.in_ok-frame.ensures.there c.in_ok-frame.ensures.at)) in (
      b.goal,
      subst (λ (B : List BoxFrame). open_from B c.args.number ≡ (c.args.number, b.goal) ∷ open_from B b.parent)
          (c.deref.ensures.value ∙ ap (λ (x : Framed _). x.boxes) c.self.view_is) all,
    )

pub returns-clause-below : goal.returns-clause-below
returns-clause-below g c =
    let b : BoxFrame = c.in_ok-frame.frame in
    let D : List BoxFrame = c.deref.result.now in
    let low : HaveLowerParents D = subst HaveLowerParents (sym c.deref.ensures.value) c.self.invariant.1 in
    let less = low c.in_ok-frame.field-0-0 b c.in_ok-frame.ensures.there in
    omega (
      arith,
      less,
      ap (λ (x : BoxFrame). x.parent) c.in_ok-frame.ensures.at,
      ap (λ (x : BoxFrame). x.number) c.in_ok-frame.ensures.at,
      c.in_ok-frame.ensures.number,
    )

pub returns-clause-falls : goal.returns-clause-falls
returns-clause-falls g c =
    subst (λ (B : List BoxFrame). AreFalling (open_from B c.args.number)) (ap (λ (x : Framed _). x.boxes) c.self.view_is)
    (open-falls c.self.inside.boxes.items c.args.number c.self.invariant.1)
