use Rattle.std.proofs.Common.{ℕ, ◌+◌, ◌≤◌, refl, sym, subst, arith}
use Rattle.op_frames.specs.Frames.{Framed}
use Rattle.op_frames.specs.declared.boxes.BoxFrame.{BoxFrame}
use Rattle.op_machine.specs.declared.choice_points.Alternative.{Alternative}
use Rattle.op_machine.specs.declared.core_state.Core.{Core}
use Rattle.op_machine.specs.inner.Invariant.{IsGood}
use Rattle.op_machine.specs.inner.Boxes.{IsCalled}
use Rattle.op_machine.proofs.BoxLaws.{pushed-called}
use Rattle.op_machine.proofs.InvariantLaws.{called-good}
use Rattle.op_machine.proofs.core_state.Core.call_box.Goals as goal

pub push_box-requires : goal.push_box-requires
push_box-requires c =
    let inner : c.parent-parent.result ≤ c.args.self.now.calls =
    subst (λ (x : ℕ). x ≤ c.args.self.now.calls) (sym c.parent-parent.ensures)
    (c.requires.good.boxes.given c.args.rest c.requires.there) in
    record { rises = λ i d h. omega (arith, c.requires.good.boxes.numbers i d h); below = omega (arith, inner) }

pub returns-clause-called : goal.returns-clause-called
returns-clause-called c =
    let old : Core = c.args.self.now in
    let b : BoxFrame = record { number = old.calls + 1; parent = c.parent-parent.result; goal = c.args.goal; mark = c.mark-mark.result } in
    subst (λ (x : Framed Alternative). IsCalled x.boxes (old.calls + 1) old.continuations (old.calls + 1) c.args.goal c.args.rest)
    (sym c.in_ok-push_box.ensures.ok)
    (pushed-called old.frames.boxes old.calls old.continuations b c.args.rest refl c.parent-parent.ensures c.requires.there
    c.requires.good.boxes)

pub returns-clause-good : goal.returns-clause-good
returns-clause-good c =
    let old : Core = c.args.self.now in
    let b : BoxFrame = record { number = old.calls + 1; parent = c.parent-parent.result; goal = c.args.goal; mark = c.mark-mark.result } in
    subst (λ (x : Framed Alternative). IsGood (record old { calls = old.calls + 1; frames = x })) (sym c.in_ok-push_box.ensures.ok)
    (called-good old b c.requires.good refl)
