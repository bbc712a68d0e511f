use Rattle.std.proofs.Common.{◌≤◌, sym, ap, ◌∙◌, subst, arith}
use Rattle.op_machine.specs.declared.core_state.Core.{Core}
use Rattle.op_machine.specs.Meaning.{level_in}
use Rattle.op_machine.specs.inner.Invariant.{IsFrame, IsGood, IsMode, Fits}
use Rattle.op_machine.specs.inner.Boxes.{IsTried}
use Rattle.op_machine.proofs.StepLaws.{fits-at}
use Rattle.op_machine.proofs.InvariantLaws.{restored-good, popped-frame, popped-tried, popped-calls}
use Rattle.op_machine.proofs.core_state.Core.backward.Goals as goal

pub resume-requires-clause-good : goal.resume-requires-clause-good
resume-requires-clause-good c =
    let old : Core = c.args.self.now in
    let popped : Core = c.pop_choice_point.new.self in
    subst IsGood (sym c.restore.ensures.back)
    (restored-good old popped c.in-Some.choice c.requires.good c.in-Some.ensures.frames c.in-Some.ensures.rest
    (λ m. subst (IsMode m) (sym (ap (λ (x : Core). x.mode) c.in-Some.ensures.rest ∙ c.requires.mode)) tt)
    c.in-Some.ensures.boxes c.restore.ensures.stays)

pub resume-requires-clause-frame : goal.resume-requires-clause-frame
resume-requires-clause-frame c =
    let old : Core = c.args.self.now in
    let popped : Core = c.pop_choice_point.new.self in
    let P : Core → Type 0 = λ x. IsFrame x.store (level_in x) c.in-Some.choice in
    subst P (sym c.restore.ensures.back)
    (popped-frame old popped c.in-Some.choice c.requires.good c.in-Some.ensures.frames c.in-Some.ensures.rest).1

pub restore-requires-clause-calls : goal.restore-requires-clause-calls
restore-requires-clause-calls c =
    omega (
      arith,
      c.requires.fits.calls,
      ap (λ (x : Core). x.calls)
          c.in-Some.ensures.rest,
      popped-calls c.args.self.now c.pop_choice_point.new.self c.in-Some.choice c.requires.good
          c.in-Some.ensures.frames c.in-Some.ensures.rest c.in-Some.ensures.boxes,
    )

pub resume-requires-clause-calls : goal.resume-requires-clause-calls
resume-requires-clause-calls c =
    let P : Core → Type 0 = λ x. c.in-Some.choice.kept.calls ≤ x.calls in
    subst P (sym c.restore.ensures.back)
    (popped-calls c.args.self.now c.pop_choice_point.new.self c.in-Some.choice c.requires.good c.in-Some.ensures.frames
    c.in-Some.ensures.rest c.in-Some.ensures.boxes)

pub resume-requires-clause-tried : goal.resume-requires-clause-tried
resume-requires-clause-tried c =
    let f = c.in-Some.choice in
    let P : Core → Type 0 = λ x. IsTried x.frames.boxes f.kept.calls x.continuations f.kept.kind f.kept.goal f.rest in
    subst P (sym c.restore.ensures.back)
    (popped-tried c.args.self.now c.pop_choice_point.new.self f c.requires.good c.in-Some.ensures.frames c.in-Some.ensures.rest
    c.in-Some.ensures.boxes c.restore.ensures.stays).1

pub resume-requires-clause-fits : goal.resume-requires-clause-fits
resume-requires-clause-fits c =
    let old : Core = c.args.self.now in
    let popped : Core = c.pop_choice_point.new.self in
    let fits : Fits popped =
    subst Fits (sym c.in-Some.ensures.rest)
    (fits-at old old.steps old.bindings old.continuations popped.frames c.requires.fits c.requires.fits.steps) in
    subst Fits (sym c.restore.ensures.back) (fits-at popped popped.steps _ _ _ fits fits.steps)
