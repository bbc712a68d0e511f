use Rattle.std.proofs.Common.{◌≤◌, refl, sym, ap, ◌∙◌, subst, arith}
use Rattle.std.proofs.lemmas.Result.{IfOk-weaker}
use Rattle.op_machine.specs.declared.core_state.Core.{Core}
use Rattle.op_machine.specs.Meaning.{level_in}
use Rattle.op_machine.specs.inner.Boxes.{IsTried}
use Rattle.op_machine.specs.inner.Invariant.{IsGood, IsFrame}
use Rattle.op_machine.proofs.InvariantLaws.{restored}
use Rattle.op_machine.proofs.LeftBoxes.{taken, thrown-frame, thrown-some, thrown-calls, thrown-good, thrown-advances, thrown-tried}
use Rattle.op_machine.proofs.LeftBoxes.{uncaught-advances}
use Rattle.op_machine.proofs.LeftBoxes.{left-cut, boxes-cut}
use Rattle.op_machine.proofs.core_state.Core.leave_box.Goals as goal

pub restore-requires-clause-earlier : goal.restore-requires-clause-earlier
restore-requires-clause-earlier c =
    let h = taken c.args.self.now c.pop_choice_point.new.self c.cut_to.new.self c.in-Some.choice c.args.inner c.next_leaving-next.result
    c.requires.good c.cut_to.ensures c.next_leaving-next.ensures.left c.next_leaving-next.ensures.begins c.in-Some.ensures.frames
    c.in-Some.ensures.rest c.in-Some.ensures.boxes in
    (thrown-frame _ _ _ _ _ _ _ h).0

pub restore-requires-clause-some : goal.restore-requires-clause-some
restore-requires-clause-some c =
    let h = taken c.args.self.now c.pop_choice_point.new.self c.cut_to.new.self c.in-Some.choice c.args.inner c.next_leaving-next.result
    c.requires.good c.cut_to.ensures c.next_leaving-next.ensures.left c.next_leaving-next.ensures.begins c.in-Some.ensures.frames
    c.in-Some.ensures.rest c.in-Some.ensures.boxes in
    thrown-some _ _ _ _ _ _ _ h

pub restore-requires-clause-calls : goal.restore-requires-clause-calls
restore-requires-clause-calls c =
    let h = taken c.args.self.now c.pop_choice_point.new.self c.cut_to.new.self c.in-Some.choice c.args.inner c.next_leaving-next.result
    c.requires.good c.cut_to.ensures c.next_leaving-next.ensures.left c.next_leaving-next.ensures.begins c.in-Some.ensures.frames
    c.in-Some.ensures.rest c.in-Some.ensures.boxes in
    omega (arith, c.requires.calls, thrown-calls _ _ _ _ _ _ _ h)

pub reach_box-requires-clause-good : goal.reach_box-requires-clause-good
reach_box-requires-clause-good c =
    let h = taken c.args.self.now c.pop_choice_point.new.self c.cut_to.new.self c.in-Some.choice c.args.inner c.next_leaving-next.result
    c.requires.good c.cut_to.ensures c.next_leaving-next.ensures.left c.next_leaving-next.ensures.begins c.in-Some.ensures.frames
    c.in-Some.ensures.rest c.in-Some.ensures.boxes in
    subst IsGood (sym c.restore.ensures.back) (thrown-good _ _ _ _ _ _ _ h c.requires.mode c.restore.ensures.stays)

pub reach_box-requires-clause-frame : goal.reach_box-requires-clause-frame
reach_box-requires-clause-frame c =
    let h = taken c.args.self.now c.pop_choice_point.new.self c.cut_to.new.self c.in-Some.choice c.args.inner c.next_leaving-next.result
    c.requires.good c.cut_to.ensures c.next_leaving-next.ensures.left c.next_leaving-next.ensures.begins c.in-Some.ensures.frames
    c.in-Some.ensures.rest c.in-Some.ensures.boxes in
    subst (λ (x : Core). IsFrame x.store (level_in x) c.in-Some.choice) (sym c.restore.ensures.back) (thrown-frame _ _ _ _ _ _ _ h).1

pub reach_box-requires-clause-own : goal.reach_box-requires-clause-own
reach_box-requires-clause-own c =
    let h = taken c.args.self.now c.pop_choice_point.new.self c.cut_to.new.self c.in-Some.choice c.args.inner c.next_leaving-next.result
    c.requires.good c.cut_to.ensures c.next_leaving-next.ensures.left c.next_leaving-next.ensures.begins c.in-Some.ensures.frames
    c.in-Some.ensures.rest c.in-Some.ensures.boxes in
    h.leaves.own

pub reach_box-requires-clause-steps : goal.reach_box-requires-clause-steps
reach_box-requires-clause-steps c =
    let h = taken c.args.self.now c.pop_choice_point.new.self c.cut_to.new.self c.in-Some.choice c.args.inner c.next_leaving-next.result
    c.requires.good c.cut_to.ensures c.next_leaving-next.ensures.left c.next_leaving-next.ensures.begins c.in-Some.ensures.frames
    c.in-Some.ensures.rest c.in-Some.ensures.boxes in
    subst (λ (x : Core). x.steps ≤ x.budget) (sym (c.restore.ensures.back ∙ ap (λ (x : Core). restored x c.in-Some.choice) h.rest))
    c.requires.steps

pub reach_box-requires-clause-calls : goal.reach_box-requires-clause-calls
reach_box-requires-clause-calls c =
    let h = taken c.args.self.now c.pop_choice_point.new.self c.cut_to.new.self c.in-Some.choice c.args.inner c.next_leaving-next.result
    c.requires.good c.cut_to.ensures c.next_leaving-next.ensures.left c.next_leaving-next.ensures.begins c.in-Some.ensures.frames
    c.in-Some.ensures.rest c.in-Some.ensures.boxes in
    subst (λ (x : Core). c.in-Some.choice.kept.calls ≤ x.calls) (sym c.restore.ensures.back)
    (thrown-tried _ _ _ _ _ _ _ h c.restore.ensures.stays).0

pub reach_box-requires-clause-tried : goal.reach_box-requires-clause-tried
reach_box-requires-clause-tried c =
    let h = taken c.args.self.now c.pop_choice_point.new.self c.cut_to.new.self c.in-Some.choice c.args.inner c.next_leaving-next.result
    c.requires.good c.cut_to.ensures c.next_leaving-next.ensures.left c.next_leaving-next.ensures.begins c.in-Some.ensures.frames
    c.in-Some.ensures.rest c.in-Some.ensures.boxes in
    let f = c.in-Some.choice in
    subst (λ (x : Core). IsTried x.frames.boxes f.kept.calls x.continuations f.kept.kind f.kept.goal f.rest) (sym c.restore.ensures.back)
    (thrown-tried _ _ _ _ _ _ _ h c.restore.ensures.stays).1

pub returns-in-Some-clause-advances : goal.returns-in-Some-clause-advances
returns-in-Some-clause-advances c =
    let h = taken c.args.self.now c.pop_choice_point.new.self c.cut_to.new.self c.in-Some.choice c.args.inner c.next_leaving-next.result
    c.requires.good c.cut_to.ensures c.next_leaving-next.ensures.left c.next_leaving-next.ensures.begins c.in-Some.ensures.frames
    c.in-Some.ensures.rest c.in-Some.ensures.boxes in
    IfOk-weaker c.reach_box.result _ _
    (λ s a. thrown-advances _ _ _ _ _ _ _ h c.restore.new.self c.reach_box.new.self s c.restore.ensures.stays c.restore.ensures.back a)
    c.reach_box.ensures.advances

pub returns-in-None-clause-advances : goal.returns-in-None-clause-advances
returns-in-None-clause-advances c =
    let old : Core = c.args.self.now in
    let popped : Core = c.pop_choice_point.new.self in
    let left = left-cut old.frames c.cut_to.new.self _ _ c.cut_to.ensures c.next_leaving-next.ensures.left in
    uncaught-advances old popped _ c.args.inner c.requires.good c.in-None.ensures.rest
    (c.in-None.ensures.boxes ∙ boxes-cut old.frames c.cut_to.new.self _ c.cut_to.ensures)
    (c.in-None.ensures.empty ∙ (sym c.in-None.ensures.frames ∙ left)) c.in-None.ensures.empty refl
