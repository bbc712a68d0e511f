use Rattle.std.proofs.Common.{length, refl, subst}
use Rattle.op_machine.specs.declared.choice_points.ChoiceKind.{ChoiceKind}
use Rattle.op_machine.specs.declared.core_state.Core.{Core}
use Rattle.op_machine.specs.inner.Boxes.{IsTried}
use Rattle.op_machine.specs.inner.Invariant.{IsKind, HasCalled}
use Rattle.op_machine.specs.inner.Leaving.{IsOwn}
use Rattle.op_machine.proofs.BoxLaws.{called-along}
use Rattle.op_machine.proofs.core_state.Core.reach_box.Goals as goal

pub meet_ball-requires-clause-recovery : goal.meet_ball-requires-clause-recovery
meet_ball-requires-clause-recovery c =
    let old : Core = c.args.self.now in
    subst (IsKind (length old.store.names) old.bindings.terms c.args.choice.now.kept.goal) c.in-Catch.is c.requires.frame.kind

pub meet_ball-requires-clause-called : goal.meet_ball-requires-clause-called
meet_ball-requires-clause-called c =
    let old : Core = c.args.self.now in
    let f = c.args.choice.now in
    let own = subst (IsOwn c.args.call) c.in-Catch.is c.requires.own in
    subst (λ k. HasCalled old k f.kept.goal f.rest) own
    (called-along old.frames.boxes old.frames.boxes old.continuations old.continuations f.kept.calls old.calls _ f.kept.goal
    f.rest c.requires.calls refl refl
    (subst (λ (q : ChoiceKind). IsTried old.frames.boxes f.kept.calls old.continuations q f.kept.goal f.rest) c.in-Catch.is
    c.requires.tried))
