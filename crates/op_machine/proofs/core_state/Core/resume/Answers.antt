use Rattle.std.proofs.Common.{length, refl, subst}
use Rattle.op_machine.specs.declared.choice_points.ChoiceKind.{ChoiceKind}
use Rattle.op_machine.specs.declared.core_state.Core.{Core}
use Rattle.op_machine.specs.inner.Boxes.{IsTried}
use Rattle.op_machine.specs.inner.Invariant.{IsKind}
use Rattle.op_machine.proofs.BoxLaws.{called-along}
use Rattle.op_machine.proofs.core_state.Core.resume.Goals as goal

pub try_clauses-requires-clause-known : goal.try_clauses-requires-clause-known
try_clauses-requires-clause-known c =
    let old : Core = c.args.self.now in
    (subst (IsKind (length old.store.names) old.bindings.terms c.args.choice.now.kept.goal) c.in-More.is c.requires.frame.kind).1

pub try_clauses-requires-clause-called : goal.try_clauses-requires-clause-called
try_clauses-requires-clause-called c =
    let old : Core = c.args.self.now in
    let f = c.args.choice.now in
    called-along old.frames.boxes old.frames.boxes old.continuations old.continuations f.kept.calls old.calls _ f.kept.goal
    f.rest c.requires.calls refl refl
    (subst (λ (q : ChoiceKind). IsTried old.frames.boxes f.kept.calls old.continuations q f.kept.goal f.rest) c.in-More.is c.requires.tried)
