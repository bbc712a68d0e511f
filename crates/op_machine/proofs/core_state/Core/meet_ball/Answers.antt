use Rattle.std.proofs.Common.{◌≡◌, ℕ, ◌-◌, ◌++◌, [], ◌∷◌, Option, Ok, Err, Some, IfOk, sym, ap, subst}
use Rattle.std.proofs.lemmas.Result.{IfOk-weaker}
use Rattle.op_logic.specs.Term.{Term}
use Rattle.op_logic.specs.Bind.{Solved}
use Rattle.op_term.specs.Places.{term_at}
use Rattle.op_bind.specs.State.{State}
use Rattle.op_bind.specs.Unified.{unified}
use Rattle.op_frames.specs.Frames.{Framed}
use Rattle.op_machine.specs.declared.choice_points.Alternative.{Alternative}
use Rattle.op_machine.specs.declared.choice_points.ChoiceKind.TheVariants as kind
use Rattle.op_machine.specs.declared.core_state.Core.{Core}
use Rattle.op_machine.specs.Meaning.{Frame}
use Rattle.op_machine.specs.inner.Invariant.{IsGood}
use Rattle.op_machine.specs.inner.Moves.{Advances, recovery_moved}
use Rattle.op_machine.proofs.CaughtBalls.{caught-good, caught-advances, differs-advances, unpaid-advances}
use Rattle.op_machine.proofs.MadeChoices.{IsMadeNow}
use Rattle.op_machine.proofs.NamedTerms.{nothing}
use Rattle.op_machine.proofs.core_state.Core.meet_ball.Goals as goal

-- what the call says, of the steps that are left
paid-by : (old : Core) (ball : Term ℕ) (a fuel : ℕ) (o : Option (Solved ℕ)) → fuel ≡ old.budget - old.steps
    → unified fuel old.bindings ball (term_at old.bindings.terms a) ≡ o
    → unified (old.budget - old.steps) old.bindings ball (term_at old.bindings.terms a) ≡ o
paid-by old ball a fuel o f paid = subst (λ (n : ℕ). unified n old.bindings ball (term_at old.bindings.terms a) ≡ o) f paid

-- a machine with a choice point more
abbrev with_frames : Core → State → ℕ → Framed Alternative → Core
with_frames old s steps x = record old { bindings = s; steps = steps; frames = x }

pub recover-requires-clause-good : goal.recover-requires-clause-good
recover-requires-clause-good c =
    let old : Core = c.args.self.now in
    let f : Frame = c.choice_now-own.result in
    let h = c.choice_now-own.ensures in
    let made : IsMadeNow old (kind.Fail c.args.call) c.args.goal c.args.rest f =
    record { mark = h.mark; good = h.good; rest = h.rest; kept = h.kept } in
    let s : State = c.unify_ball.new.terms in
    let them = paid-by old c.in-Some.ball c.argument-catcher.result c.new-fuel.result _ c.new-fuel.ensures
    (c.in-Ok-Yes.ensures.yes (ap Ok c.in-Ok-Yes.field-0-is)) in
    subst (λ (x : Framed Alternative). IsGood (with_frames old s (old.budget - c.left.result) x))
    (sym c.in_ok-push_choice-in-Ok-Yes.ensures.ok)
    (subst (λ (n : ℕ). IsGood (with_frames old s (old.budget - n) (record old.frames { choices = old.frames.choices ++ f ∷ [] })))
    (sym c.left.ensures)
    (caught-good old c.in-Some.ball c.args.call c.args.goal c.args.rest c.args.around c.argument-catcher.result c.in-Some.is
    c.argument-catcher.ensures.value c.argument-catcher.ensures.there c.requires.goal c.requires.recovery c.requires.good f made s
    c.unify_ball.new.fuel c.in-Ok-Yes.ensures.grows c.in-Ok-Yes.ensures.count them c.requires.there c.requires.called))

pub returns-in-Ok-Yes-clause-advances : goal.returns-in-Ok-Yes-clause-advances
returns-in-Ok-Yes-clause-advances c =
    let old : Core = c.args.self.now in
    let f : Frame = c.choice_now-own.result in
    let h = c.choice_now-own.ensures in
    let made : IsMadeNow old (kind.Fail c.args.call) c.args.goal c.args.rest f =
    record { mark = h.mark; good = h.good; rest = h.rest; kept = h.kept } in
    let s : State = c.unify_ball.new.terms in
    let new : Core = c.recover.new.self in
    let them = paid-by old c.in-Some.ball c.argument-catcher.result c.new-fuel.result _ c.new-fuel.ensures
    (c.in-Ok-Yes.ensures.yes (ap Ok c.in-Ok-Yes.field-0-is)) in
    let P : ℕ → Framed Alternative → Type 0 = λ n x. IfOk c.recover.result
    (Advances (with_frames old s (old.budget - n) x) new
    (recovery_moved (with_frames old s (old.budget - n) x) c.args.call c.args.goal c.args.rest)) in
    let moved : P c.unify_ball.new.fuel (record old.frames { choices = old.frames.choices ++ f ∷ [] }) =
    subst (λ (n : ℕ). P n (record old.frames { choices = old.frames.choices ++ f ∷ [] })) c.left.ensures
    (subst (P c.left.result) c.in_ok-push_choice-in-Ok-Yes.ensures.ok c.recover.ensures.advances) in
    IfOk-weaker c.recover.result _ _
    (λ e a. caught-advances old c.in-Some.ball c.args.call c.args.goal c.args.rest c.args.around c.argument-catcher.result c.in-Some.is
    c.argument-catcher.ensures.value c.argument-catcher.ensures.there c.requires.goal c.requires.recovery c.requires.good f made s
    c.unify_ball.new.fuel c.in-Ok-Yes.ensures.grows c.in-Ok-Yes.ensures.count them c.requires.there c.requires.called new e
    c.names_law.ensures.table a) moved

pub returns-in-Ok-No-clause-advances : goal.returns-in-Ok-No-clause-advances
returns-in-Ok-No-clause-advances c =
    let old : Core = c.args.self.now in
    let none = paid-by old c.in-Some.ball c.argument-catcher.result c.new-fuel.result _ c.new-fuel.ensures
    (c.in-Ok-No.ensures.no (ap Ok c.in-Ok-No.field-0-is)) in
    differs-advances old c.in-Some.ball c.args.call c.args.goal c.args.rest c.args.around c.argument-catcher.result c.in-Some.is
    c.argument-catcher.ensures.value c.argument-catcher.ensures.there c.requires.goal c.requires.recovery c.requires.good
    c.unify_ball.new.terms c.left-in-Ok-No.result c.show_and_go_up.new.self c.show_and_go_up.result c.names_law.ensures.table
    (subst (λ (n : ℕ). unified (old.budget - old.steps) old.bindings c.in-Some.ball (term_at old.bindings.terms c.argument-catcher.result)
    ≡ Some (nothing n)) (sym c.left-in-Ok-No.ensures) none)
    (c.in-Ok-No.ensures.kept (ap Ok c.in-Ok-No.field-0-is)) c.show_and_go_up.ensures.advances

pub returns-in-Err-Spent-clause-advances : goal.returns-in-Err-Spent-clause-advances
returns-in-Err-Spent-clause-advances c =
    let old : Core = c.args.self.now in
    let is = ap Err c.in-Err-Spent.field-0-is in
    let none = paid-by old c.in-Some.ball c.argument-catcher.result c.new-fuel.result _ c.new-fuel.ensures
    (c.in-Err-Spent.ensures.spent is) in
    unpaid-advances old c.in-Some.ball c.args.call c.args.goal c.args.rest c.args.around c.argument-catcher.result c.in-Some.is
    c.argument-catcher.ensures.value c.argument-catcher.ensures.there c.requires.goal c.requires.recovery c.requires.good
    c.unify_ball.new.terms c.run_out.new.self c.names_law.ensures.table none (c.in-Err-Spent.ensures.still is) c.run_out.ensures
