use Rattle.std.proofs.Common.{Ok, Err, sym, ap, subst}
use Rattle.op_bind.specs.State.{State}
use Rattle.op_term.specs.Places.{term_at}
use Rattle.op_term.specs.declared.walk.WalkFault.TheVariants.{Spent}
use Rattle.op_inspect.specs.declared.outcome.Outcome.TheVariants.{Yes, No, Throw}
use Rattle.op_inspect.specs.Inspected.{act_on_terms}
use Rattle.op_machine.specs.declared.core_state.Core.{Core}
use Rattle.op_machine.specs.declared.core_state.Step.TheVariants as step
use Rattle.op_machine.specs.Meaning.{goal_now, bindings_now, world_in}
use Rattle.op_machine.specs.inner.BuiltinKinds.{IsOnTerms}
use Rattle.op_machine.specs.inner.Invariant.{IsGood, HasGoal}
use Rattle.op_machine.specs.inner.Moves.{Proceeds, act_moved, steps_left}
use Rattle.op_machine.proofs.InspectedGoals.{asked-same, yes-good, yes-goal, yes-proceeds, no-proceeds, ball-proceeds}
use Rattle.op_machine.proofs.InspectedGoals.{spent-proceeds}
use Rattle.op_machine.proofs.core_state.Core.inspect_goal.Goals as goal

pub ask-requires-clause-good : goal.ask-requires-clause-good
ask-requires-clause-good c =
    subst (λ (b : State). IsGood (record c.args.self.now { bindings = b })) (sym c.given_out.ensures.same) c.requires.good

pub ask-requires-clause-goal : goal.ask-requires-clause-goal
ask-requires-clause-goal c =
    subst (λ (b : State). HasGoal (record c.args.self.now { bindings = b }) c.args.goal) (sym c.given_out.ensures.same) c.requires.goal

pub ask-requires-clause-builtin : goal.ask-requires-clause-builtin
ask-requires-clause-builtin c =
    subst (λ (b : State). IsOnTerms c.args.self.now.store c.args.name c.args.count (term_at b.terms c.args.goal))
    (sym c.given_out.ensures.same) c.requires.builtin

pub returns-in-Ok-No-clause-advances : goal.returns-in-Ok-No-clause-advances
returns-in-Ok-No-clause-advances c =
    let old : Core = c.args.self.now in
    let a = asked-same old c.ask.new.self c.given_out.new.bindings c.args.goal _ (Ok No) c.given_out.ensures.same
    (ap Ok c.in-Ok-No.field-0-is) c.in-Ok-No.ensures.asked in
    no-proceeds old c.ask.new.self c.args.call c.args.goal c.args.rest c.requires.good c.requires.steps c.requires.goal c.requires.there
    c.requires.called a

pub succeed-requires-clause-good : goal.succeed-requires-clause-good
succeed-requires-clause-good c =
    let old : Core = c.args.self.now in
    let a = asked-same old c.ask.new.self c.given_out.new.bindings c.args.goal _ (Ok Yes) c.given_out.ensures.same
    (ap Ok c.in-Ok-Yes.field-0-is) c.in-Ok-Yes.ensures.asked in
    yes-good old c.ask.new.self c.args.call c.args.goal c.args.rest c.requires.good c.requires.steps c.requires.goal c.requires.there
    c.requires.called a

pub succeed-requires-clause-goal : goal.succeed-requires-clause-goal
succeed-requires-clause-goal c =
    let old : Core = c.args.self.now in
    let a = asked-same old c.ask.new.self c.given_out.new.bindings c.args.goal _ (Ok Yes) c.given_out.ensures.same
    (ap Ok c.in-Ok-Yes.field-0-is) c.in-Ok-Yes.ensures.asked in
    yes-goal old c.ask.new.self c.args.call c.args.goal c.args.rest c.requires.good c.requires.steps c.requires.goal c.requires.there
    c.requires.called a

pub returns-in_ok-succeed-in-Ok-Yes-clause-advances : goal.returns-in_ok-succeed-in-Ok-Yes-clause-advances
returns-in_ok-succeed-in-Ok-Yes-clause-advances c =
    let old : Core = c.args.self.now in
    let a = asked-same old c.ask.new.self c.given_out.new.bindings c.args.goal _ (Ok Yes) c.given_out.ensures.same
    (ap Ok c.in-Ok-Yes.field-0-is) c.in-Ok-Yes.ensures.asked in
    yes-proceeds old c.ask.new.self c.args.call c.args.goal c.args.rest c.requires.good c.requires.steps c.requires.goal c.requires.there
    c.requires.called a c.succeed.new.self step.Silent c.in_ok-succeed-in-Ok-Yes.ensures.advances

pub returns-in-Ok-Throw-clause-advances : goal.returns-in-Ok-Throw-clause-advances
returns-in-Ok-Throw-clause-advances c =
    let old : Core = c.args.self.now in
    let a = asked-same old c.ask.new.self c.given_out.new.bindings c.args.goal _ (Ok (Throw c.in-Ok-Throw.ball)) c.given_out.ensures.same
    (ap Ok c.in-Ok-Throw.field-0-is) c.in-Ok-Throw.ensures.asked in
    ball-proceeds old c.ask.new.self c.args.call c.args.goal c.args.rest c.requires.good c.requires.steps c.requires.goal c.requires.there
    c.requires.called c.in-Ok-Throw.ball a

pub returns-in-Err-Spent-clause-advances : goal.returns-in-Err-Spent-clause-advances
returns-in-Err-Spent-clause-advances c =
    let old : Core = c.args.self.now in
    let a = asked-same old c.ask.new.self c.given_out.new.bindings c.args.goal _ (Err Spent) c.given_out.ensures.same
    (ap Err c.in-Err-Spent.field-0-is) c.in-Err-Spent.ensures.asked in
    subst (λ (x : Core). Proceeds old x (act_moved old
    (act_on_terms (steps_left old) (goal_now old c.args.goal) (bindings_now old) (world_in old)) c.args.call c.args.goal c.args.rest)
    step.Silent) (sym c.interrupt.ensures)
    (spent-proceeds old c.ask.new.self c.args.call c.args.goal c.args.rest c.requires.good c.requires.steps c.requires.goal
    c.requires.there c.requires.called a _ c.in_ok-before.ensures.count)
