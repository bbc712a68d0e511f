use Rattle.std.proofs.Common.{sym, ◌∙◌}
use Rattle.std.proofs.lemmas.Result.{IfOk-weaker}
use Rattle.op_machine.specs.declared.core_state.Core.{Core}
use Rattle.op_machine.proofs.MadeTerms.{makes-good}
use Rattle.op_machine.proofs.MadeJoins.{made-there}
use Rattle.op_machine.proofs.ArgumentRuns.{made-steps, made-items, made-called, unbound-thrown, goal-runs}
use Rattle.op_machine.proofs.core_state.Core.run_argument.Goals as goal

pub run-requires-clause-good : goal.run-requires-clause-good
run-requires-clause-good c =
    makes-good c.args.self.now c.make_goal.new.self c.in_ok-whole.whole c.requires.good c.in_ok-whole.ensures.made

pub run-requires-clause-steps : goal.run-requires-clause-steps
run-requires-clause-steps c =
    made-steps c.args.self.now c.make_goal.new.self c.in_ok-whole.whole c.in_ok-whole.ensures.made c.requires.steps

pub run-requires-clause-there : goal.run-requires-clause-there
run-requires-clause-there c =
    made-items c.args.self.now c.make_goal.new.self c.in_ok-whole.whole c.in_ok-whole.ensures.made c.args.rest c.requires.there

pub run-requires-clause-goal : goal.run-requires-clause-goal
run-requires-clause-goal c =
    made-there c.args.self.now c.make_goal.new.self c.in_ok-whole.whole c.in_ok-whole.ensures.made c.args.goal c.requires.goal

pub run-requires-clause-called : goal.run-requires-clause-called
run-requires-clause-called c =
    made-called c.args.self.now c.make_goal.new.self c.in_ok-whole.whole c.in_ok-whole.ensures.made c.args.call c.args.goal c.args.rest
    c.requires.called

pub returns-in-Var-clause-advances : goal.returns-in-Var-clause-advances
returns-in-Var-clause-advances c =
    let old : Core = c.args.self.now in
    let new : Core = c.throw_instantiation_error.new.self in
    IfOk-weaker c.throw_instantiation_error.result _ _
    (λ s h. unbound-thrown old c.args.around c.args.call c.args.goal c.args.rest c.first_argument-argument.result
    c.first_argument-argument.ensures.value new s c.in-Var.field-0 (sym c.outline.ensures ∙ c.in-Var.is) h)
    c.throw_instantiation_error.ensures.advances

pub returns-clause-advances : goal.returns-clause-advances
returns-clause-advances c =
    let old : Core = c.args.self.now in
    let mid : Core = c.make_goal.new.self in
    let new : Core = c.run.new.self in
    IfOk-weaker c.run.result _ _
    (λ s h. goal-runs old c.args.around c.args.call c.args.goal c.args.rest c.first_argument-argument.result
    c.first_argument-argument.ensures.value mid new c.in_ok-whole.whole s c.requires.good c.requires.goal c.requires.there
    c.in_ok-whole.ensures.made (λ v e. c.in_default.not-Var v (c.outline.ensures ∙ e)) c.in_ok-whole.ensures.value h)
    c.run.ensures.advances
