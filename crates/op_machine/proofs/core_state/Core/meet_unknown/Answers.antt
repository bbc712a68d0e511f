use Rattle.std.proofs.Common.{sym, ap, ◌∙◌}
use Rattle.op_logic.specs.Names.{name_at}
use Rattle.op_machine.specs.declared.core_state.Core.{Core}
use Rattle.op_machine.specs.declared.core_state.Step.TheVariants as step
use Rattle.op_machine.specs.Meaning.{bindings_now, world_in}
use Rattle.op_machine.specs.inner.Moves.{steps_left}
use Rattle.op_machine.proofs.MadeTerms.{makes-good}
use Rattle.op_machine.proofs.MadeJoins.{made-there}
use Rattle.op_machine.proofs.ArgumentRuns.{made-steps, made-items, made-called}
use Rattle.op_machine.proofs.ThrownBalls.{thrown-answer}
use Rattle.op_machine.proofs.ExecutedGoals.{act-as, act-same, fails-advances, unknown-fails, unknown-throws}
use Rattle.op_trace.specs.declared.flags.Flags.{Flags}
use Rattle.op_machine.proofs.core_state.Core.meet_unknown.Goals as goal

pub throw-requires-clause-good : goal.throw-requires-clause-good
throw-requires-clause-good c =
    makes-good c.args.self.now c.make_existence_error.new.self c.in_ok-ball.ball c.requires.good c.in_ok-ball.ensures.made

pub throw-requires-clause-steps : goal.throw-requires-clause-steps
throw-requires-clause-steps c =
    made-steps c.args.self.now c.make_existence_error.new.self c.in_ok-ball.ball c.in_ok-ball.ensures.made c.requires.steps

pub throw-requires-clause-there : goal.throw-requires-clause-there
throw-requires-clause-there c =
    made-items c.args.self.now c.make_existence_error.new.self c.in_ok-ball.ball c.in_ok-ball.ensures.made c.args.rest
    c.requires.there

pub throw-requires-clause-goal : goal.throw-requires-clause-goal
throw-requires-clause-goal c =
    made-there c.args.self.now c.make_existence_error.new.self c.in_ok-ball.ball c.in_ok-ball.ensures.made c.args.goal
    c.requires.goal

pub throw-requires-clause-called : goal.throw-requires-clause-called
throw-requires-clause-called c =
    made-called c.args.self.now c.make_existence_error.new.self c.in_ok-ball.ball c.in_ok-ball.ensures.made c.args.call
    c.args.goal c.args.rest c.requires.called

pub throw-requires-clause-term : goal.throw-requires-clause-term
throw-requires-clause-term c = c.in_ok-ball.ensures.made.there

pub returns-then-flags-clause-advances : goal.returns-then-flags-clause-advances
returns-then-flags-clause-advances c =
    let old : Core = c.args.self.now in
    act-same old _ _ _ c.args.call c.args.goal c.args.rest step.Silent
    (unknown-fails (name_at old.store.names c.args.name.0) c.args.arity (steps_left old) (bindings_now old) (world_in old)
    (ap (λ (f : Flags). f.unknown_fails) (sym c.flags.ensures) ∙ c.if-flags.true))
    (fails-advances old c.args.call c.args.goal c.args.rest c.requires.good c.requires.steps)

pub returns-clause-advances : goal.returns-clause-advances
returns-clause-advances c =
    let old : Core = c.args.self.now in
    act-as old c.throw.new.self _ _ c.args.call c.args.goal c.args.rest c.throw.result
    (unknown-throws (name_at old.store.names c.args.name.0) c.args.arity (steps_left old) (bindings_now old) (world_in old)
    (ap (λ (f : Flags). f.unknown_fails) (sym c.flags.ensures) ∙ c.if-flags.false))
    (thrown-answer c.args.self.now c.make_existence_error.new.self c.throw.new.self c.in_ok-ball.ball _ c.args.call c.args.goal
    c.args.rest c.throw.result c.requires.good c.in_ok-ball.ensures.made c.requires.goal c.requires.there c.in_ok-ball.ensures.value
    c.throw.ensures.advances)
