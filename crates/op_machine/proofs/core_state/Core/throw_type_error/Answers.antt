use Rattle.op_machine.proofs.MadeTerms.{makes-good}
use Rattle.op_machine.proofs.MadeJoins.{made-there}
use Rattle.op_machine.proofs.ArgumentRuns.{made-steps, made-items, made-called}
use Rattle.op_machine.proofs.ThrownBalls.{thrown-answer}
use Rattle.op_machine.proofs.core_state.Core.throw_type_error.Goals as goal

pub throw-requires-clause-good : goal.throw-requires-clause-good
throw-requires-clause-good c =
    makes-good c.args.self.now c.make_type_error.new.self c.in_ok-ball.ball c.requires.good c.in_ok-ball.ensures.made

pub throw-requires-clause-steps : goal.throw-requires-clause-steps
throw-requires-clause-steps c =
    made-steps c.args.self.now c.make_type_error.new.self c.in_ok-ball.ball c.in_ok-ball.ensures.made c.requires.steps

pub throw-requires-clause-there : goal.throw-requires-clause-there
throw-requires-clause-there c =
    made-items c.args.self.now c.make_type_error.new.self c.in_ok-ball.ball c.in_ok-ball.ensures.made c.args.rest
    c.requires.there

pub throw-requires-clause-goal : goal.throw-requires-clause-goal
throw-requires-clause-goal c =
    made-there c.args.self.now c.make_type_error.new.self c.in_ok-ball.ball c.in_ok-ball.ensures.made c.args.goal
    c.requires.goal

pub throw-requires-clause-called : goal.throw-requires-clause-called
throw-requires-clause-called c =
    made-called c.args.self.now c.make_type_error.new.self c.in_ok-ball.ball c.in_ok-ball.ensures.made c.args.call
    c.args.goal c.args.rest c.requires.called

pub throw-requires-clause-term : goal.throw-requires-clause-term
throw-requires-clause-term c = c.in_ok-ball.ensures.made.there

pub returns-clause-advances : goal.returns-clause-advances
returns-clause-advances c =
    thrown-answer c.args.self.now c.make_type_error.new.self c.throw.new.self c.in_ok-ball.ball _ c.args.call c.args.goal
    c.args.rest c.throw.result c.requires.good c.in_ok-ball.ensures.made c.requires.goal c.requires.there c.in_ok-ball.ensures.value
    c.throw.ensures.advances
