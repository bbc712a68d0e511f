use Rattle.op_machine.proofs.AnswerLaws.{goes_nothing}
use Rattle.op_session.proofs.feed.next_turn.Goals as goal

pub returns-in-Ok-clause-answers : goal.returns-in-Ok-clause-answers
returns-in-Ok-clause-answers g c = goes_nothing c.in-Ok.turn c.args.machine.now c.next.new.self c.in-Ok.ensures.goes
