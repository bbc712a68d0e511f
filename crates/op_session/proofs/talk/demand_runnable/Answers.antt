use Rattle.op_session.proofs.GoingOn.{runnable_goes, unrunnable_ends}
use Rattle.op_session.proofs.talk.demand_runnable.Goals as goal

pub returns-then-runnable : goal.returns-then-runnable
returns-then-runnable g c = λ o. runnable_goes c.args.runnable o c.args.name.now _ c.if-runnable.true

pub returns : goal.returns
returns g c = λ o n. rw c.ended_as.ensures
    (unrunnable_ends c.args.runnable o c.args.name.now _ _ c.say_load.result c.if-runnable.false c.say_load.ensures n)
