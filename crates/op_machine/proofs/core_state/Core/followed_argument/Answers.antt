use Rattle.op_machine.proofs.FollowedArguments.{followed-there, followed-value}
use Rattle.op_machine.proofs.core_state.Core.followed_argument.Goals as goal

pub returns-clause-there : goal.returns-clause-there
returns-clause-there c =
    followed-there c.args.self.now c.args.goal c.argument.result c.followed.result c.args.place c.requires.goal c.argument.ensures.value
    c.followed.ensures.value c.requires.bound c.argument.ensures.there c.followed.ensures.there

pub returns-clause-value : goal.returns-clause-value
returns-clause-value c =
    followed-value c.args.self.now c.args.goal c.argument.result c.followed.result c.args.place c.requires.goal c.argument.ensures.value
    c.followed.ensures.value c.requires.argument
