use Rattle.op_machine.proofs.GoalArguments.{argument-goal}
use Rattle.op_machine.proofs.core_state.Core.select_if_then.Goals as goal

pub select_if_then_else-requires-clause-condition : goal.select_if_then_else-requires-clause-condition
select_if_then_else-requires-clause-condition c =
    argument-goal c.args.self.now c.args.goal 0 c.argument-condition.result c.requires.goal c.argument-condition.ensures.there
    c.argument-condition.ensures.value

pub select_if_then_else-requires-clause-then : goal.select_if_then_else-requires-clause-then
select_if_then_else-requires-clause-then c =
    argument-goal c.args.self.now c.args.goal 1 c.argument-then.result c.requires.goal c.argument-then.ensures.there
    c.argument-then.ensures.value
