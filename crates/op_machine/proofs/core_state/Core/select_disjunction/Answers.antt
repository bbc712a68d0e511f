use Rattle.op_machine.specs.inner.Invariant.{HasGoal}
use Rattle.op_machine.proofs.GoalArguments.{argument-goal}
use Rattle.op_machine.proofs.core_state.Core.select_disjunction.Goals as goal

pub select_if_then_else-requires-clause-condition : goal.select_if_then_else-requires-clause-condition
select_if_then_else-requires-clause-condition c =
    let first : HasGoal c.args.self.now c.argument-first.result =
    argument-goal c.args.self.now c.args.goal 0 c.argument-first.result c.requires.goal c.argument-first.ensures.there
    c.argument-first.ensures.value in
    argument-goal c.args.self.now c.argument-first.result 0 c.argument-condition.result first c.argument-condition.ensures.there
    c.argument-condition.ensures.value

pub select_if_then_else-requires-clause-then : goal.select_if_then_else-requires-clause-then
select_if_then_else-requires-clause-then c =
    let first : HasGoal c.args.self.now c.argument-first.result =
    argument-goal c.args.self.now c.args.goal 0 c.argument-first.result c.requires.goal c.argument-first.ensures.there
    c.argument-first.ensures.value in
    argument-goal c.args.self.now c.argument-first.result 1 c.argument-then.result first c.argument-then.ensures.there
    c.argument-then.ensures.value

pub select_if_then_else-requires-clause-otherwise : goal.select_if_then_else-requires-clause-otherwise
select_if_then_else-requires-clause-otherwise c =
    argument-goal c.args.self.now c.args.goal 1 c.argument-second.result c.requires.goal c.argument-second.ensures.there
    c.argument-second.ensures.value

pub select_branches-requires-clause-first : goal.select_branches-requires-clause-first
select_branches-requires-clause-first c =
    argument-goal c.args.self.now c.args.goal 0 c.argument-first.result c.requires.goal c.argument-first.ensures.there
    c.argument-first.ensures.value

pub select_branches-requires-clause-second : goal.select_branches-requires-clause-second
select_branches-requires-clause-second c =
    argument-goal c.args.self.now c.args.goal 1 c.argument-second.result c.requires.goal c.argument-second.ensures.there
    c.argument-second.ensures.value
