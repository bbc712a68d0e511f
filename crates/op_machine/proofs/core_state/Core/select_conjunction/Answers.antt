use Rattle.std.proofs.Common.{sym, subst}
use Rattle.op_machine.specs.declared.core_state.Core.{Core}
use Rattle.op_machine.specs.inner.Invariant.{HasGoal}
use Rattle.op_machine.proofs.GoalArguments.{argument-goal, select_conjunction-advances}
use Rattle.op_machine.proofs.core_state.Core.select_conjunction.Goals as goal

pub add-requires-clause-item : goal.add-requires-clause-item
add-requires-clause-item c =
    argument-goal c.args.self.now c.args.goal 1 c.argument-second.result c.requires.goal c.argument-second.ensures.there
    c.argument-second.ensures.value

pub add-requires-2-clause-item : goal.add-requires-2-clause-item
add-requires-2-clause-item c =
    subst (λ (x : Core). HasGoal x c.argument-first.result) (sym c.in_ok-tail.ensures.rest)
    (argument-goal c.args.self.now c.args.goal 0 c.argument-first.result c.requires.goal c.argument-first.ensures.there
    c.argument-first.ensures.value)

pub returns-clause-advances : goal.returns-clause-advances
returns-clause-advances c =
    select_conjunction-advances c.args.self.now c.add.new.self c.add-2.new.self c.args.goal c.args.barrier c.args.rest
    c.argument-first.result c.argument-second.result c.in_ok-tail.tail c.in_ok-items.items
    c.in_ok-tail.ensures.rest c.in_ok-items.ensures.rest c.argument-first.ensures.value c.argument-second.ensures.value
    c.in_ok-tail.ensures.items c.in_ok-items.ensures.items
    c.in_ok-tail.ensures.choices c.in_ok-items.ensures.choices c.in_ok-items.ensures.good c.in_ok-items.ensures.within
