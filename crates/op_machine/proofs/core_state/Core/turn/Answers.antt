use Rattle.std.proofs.Common.{subst}
use Rattle.op_machine.specs.declared.core_state.Step.{Step}
use Rattle.op_machine.specs.declared.core_state.Step.TheVariants as step
use Rattle.op_machine.specs.inner.Moves.{Proceeds}
use Rattle.op_machine.proofs.TurnLaws.{sound-fits, moved_from, ended-at, walked-on, event-on, solution-on, lighter-on}
use Rattle.op_machine.proofs.core_state.Core.turn.Goals as goal

pub returns-in-Over-clause-turned : goal.returns-in-Over-clause-turned
returns-in-Over-clause-turned c =
    ended-at c.args.self.now c.loop-self.self c.in-Over.outcome c.in_ok-ending.field-0 c.loop-self.invariant c.in-Over.is
    c.in_ok-ending.ensures.ending c.in_ok-ending.ensures.names

pub loop-self-smaller : goal.loop-self-smaller
loop-self-smaller c =
    lighter-on c.loop-self.self c.advance.new.self c.loop-self.invariant.follows.sound c.in_default.not-Over
    (subst (λ (s : Step). Proceeds c.loop-self.self c.advance.new.self (moved_from c.loop-self.self) s)
    c.in-Silent.is c.in_ok-advance.ensures.advances)

pub loop-self-preserved : goal.loop-self-preserved
loop-self-preserved c =
    walked-on c.args.self.now c.loop-self.self c.advance.new.self c.loop-self.invariant
    (subst (λ (s : Step). Proceeds c.loop-self.self c.advance.new.self (moved_from c.loop-self.self) s)
    c.in-Silent.is c.in_ok-advance.ensures.advances)

pub returns-in-Event-clause-turned : goal.returns-in-Event-clause-turned
returns-in-Event-clause-turned c =
    let a : Proceeds c.loop-self.self c.advance.new.self (moved_from c.loop-self.self) step.Event =
    subst (λ (s : Step). Proceeds c.loop-self.self c.advance.new.self (moved_from c.loop-self.self) s)
    c.in-Event.is c.in_ok-advance.ensures.advances in
    (event-on c.args.self.now c.loop-self.self c.advance.new.self c.loop-self.invariant a, a.looked)

pub returns-in-Solution-clause-turned : goal.returns-in-Solution-clause-turned
returns-in-Solution-clause-turned c =
    solution-on c.args.self.now c.loop-self.self c.advance.new.self c.loop-self.invariant
    (subst (λ (s : Step). Proceeds c.loop-self.self c.advance.new.self (moved_from c.loop-self.self) s)
    c.in-Solution.is c.in_ok-advance.ensures.advances)

pub advance-requires-clause-fits : goal.advance-requires-clause-fits
advance-requires-clause-fits c = sound-fits c.loop-self.self c.loop-self.invariant.follows.sound
