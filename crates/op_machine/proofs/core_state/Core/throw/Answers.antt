use Rattle.std.proofs.Common.{ℕ, ◌-◌, Err, sym, ap, ◌∙◌, subst, arith}
use Rattle.op_bind.specs.State.{State, value_of}
use Rattle.op_machine.specs.declared.core_state.Core.{Core}
use Rattle.op_machine.specs.declared.core_state.Step.TheVariants as step
use Rattle.op_machine.specs.inner.Moves.{Advances, ball_raised}
use Rattle.op_machine.proofs.HeadUnification.{bound_on}
use Rattle.op_machine.proofs.ThrownBalls.{copied-good, copied-goal, thrown-copied, thrown-spent}
use Rattle.op_inspect.proofs.CopiedVariables.{copied-within}
use Rattle.op_machine.proofs.core_state.Core.throw.Goals as goal

pub raise-requires-clause-good : goal.raise-requires-clause-good
raise-requires-clause-good c =
    let old : Core = c.args.self.now in
    copied-good old c.copy.new.self c.args.term c.requires.good c.in-Ok.ensures.grows c.in-Ok.ensures.bindings c.requires.term
    (old.budget - c.left.result)

pub raise-requires-clause-ball : goal.raise-requires-clause-ball
raise-requires-clause-ball c =
    let old : Core = c.args.self.now in
    copied-goal old c.copy.new.self c.args.term c.requires.good c.in-Ok.ensures.grows c.in-Ok.ensures.bindings c.requires.term
    c.in-Ok.ball (old.budget - c.left.result) c.in-Ok.ensures.there c.in-Ok.ensures.value

pub raise-requires-clause-within : goal.raise-requires-clause-within
raise-requires-clause-within c =
    copied-within c.args.self.now.bindings.count (value_of c.args.self.now.bindings c.args.term) (value_of c.copy.new.self c.in-Ok.ball)
    c.copy.new.self.count c.in-Ok.ensures.free c.in-Ok.ensures.count

pub returns-in_ok-raise-in-Ok-clause-advances : goal.returns-in_ok-raise-in-Ok-clause-advances
returns-in_ok-raise-in-Ok-clause-advances c =
    let old : Core = c.args.self.now in
    let s : State = c.copy.new.self in
    let raised : Advances (bound_on old s (old.budget - c.copy.new.fuel)) c.raise.new.self
    (ball_raised (bound_on old s (old.budget - c.copy.new.fuel)) c.in-Ok.ball c.args.call) step.Silent =
    subst (λ (n : ℕ). Advances (bound_on old s (old.budget - n)) c.raise.new.self
    (ball_raised (bound_on old s (old.budget - n)) c.in-Ok.ball c.args.call) step.Silent) c.left.ensures
    c.in_ok-raise-in-Ok.ensures.advances in
    thrown-copied old s c.args.term c.requires.good c.in-Ok.ensures.grows c.in-Ok.ensures.bindings c.requires.term c.raise.new.self
    c.in-Ok.ball c.args.call c.args.goal c.args.rest c.copy.new.fuel c.requires.steps c.requires.called c.in-Ok.ensures.free
    c.in-Ok.ensures.count (sym c.new-fuel.ensures ∙ c.in-Ok.ensures.paid) raised

pub returns-in-Err-Spent-clause-advances : goal.returns-in-Err-Spent-clause-advances
returns-in-Err-Spent-clause-advances c =
    let old : Core = c.args.self.now in
    let less = c.in-Err-Spent.ensures.spent (ap Err c.in-Err-Spent.field-0-is) in
    thrown-spent old c.copy.new.self c.args.term c.args.call c.args.goal c.args.rest c.run_out.new.self c.requires.good c.requires.steps
    (omega (arith, less, c.new-fuel.ensures)) c.in-Err-Spent.ensures.err c.run_out.ensures
