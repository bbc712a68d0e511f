use Rattle.std.proofs.Common.{◌+◌, sym, subst}
use Rattle.std.proofs.lemmas.Result.{IfOk-weaker}
use Rattle.op_machine.specs.declared.core_state.Core.{Core}
use Rattle.op_machine.specs.declared.core_state.Step.{Step}
use Rattle.op_machine.specs.Meaning.{goal_now, world_in}
use Rattle.op_machine.specs.inner.Moves.{Advances, chosen_now, goal_moved}
use Rattle.op_machine.specs.inner.Invariant.{Fits}
use Rattle.op_machine.proofs.StepLaws.{fits-at}
use Rattle.op_machine.proofs.AdvanceLaws.{chosen-paid}
use Rattle.op_machine.proofs.core_state.Core.select.Goals as goal

pub returns-clause-advances : goal.returns-clause-advances
returns-clause-advances c =
    let old : Core = c.args.self.now in
    let paid : Core = c.spend.new.self in
    let new : Core = c.execute.new.self in
    let P : Step → Type 0 = λ s. Advances paid new (chosen_now paid (goal_now paid c.args.goal) c.args.barrier c.args.rest (world_in paid))
    s in
    let Q : Step → Type 0 = λ s. Advances old new (goal_moved old (goal_now old c.args.goal) c.args.barrier c.args.rest) s in
    IfOk-weaker c.execute.result P Q
    (λ s a. chosen-paid old paid new c.args.goal c.args.rest c.args.barrier s c.if-not-spend.ensures.paid c.if-not-spend.ensures.fits a)
    c.execute.ensures.advances

pub execute-requires-clause-fits : goal.execute-requires-clause-fits
execute-requires-clause-fits c =
    let old : Core = c.args.self.now in
    subst Fits (sym c.if-not-spend.ensures.paid)
    (fits-at old (old.steps + 1) old.bindings old.continuations old.frames c.requires.fits c.if-not-spend.ensures.fits)
