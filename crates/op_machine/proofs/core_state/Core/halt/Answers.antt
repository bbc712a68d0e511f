use Rattle.std.proofs.Common.{ℤ, w64, sym, subst}
use Rattle.std.proofs.lemmas.Int.{to_z-of_z}
use Rattle.op_trace.specs.Act.{Halts, done}
use Rattle.op_machine.specs.declared.core_state.Core.{Core}
use Rattle.op_machine.specs.declared.core_state.Mode.TheVariants as mode
use Rattle.op_machine.specs.declared.core_state.Outcome.TheVariants as outcome
use Rattle.op_machine.specs.declared.core_state.Step.TheVariants as step
use Rattle.op_machine.specs.Meaning.{world_in}
use Rattle.op_machine.specs.inner.Moves.{Advances, act_moved}
use Rattle.op_machine.proofs.ArgumentRuns.{halt-advances}
use Rattle.op_machine.proofs.core_state.Core.halt.Goals as goal

pub returns-clause-advances : goal.returns-clause-advances
returns-clause-advances c =
    λ k g n.
    let old : Core = c.args.self.now in
    subst (λ (i : ℤ). Advances old (record old { mode = mode.Over (outcome.Halted i) })
    (act_moved old (done (world_in old) (Halts c.args.status)) k g n) step.Silent)
    (sym (to_z-of_z w64 c.args.status c.ranges.status)) (halt-advances old c.args.status k g n c.requires.good c.requires.steps)
