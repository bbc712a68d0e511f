use Rattle.std.proofs.Common.{sym, ◌∙◌}
use Rattle.std.proofs.lemmas.Result.{IfOk-weaker}
use Rattle.op_machine.specs.declared.core_state.Core.{Core}
use Rattle.op_machine.proofs.ArgumentRuns.{unbound-part, part-runs}
use Rattle.op_machine.proofs.core_state.Core.run_part.Goals as goal

pub returns-in-Var-clause-advances : goal.returns-in-Var-clause-advances
returns-in-Var-clause-advances c =
    let old : Core = c.args.self.now in
    IfOk-weaker c.throw_instantiation_error.result _ _
    (λ s h. unbound-part old c.args.place c.args.call c.args.goal c.args.rest c.followed_argument-argument.result
    c.followed_argument-argument.ensures.value c.throw_instantiation_error.new.self s
    c.in-Var.field-0 (sym c.outline.ensures ∙ c.in-Var.is) h)
    c.throw_instantiation_error.ensures.advances

pub returns-clause-advances : goal.returns-clause-advances
returns-clause-advances c =
    let old : Core = c.args.self.now in
    IfOk-weaker c.run.result _ _
    (λ s h. part-runs old c.args.place c.args.call c.args.goal c.args.rest c.followed_argument-argument.result
    c.followed_argument-argument.ensures.value c.run.new.self s (λ v e. c.in_default.not-Var v (c.outline.ensures ∙ e)) h)
    c.run.ensures.advances
