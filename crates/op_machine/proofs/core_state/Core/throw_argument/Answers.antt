use Rattle.std.proofs.Common.{sym, ap, ◌∙◌}
use Rattle.op_logic.specs.Term.{Term}
use Rattle.op_term.specs.Places.{term_at}
use Rattle.op_trace.specs.Database.{Text}
use Rattle.op_trace.specs.Builtins.{throw_argument}
use Rattle.op_machine.specs.declared.core_state.Core.{Core}
use Rattle.op_machine.specs.Meaning.{bindings_now, world_in}
use Rattle.op_machine.specs.inner.Moves.{steps_left}
use Rattle.op_machine.proofs.ExecutedGoals.{act-as, throw-var, throw-other}
use Rattle.op_machine.proofs.core_state.Core.throw_argument.Goals as goal

pub returns-in-Var-clause-advances : goal.returns-in-Var-clause-advances
returns-in-Var-clause-advances c =
    let old : Core = c.args.self.now in
    act-as old c.throw_instantiation_error.new.self _ _ c.args.call c.args.goal c.args.rest c.throw_instantiation_error.result
    (throw-var old.store.names (steps_left old) (bindings_now old) (world_in old)
    (term_at old.bindings.terms c.first_argument-argument.result) _ (sym c.outline.ensures ∙ c.in-Var.is)
    ∙ ap (λ (t : Term Text). throw_argument t (steps_left old) (bindings_now old) (world_in old)) c.first_argument-argument.ensures.value)
    c.throw_instantiation_error.ensures.advances

pub returns-in_default-clause-advances : goal.returns-in_default-clause-advances
returns-in_default-clause-advances c =
    let old : Core = c.args.self.now in
    act-as old c.throw.new.self _ _ c.args.call c.args.goal c.args.rest c.throw.result
    (throw-other old.store.names (steps_left old) (bindings_now old) (world_in old)
    (term_at old.bindings.terms c.first_argument-argument.result) (λ v e. c.in_default.not-Var v (c.outline.ensures ∙ e))
    ∙ ap (λ (t : Term Text). throw_argument t (steps_left old) (bindings_now old) (world_in old)) c.first_argument-argument.ensures.value)
    c.throw.ensures.advances
