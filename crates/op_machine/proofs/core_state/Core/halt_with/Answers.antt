use Rattle.std.proofs.Common.{◌≡◌, ℤ, sym, ap, ◌∙◌, arith, w64}
use Rattle.std.proofs.lemmas.Int.{to_z-of_z}
use mir.Val.{to_z, of_z}
use Rattle.op_logic.specs.Term.{Term}
use Rattle.op_term.specs.Places.{term_at}
use Rattle.op_trace.specs.Database.{Text}
use Rattle.op_trace.specs.Act.{Halts, done}
use Rattle.op_trace.specs.Builtins.{halt_with, throw, type_error}
use Rattle.op_machine.specs.declared.core_state.Core.{Core}
use Rattle.op_machine.specs.Meaning.{bindings_now, world_in, goal_now}
use Rattle.op_machine.specs.inner.Moves.{steps_left}
use Rattle.op_machine.proofs.ControlLaws.{first-name}
use Rattle.op_machine.proofs.MadeJoins.{first-there}
use Rattle.op_machine.proofs.ExecutedGoals.{act-as, act-same, halt-var, halt-int, halt-other}
use Rattle.op_machine.proofs.core_state.Core.halt_with.Goals as goal

pub returns-in-Var-clause-advances : goal.returns-in-Var-clause-advances
returns-in-Var-clause-advances c =
    let old : Core = c.args.self.now in
    act-as old c.throw_instantiation_error.new.self _ _ c.args.call c.args.goal c.args.rest c.throw_instantiation_error.result
    (halt-var old.store.names (steps_left old) (bindings_now old) (world_in old)
    (term_at old.bindings.terms c.first_argument-argument.result) _ (sym c.outline.ensures ∙ c.in-Var.is)
    ∙ ap (λ (t : Term Text). halt_with t (steps_left old) (bindings_now old) (world_in old)) c.first_argument-argument.ensures.value)
    c.throw_instantiation_error.ensures.advances

pub returns-in-Int-clause-advances : goal.returns-in-Int-clause-advances
returns-in-Int-clause-advances c =
    let old : Core = c.args.self.now in
    let same : to_z w64 (of_z w64 c.in-Int.status) ≡ c.in-Int.status = grind (arith, to_z-of_z) in
    act-same old c.halt.new.self _ _ c.args.call c.args.goal c.args.rest c.halt.result
    (ap (λ (i : ℤ). done (world_in old) (Halts i)) same
    ∙ halt-int old.store.names (steps_left old) (bindings_now old) (world_in old)
    (term_at old.bindings.terms c.first_argument-argument.result) c.in-Int.status (sym c.outline.ensures ∙ c.in-Int.is)
    ∙ ap (λ (t : Term Text). halt_with t (steps_left old) (bindings_now old) (world_in old)) c.first_argument-argument.ensures.value)
    (c.halt.ensures.advances c.args.call c.args.goal c.args.rest)

pub returns-in_default-clause-advances : goal.returns-in_default-clause-advances
returns-in_default-clause-advances c =
    let old : Core = c.args.self.now in
    let t : Term Text = goal_now old c.first_argument-argument.result in
    act-as old c.throw_type_error.new.self _ _ c.args.call c.args.goal c.args.rest c.throw_type_error.result
    (ap (λ (f : Text). throw (steps_left old) (bindings_now old) (type_error f t) (world_in old))
    (first-name old.store.names 18 c.names_law.ensures.begins (omega arith))
    ∙ (halt-other old.store.names (steps_left old) (bindings_now old) (world_in old)
    (term_at old.bindings.terms c.first_argument-argument.result) (λ v e. c.in_default.not-Var v (c.outline.ensures ∙ e))
    (λ i e. c.in_default.not-Int i (c.outline.ensures ∙ e))
    ∙ ap (λ (t : Term Text). halt_with t (steps_left old) (bindings_now old) (world_in old)) c.first_argument-argument.ensures.value))
    c.throw_type_error.ensures.advances

pub throw_type_error-requires-clause-name : goal.throw_type_error-requires-clause-name
throw_type_error-requires-clause-name c = first-there c.args.self.now.store.names 18 c.names_law.ensures.begins (omega arith)
