use Rattle.std.proofs.Common.{◌≡◌, ◌<◌, ℕ, ◌-◌, ◌+◌, List, length, take, Some, None, Err, option_map, sym, ap, ◌∙◌, subst, arith}
use Rattle.op_logic.specs.Names.{name_at, named, HasNames, HaveNames}
use Rattle.op_term.specs.Places.{term_at}
use Rattle.op_bind.specs.State.{State, bindings}
use Rattle.op_trace.specs.Body.{Division, term_of}
use Rattle.op_trace.specs.Database.{Text}
use Rattle.op_store.specs.Stored.{first_names}
use Rattle.op_store.specs.Divided.{divided_in}
use Rattle.op_machine.specs.declared.core_state.Core.{Core}
use Rattle.op_machine.specs.inner.Invariant.{HasGoal}
use Rattle.op_machine.proofs.HeadUnification.{bound_on}
use Rattle.op_machine.proofs.MadeTerms.{makes-good}
use Rattle.op_machine.proofs.MadeJoins.{first-there, made-there}
use Rattle.op_machine.proofs.ArgumentRuns.{made-items, made-called}
use Rattle.op_machine.proofs.ControlLaws.{first-name}
use Rattle.op_machine.proofs.ConvertedGoals.{grown-goal, grown-good, converted-advances, refused-answer, conversion-spent}
use Rattle.op_machine.proofs.core_state.Core.run.Goals as goal

pub body_in-requires-clause-names : goal.body_in-requires-clause-names
body_in-requires-clause-names c =
    let old : Core = c.args.self.now in
    subst (λ (ns : List Text). HasNames (length ns) (term_at old.bindings.terms c.args.whole)) (sym c.symbols.ensures.names)
    c.requires.whole.1

pub body_in-requires-clause-bound : goal.body_in-requires-clause-bound
body_in-requires-clause-bound c =
    let old : Core = c.args.self.now in
    subst (λ (ns : List Text). HaveNames (length ns) (bindings old.bindings)) (sym c.symbols.ensures.names) c.requires.good.level.bound

pub body_in-requires-clause-begins : goal.body_in-requires-clause-begins
body_in-requires-clause-begins c =
    subst (λ (ns : List Text). take (length first_names) ns ≡ first_names) (sym c.symbols.ensures.names) c.symbols.ensures.begins

pub make_around-requires : goal.make_around-requires
make_around-requires c =
    let old : Core = c.args.self.now in
    let s : State = c.body_in.new.bindings in (
      c.in-Ok.ensures.there,
      subst (λ (ns : List Text). HasNames (length ns) (term_at s.terms c.in-Ok.body)) c.symbols.ensures.names c.in-Ok.ensures.has,
    )

pub run_body-requires-clause-good : goal.run_body-requires-clause-good
run_body-requires-clause-good c =
    let old : Core = c.args.self.now in
    let s : State = c.body_in.new.bindings in
    let mid : Core = bound_on old s (old.budget - c.left.result) in
    let there : HasGoal mid c.in-Ok.body = (
      c.in-Ok.ensures.there,
      subst (λ (ns : List Text). HasNames (length ns) (term_at s.terms c.in-Ok.body)) c.symbols.ensures.names c.in-Ok.ensures.has,
    ) in
    makes-good mid c.make_around.new.self c.in_ok-body-in-Ok.body
    (grown-good old s (old.budget - c.left.result) c.requires.good c.in-Ok.ensures.grows c.in-Ok.ensures.bindings c.in-Ok.ensures.count
    c.in-Ok.body there) c.in_ok-body-in-Ok.ensures.made

pub run_body-requires-clause-there : goal.run_body-requires-clause-there
run_body-requires-clause-there c =
    let old : Core = c.args.self.now in
    made-items (bound_on old c.body_in.new.bindings (old.budget - c.left.result)) c.make_around.new.self c.in_ok-body-in-Ok.body
    c.in_ok-body-in-Ok.ensures.made c.args.rest c.requires.there

pub run_body-requires-clause-goal : goal.run_body-requires-clause-goal
run_body-requires-clause-goal c =
    let old : Core = c.args.self.now in
    let s : State = c.body_in.new.bindings in
    made-there (bound_on old s (old.budget - c.left.result)) c.make_around.new.self c.in_ok-body-in-Ok.body
    c.in_ok-body-in-Ok.ensures.made c.args.goal
    (grown-goal old s (old.budget - c.left.result) c.requires.good c.in-Ok.ensures.grows c.in-Ok.ensures.bindings c.in-Ok.ensures.count
    c.args.goal c.requires.goal)

pub run_body-requires-clause-body : goal.run_body-requires-clause-body
run_body-requires-clause-body c = c.in_ok-body-in-Ok.ensures.made.there

pub run_body-requires-clause-called : goal.run_body-requires-clause-called
run_body-requires-clause-called c =
    let old : Core = c.args.self.now in
    made-called (bound_on old c.body_in.new.bindings (old.budget - c.left.result)) c.make_around.new.self c.in_ok-body-in-Ok.body
    c.in_ok-body-in-Ok.ensures.made c.args.call c.args.goal c.args.rest c.requires.called

pub returns-in_ok-run_body-in-Ok-clause-advances : goal.returns-in_ok-run_body-in-Ok-clause-advances
returns-in_ok-run_body-in-Ok-clause-advances c =
    let old : Core = c.args.self.now in
    let s : State = c.body_in.new.bindings in
    let D : List Text → Division = λ ns. divided_in ns (bindings old.bindings) (term_at old.bindings.terms c.args.whole) in
    let body : option_map term_of (D old.store.names).tree ≡ Some (named old.store.names (term_at s.terms c.in-Ok.body)) =
    subst (λ (ns : List Text). option_map term_of (D ns).tree ≡ Some (named ns (term_at s.terms c.in-Ok.body))) c.symbols.ensures.names
    c.in-Ok.ensures.body in
    let paid : old.budget - old.steps ≡ c.left.result + (D old.store.names).steps =
    sym c.new-fuel.ensures ∙ (c.in-Ok.ensures.paid ∙ (ap (λ (ns : List Text). c.body_in.new.fuel + (D ns).steps) c.symbols.ensures.names
    ∙ ap (λ (n : ℕ). n + (D old.store.names).steps) (sym c.left.ensures))) in
    let there : HasGoal (bound_on old s (old.budget - c.left.result)) c.in-Ok.body = (
      c.in-Ok.ensures.there,
      subst (λ (ns : List Text). HasNames (length ns) (term_at s.terms c.in-Ok.body)) c.symbols.ensures.names c.in-Ok.ensures.has,
    ) in
    converted-advances old c.make_around.new.self c.run_body.new.self s c.args.around c.in-Ok.body c.in_ok-body-in-Ok.body
    c.args.whole c.args.call c.args.goal c.args.rest c.left.result c.requires.good c.requires.steps c.in-Ok.ensures.grows
    c.in-Ok.ensures.bindings c.in-Ok.ensures.count there c.requires.goal c.requires.there body paid c.in_ok-body-in-Ok.ensures.made
    c.in_ok-body-in-Ok.ensures.value c.in_ok-run_body-in-Ok.ensures.advances

pub throw_type_error-requires-clause-good : goal.throw_type_error-requires-clause-good
throw_type_error-requires-clause-good c =
    let old : Core = c.args.self.now in
    let s : State = c.body_in.new.bindings in
    let n : ℕ = old.budget - c.left-in-Err-NotCallable.result in
    let grows = c.in-Err-NotCallable.ensures.grows in
    let same = c.in-Err-NotCallable.ensures.bindings in
    let count = c.in-Err-NotCallable.ensures.count in
    grown-good old s n c.requires.good grows same count c.args.whole
    (grown-goal old s n c.requires.good grows same count c.args.whole c.requires.whole)

pub throw_type_error-requires-clause-goal : goal.throw_type_error-requires-clause-goal
throw_type_error-requires-clause-goal c =
    let old : Core = c.args.self.now in
    grown-goal old c.body_in.new.bindings (old.budget - c.left-in-Err-NotCallable.result) c.requires.good
    c.in-Err-NotCallable.ensures.grows c.in-Err-NotCallable.ensures.bindings c.in-Err-NotCallable.ensures.count c.args.goal c.requires.goal

pub throw_type_error-requires-clause-culprit : goal.throw_type_error-requires-clause-culprit
throw_type_error-requires-clause-culprit c =
    let old : Core = c.args.self.now in
    grown-goal old c.body_in.new.bindings (old.budget - c.left-in-Err-NotCallable.result) c.requires.good
    c.in-Err-NotCallable.ensures.grows c.in-Err-NotCallable.ensures.bindings c.in-Err-NotCallable.ensures.count c.args.whole
    c.requires.whole

pub throw_type_error-requires-clause-name : goal.throw_type_error-requires-clause-name
throw_type_error-requires-clause-name c = first-there c.args.self.now.store.names 17 c.names_law.ensures.begins (omega arith)

pub returns-in-Err-NotCallable-clause-advances : goal.returns-in-Err-NotCallable-clause-advances
returns-in-Err-NotCallable-clause-advances c =
    let old : Core = c.args.self.now in
    let s : State = c.body_in.new.bindings in
    let D : List Text → Division = λ ns. divided_in ns (bindings old.bindings) (term_at old.bindings.terms c.args.whole) in
    let is = ap Err c.in-Err-NotCallable.field-0-is in
    let none : (D old.store.names).tree ≡ None =
    subst (λ (ns : List Text). (D ns).tree ≡ None) c.symbols.ensures.names (c.in-Err-NotCallable.ensures.not_callable is) in
    let paid : old.budget - old.steps ≡ c.left-in-Err-NotCallable.result + (D old.store.names).steps =
    sym c.new-fuel.ensures ∙ (c.in-Err-NotCallable.ensures.refused is
    ∙ (ap (λ (ns : List Text). c.body_in.new.fuel + (D ns).steps) c.symbols.ensures.names
    ∙ ap (λ (n : ℕ). n + (D old.store.names).steps) (sym c.left-in-Err-NotCallable.ensures))) in
    refused-answer old c.throw_type_error.new.self s c.args.around c.args.whole c.args.call c.args.goal c.args.rest
    c.left-in-Err-NotCallable.result (name_at old.store.names 17) c.throw_type_error.result c.requires.good c.requires.steps
    c.in-Err-NotCallable.ensures.grows c.in-Err-NotCallable.ensures.bindings c.in-Err-NotCallable.ensures.count
    c.requires.whole c.requires.goal c.requires.there none paid
    (first-name old.store.names 17 c.names_law.ensures.begins (omega arith)) c.throw_type_error.ensures.advances

pub returns-in-Err-Spent-clause-advances : goal.returns-in-Err-Spent-clause-advances
returns-in-Err-Spent-clause-advances c =
    let old : Core = c.args.self.now in
    let s : State = c.body_in.new.bindings in
    let D : List Text → Division = λ ns. divided_in ns (bindings old.bindings) (term_at old.bindings.terms c.args.whole) in
    let is = ap Err c.in-Err-Spent.field-0-is in
    let short : old.budget - old.steps < (D old.store.names).steps =
    subst (λ (ns : List Text). old.budget - old.steps < (D ns).steps) c.symbols.ensures.names
    (subst (λ (n : ℕ). n < (D c.symbols.result.now).steps) c.new-fuel.ensures (c.in-Err-Spent.ensures.spent is)) in
    conversion-spent old s c.args.around c.args.whole c.args.call c.args.goal c.args.rest c.run_out.new.self c.requires.good
    c.requires.steps c.in-Err-Spent.ensures.grows c.in-Err-Spent.ensures.bindings c.in-Err-Spent.ensures.count c.requires.whole short
    c.run_out.ensures
