use Rattle.std.proofs.Common.{◌≡◌, ℕ, ◌+◌, ◌-◌, ◌<◌, length, Option, IfSome, refl, sym, ap, subst, Ok, Err, Some}
use Rattle.op_logic.specs.Term.{shift}
use Rattle.op_logic.specs.Bind.{Solved}
use Rattle.op_logic.specs.Names.{IsTable, HasNames}
use Rattle.op_logic.proofs.ShiftedTerms.{shift-names}
use Rattle.op_bind.specs.State.{State, bindings}
use Rattle.op_bind.specs.Unified.{with_variables, unified}
use Rattle.op_bind.specs.declared.places.Clause.{Clause}
use Rattle.op_bind.specs.declared.places.Ref.{Ref}
use Rattle.op_term.specs.Places.{term_at}
use Rattle.op_machine.specs.declared.core_state.Core.{Core}
use Rattle.op_machine.specs.declared.core_state.Step.TheVariants as step
use Rattle.op_machine.specs.inner.Moves.{Advances, body_entered}
use Rattle.op_machine.proofs.NamedTerms.{paid-found, paid-none, found}
use Rattle.op_machine.proofs.AdvanceLaws.{advances-from}
use Rattle.op_machine.proofs.HeadUnification.{bound_on, bound-good, bound-names, numbered_unifier, head-matches}
use Rattle.op_machine.proofs.HeadUnification.{differs-advances, head-spent-advances}
use Rattle.op_machine.proofs.core_state.Core.unify_head.Goals as goal

of-some : (o : Option Ref) (x : Ref) (P : Ref → Type 0) → o ≡ Some x → IfSome o P → P x
of-some o x P e h = subst (λ (q : Option Ref). IfSome q P) e h

-- what the call says, of the steps that are left
paid-by : (old : Core) (r : Clause) (g fuel : ℕ) (o : Option (Solved ℕ)) → fuel ≡ old.budget - old.steps
    → with_variables r.vars (unified fuel old.bindings (term_at old.bindings.terms g) (shift old.bindings.count r.head)) ≡ o
    → with_variables r.vars (numbered_unifier old r g) ≡ o
paid-by old r g fuel o f paid =
    subst (λ (n : ℕ). with_variables r.vars (unified n old.bindings (term_at old.bindings.terms g) (shift old.bindings.count r.head)) ≡ o)
    f paid

matched : (old : Core) (r : Clause) (g fuel after : ℕ) (s : State) → fuel ≡ old.budget - old.steps
    → with_variables r.vars (unified fuel old.bindings (term_at old.bindings.terms g) (shift old.bindings.count r.head))
    ≡ Some (found (bindings s) after)
    → numbered_unifier old r g ≡ Some (found (bindings s) (after + r.vars))
matched old r g fuel after s f paid = paid-found r.vars (numbered_unifier old r g) (bindings s) after
    (paid-by old r g fuel (Some (found (bindings s) after)) f paid)

pub enter_body-requires-clause-good : goal.enter_body-requires-clause-good
enter_body-requires-clause-good c =
    let old : Core = c.args.self.now in
    let s : State = c.rename.new.self in
    let m = matched old c.args.clause.now c.args.goal c.new-fuel.result c.rename.new.fuel s c.new-fuel.ensures
    (of-some c.in-Ok-Some.field-0 c.in-Ok-Some.body
    (λ _. with_variables c.args.clause.now.vars
    (unified c.new-fuel.result old.bindings (term_at old.bindings.terms c.args.goal) (shift old.bindings.count c.args.clause.now.head))
    ≡ Some (found (bindings s) c.rename.new.fuel)) c.in-Ok-Some.field-0-is c.in-Ok-Some.ensures.yes) in
    bound-good old s (old.budget - c.left.result) c.requires.good c.in-Ok-Some.ensures.grows
    (bound-names old c.args.clause.now c.args.goal _ s c.requires.good c.requires.goal c.requires.known m)

pub enter_body-requires-clause-body : goal.enter_body-requires-clause-body
enter_body-requires-clause-body c =
    let old : Core = c.args.self.now in
    let s : State = c.rename.new.self in
    let names = shift-names (length old.store.names) old.bindings.count c.args.clause.now.body c.requires.known.1.body_names in (
      of-some c.in-Ok-Some.field-0 c.in-Ok-Some.body (λ r. r < length s.terms) c.in-Ok-Some.field-0-is c.in-Ok-Some.ensures.place,
      subst (HasNames (length old.store.names)) (sym
          (of-some c.in-Ok-Some.field-0 c.in-Ok-Some.body (λ r. term_at s.terms r ≡ shift old.bindings.count c.args.clause.now.body)
          c.in-Ok-Some.field-0-is c.in-Ok-Some.ensures.value)) names,
    )

pub returns-in_ok-enter_body-in-Ok-Some-clause-advances : goal.returns-in_ok-enter_body-in-Ok-Some-clause-advances
returns-in_ok-enter_body-in-Ok-Some-clause-advances c =
    let old : Core = c.args.self.now in
    let s : State = c.rename.new.self in
    let r : Clause = c.args.clause.now in
    let table : IsTable old.store.names = c.names_law.ensures.table in
    let m = matched old c.args.clause.now c.args.goal c.new-fuel.result c.rename.new.fuel s c.new-fuel.ensures
    (of-some c.in-Ok-Some.field-0 c.in-Ok-Some.body
    (λ _. with_variables c.args.clause.now.vars
    (unified c.new-fuel.result old.bindings (term_at old.bindings.terms c.args.goal) (shift old.bindings.count c.args.clause.now.head))
    ≡ Some (found (bindings s) c.rename.new.fuel)) c.in-Ok-Some.field-0-is c.in-Ok-Some.ensures.yes) in
    let count : s.count ≡ old.bindings.count + r.vars =
    of-some c.in-Ok-Some.field-0 c.in-Ok-Some.body (λ _. s.count ≡ old.bindings.count + c.args.clause.now.vars)
    c.in-Ok-Some.field-0-is c.in-Ok-Some.ensures.count in
    let value : term_at s.terms c.in-Ok-Some.body ≡ shift old.bindings.count r.body =
    of-some c.in-Ok-Some.field-0 c.in-Ok-Some.body (λ r. term_at s.terms r ≡ shift old.bindings.count c.args.clause.now.body)
    c.in-Ok-Some.field-0-is c.in-Ok-Some.ensures.value in
    let same = head-matches old s r c.args.call c.args.goal c.in-Ok-Some.body c.args.rest c.rename.new.fuel table c.requires.steps
    c.requires.good
    c.in-Ok-Some.ensures.grows c.requires.goal c.requires.there m count value in
    let entered : Advances (bound_on old s (old.budget - c.rename.new.fuel)) c.enter_body.new.self
    (body_entered (bound_on old s (old.budget - c.rename.new.fuel)) c.in-Ok-Some.body c.args.call c.args.goal c.args.rest)
    step.Silent =
    subst (λ (n : ℕ). Advances (bound_on old s (old.budget - n)) c.enter_body.new.self
    (body_entered (bound_on old s (old.budget - n)) c.in-Ok-Some.body c.args.call c.args.goal c.args.rest) step.Silent)
    c.left.ensures c.in_ok-enter_body-in-Ok-Some.ensures.advances in
    advances-from old (bound_on old s (old.budget - c.rename.new.fuel)) c.enter_body.new.self _ _ step.Silent refl refl refl refl (sym same)
    entered

pub returns-in-Ok-None-clause-advances : goal.returns-in-Ok-None-clause-advances
returns-in-Ok-None-clause-advances c =
    let old : Core = c.args.self.now in
    let r : Clause = c.args.clause.now in
    let table : IsTable old.store.names = c.names_law.ensures.table in
    let none = paid-none r.vars (numbered_unifier old r c.args.goal) c.rename.new.fuel
    (paid-by old r c.args.goal c.new-fuel.result _ c.new-fuel.ensures (c.in-Ok-None.ensures.no (ap Ok c.in-Ok-None.field-0-is))) in
    let kept : c.rename.new.self ≡ old.bindings = c.in-Ok-None.ensures.kept (ap Ok c.in-Ok-None.field-0-is) in
    differs-advances old c.rename.new.self r c.args.call c.args.goal c.args.rest c.rename.new.fuel c.left-in-Ok-None.result table
    c.requires.good none kept c.left-in-Ok-None.ensures

pub returns-in-Err-Spent-clause-advances : goal.returns-in-Err-Spent-clause-advances
returns-in-Err-Spent-clause-advances c =
    let old : Core = c.args.self.now in
    let r : Clause = c.args.clause.now in
    let table : IsTable old.store.names = c.names_law.ensures.table in
    let is = ap Err c.in-Err-Spent.field-0-is in
    let none = paid-by old r c.args.goal c.new-fuel.result _ c.new-fuel.ensures (c.in-Err-Spent.ensures.spent is) in
    let still : c.rename.new.self ≡ old.bindings = c.in-Err-Spent.ensures.still in
    head-spent-advances old c.rename.new.self r c.args.call c.args.goal c.args.rest c.run_out.new.self table c.requires.steps
    c.requires.good none still c.run_out.ensures
