use Rattle.std.proofs.Common.{◌≡◌, ◌<◌, ℕ, [], length, get_or, sym, ap, ◌∙◌, subst, arith}
use Rattle.op_logic.specs.Term.{var}
use Rattle.op_logic.specs.Names.{HasNames}
use Rattle.op_logic.proofs.UnifierNames.{apply-names}
use Rattle.op_term.specs.Places.{term_at}
use Rattle.op_bind.specs.State.{value_of}
use Rattle.op_machine.specs.View.{Solving}
use Rattle.op_machine.proofs.NamedVariables.{value-at, values-length}
use Rattle.op_machine.proofs.view.SolutionView.value.Goals as goal

pub ref_at-requires : goal.ref_at-requires
ref_at-requires c =
    let i = c.self.inside in
    let same = ap (λ (v : Solving). length v.variables) c.self.view_is in
    omega (arith, c.requires, same, values-length _ i.values.now _ c.self.invariant.known)

pub returns-clause-variable : goal.returns-clause-variable
returns-clause-variable c =
    let i = c.self.inside in
    let same = ap (λ (v : Solving). length v.variables) c.self.view_is in
    let at = value-at _ i.values.now _ c.args.i c.ref_at.result c.self.invariant.known (omega (arith, c.requires, same)) in
    subst (λ (v : Solving). term_at v.state.terms c.ref_at.result ≡ var (get_or v.variables c.args.i ([], 0)).1) c.self.view_is
    (ap (term_at _) c.ref_at.ensures ∙ at.2)

pub returns-clause-there : goal.returns-clause-there
returns-clause-there c =
    let i = c.self.inside in
    let same = ap (λ (v : Solving). length v.variables) c.self.view_is in
    let at = value-at _ i.values.now _ c.args.i c.ref_at.result c.self.invariant.known (omega (arith, c.requires, same)) in
    subst (λ (v : Solving). c.ref_at.result < length v.state.terms) c.self.view_is
    (subst (λ (r : ℕ). r < length i.bindings.now.terms) (sym c.ref_at.ensures) at.1)

pub returns-clause-names : goal.returns-clause-names
returns-clause-names c =
    let i = c.self.inside in
    let same = ap (λ (v : Solving). length v.variables) c.self.view_is in
    let at = value-at _ i.values.now _ c.args.i c.ref_at.result c.self.invariant.known (omega (arith, c.requires, same)) in
    subst (λ (v : Solving). HasNames (length v.names) (value_of v.state c.ref_at.result)) c.self.view_is
    (apply-names _ _ _ c.self.invariant.bound (subst (HasNames _) (sym (ap (term_at _) c.ref_at.ensures ∙ at.2)) tt))
