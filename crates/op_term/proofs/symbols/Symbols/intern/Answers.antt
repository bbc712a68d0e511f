use Rattle.std.proofs.Common.{◌≡◌, ℕ, List, sym, ◌∙◌, ap, subst}
use Rattle.op_logic.specs.Names.{name_at, with_name}
use Rattle.op_term.proofs.SymbolTexts.{position-texts, found-named, found-exact, bytes-fit, joined-exact, joined-table}
use Rattle.op_term.proofs.symbols.Symbols.intern.Goals as goal

pub returns-in-Some-clause-named : goal.returns-in-Some-clause-named
returns-in-Some-clause-named c =
    let name = c.args.name.now in
    let found = c.in-Some.ensures.index ∙ sym (position-texts name c.self.inside.names.keys) in
    ap (λ (s : List (List ℕ)). name_at s c.in-Some.at) (sym c.self.view_is) ∙ found-named _ name c.in-Some.at found

pub returns-in-Some-clause-exact : goal.returns-in-Some-clause-exact
returns-in-Some-clause-exact c =
    let name = c.args.name.now in
    let found = c.in-Some.ensures.index ∙ sym (position-texts name c.self.inside.names.keys) in
    subst (λ (s : List (List ℕ)). s ≡ with_name s name) c.self.view_is (sym (found-exact _ name c.in-Some.at found))

pub invariant_of-self-2 : goal.invariant_of-self-2
invariant_of-self-2 c =
    joined-table c.args.name.now c.in_ok-owned.owned c.in_ok-owned.ensures.ok c.self.inside.names.keys c.insert_full.new.self.keys
    c.in_default.ensures.found c.in_ok-at.ensures.keys c.self.invariant (bytes-fit c.args.name.now c.type_inv.name)

pub returns-clause-exact : goal.returns-clause-exact
returns-clause-exact c =
    let name = c.args.name.now in
    let e = joined-exact name c.in_ok-owned.owned c.in_ok-owned.ensures.ok c.self.inside.names.keys c.insert_full.new.self.keys
    c.in_default.ensures.found c.in_ok-at.ensures.keys in
    e ∙ ap (λ (s : List (List ℕ)). with_name s name) c.self.view_is

pub returns-clause-table : goal.returns-clause-table
returns-clause-table c =
    joined-table c.args.name.now c.in_ok-owned.owned c.in_ok-owned.ensures.ok c.self.inside.names.keys c.insert_full.new.self.keys
    c.in_default.ensures.found c.in_ok-at.ensures.keys c.self.invariant (bytes-fit c.args.name.now c.type_inv.name)
