use Rattle.std.proofs.Common.{ℕ, List, map, length, Option, Some, ap, sym, ◌∙◌}
use Rattle.std.proofs.lemmas.List.Elements.{All-weaker, All-same}
use Rattle.std.specs.Prelude.{option_map}
use Rattle.op_logic.specs.Names.{named, HasNames}
use Rattle.op_store.proofs.DirectiveLaws.{names-listed}
use Rattle.op_store.proofs.ProcedureLaws.{if-ok}
use Rattle.op_store.proofs.loading.operators.operator_names.Goals as goal

pub returns-in-Some-clause-names : goal.returns-in-Some-clause-names
returns-in-Some-clause-names g c =
    let names = c.args.symbols.now in
    let term = g.T.Tree.term c.args.tree.now in
    if-ok c.atoms_at.result
    (λ o q. q names ∙ sym (names-listed (named names (term c.args.at.now)) (map (λ p. named names (term p)) c.deref.result.now)
    (ap (λ (ps : List _). Some (map (λ p. named names (term p)) ps)) c.deref.ensures.value
    ∙ (sym (ap (λ (o : Option _). option_map (λ v. map (λ p. named names (term p)) v.items) o) c.in-Some.is)
    ∙ c.in_ok-items.ensures.elements))))
    c.atoms_at.ensures.names

pub returns-in-Some-clause-there : goal.returns-in-Some-clause-there
returns-in-Some-clause-there g c =
    let n : ℕ = length c.args.symbols.now in
    let term = g.T.Tree.term c.args.tree.now in
    if-ok c.atoms_at.result
    (λ o q. q n (All-same (λ p. HasNames n (term p)) c.deref.result.now c.in-Some.items.items c.deref.ensures.value
    (All-weaker (λ p. g.T.Tree.IsPlace c.args.tree.now p × HasNames n (term p)) (λ p. HasNames n (term p))
    (λ p h. h.1) c.in-Some.items.items (rw c.in-Some.is at c.in_ok-items.ensures.places))))
    c.atoms_at.ensures.there
