use Rattle.std.proofs.Common.{◌<◌, List, All, ap, sym, ◌∙◌, subst}
use Rattle.op_logic.specs.Names.{named, HasNames}
use Rattle.op_term.specs.declared.symbols.Sym.{Sym}
use Rattle.std.proofs.lemmas.List.Elements.{All-push}
use Rattle.op_store.specs.inner.Shapes.{names_of}
use Rattle.op_store.proofs.DirectiveEntries.{before}
use Rattle.op_store.proofs.DirectiveLaws.{at-has, atoms-refused, atoms-go, atoms-end}
use Rattle.op_store.proofs.terms.atoms.atoms_at.Goals as goal

pub returns-in-None-clause-names : goal.returns-in-None-clause-names
returns-in-None-clause-names g c = λ names. sym (c.atoms.invariant.tells names
    ∙ ap (before (names_of names c.atoms.atoms.items))
    (atoms-refused (λ p. named names (g.T.Tree.term c.args.tree.now p)) c.args.places.now c.atoms.at-index c.at-item.result
    c.atoms-test.true c.at-item.is (c.in-None.ensures.name names)))

pub atoms-preserved : goal.atoms-preserved
atoms-preserved g c = record {
  tells = λ names. c.atoms.invariant.tells names
      ∙ atoms-go (λ p. named names (g.T.Tree.term c.args.tree.now p)) names c.args.places.now c.atoms.at-index c.at-item.result
      c.atoms.atoms.items c.push.new.self.items c.in-Some.name
      c.atoms-test.true c.at-item.is (c.in-Some.ensures.name names) c.in_ok-push-in-Some.ensures.items;
  there = λ n h. subst (λ (ss : List Sym). All (λ s. s.0 < n) ss) (sym c.in_ok-push-in-Some.ensures.items)
      (All-push (λ (s : Sym). s.0 < n) c.atoms.atoms.items c.in-Some.name (c.atoms.invariant.there n h)
      (c.in-Some.ensures.there n
      (at-has (λ p. HasNames n (g.T.Tree.term c.args.tree.now p)) c.args.places.now c.atoms.at-index c.at-item.result c.atoms-test.true
      c.at-item.is h)));
}

pub returns-clause-names : goal.returns-clause-names
returns-clause-names g c = λ names. sym (c.atoms.invariant.tells names
    ∙ atoms-end (λ p. named names (g.T.Tree.term c.args.tree.now p)) c.args.places.now c.atoms.at-index
    (names_of names c.atoms.atoms.items) c.atoms-test.false)
