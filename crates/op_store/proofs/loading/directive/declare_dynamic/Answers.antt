use Rattle.std.proofs.Common.{◌≡◌, List, map, Err, ap, ◌∙◌, subst}
use Rattle.op_logic.specs.Names.{named}
use Rattle.op_logic.specs.Term.{Term}
use Rattle.op_trace.specs.Database.{Text}
use Rattle.op_store.specs.Directives.{all_dynamic, entries}
use Rattle.op_store.specs.Stored.{Stored, database_of}
use Rattle.op_store.specs.inner.Told.{TellsTerm}
use Rattle.op_store.proofs.LoadLaws.{told-same}
use Rattle.op_store.proofs.loading.directive.declare_dynamic.Goals as goal

pub returns-clause-tells : goal.returns-clause-tells
returns-clause-tells g c =
    let old : Stored = c.args.store.now in
    let mid : Stored = c.add_dynamic.new.store in
    let said : map (λ p. named old.names (g.T.Tree.term c.args.tree.now p)) c.in_ok-entries.entries.items
    ≡ entries (named old.names (g.T.Tree.term c.args.tree.now c.args.at.now)) =
    subst (λ (ns : List Text). map (λ p. named ns (g.T.Tree.term c.args.tree.now p)) c.in_ok-entries.entries.items
    ≡ entries (named ns (g.T.Tree.term c.args.tree.now c.args.at.now))) c.symbols.ensures.names c.in_ok-entries.ensures.entries in
    told-same (Unit {0}) mid c.forget_procedures.new.self c.in-Err.fault _ (ap (λ (x : Stored). x.names) c.forget_procedures.ensures)
    (subst (λ (ts : List (Term Text)). TellsTerm {U = Unit {0}} mid (Err c.in-Err.fault) (all_dynamic old.locked (database_of old) ts))
    (ap (λ (ps : List _). map (λ p. named old.names (g.T.Tree.term c.args.tree.now p)) ps) c.deref.ensures.value
    ∙ said) c.in-Err.ensures.tells)
