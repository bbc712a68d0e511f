use Rattle.std.proofs.Common.{◌≡◌, ℕ, List, [], Option, Some, Ok, length, subst, sym, ap, ◌∙◌}
use Rattle.std.specs.Prelude.{option_map, IfSome}
use Rattle.op_logic.specs.Term.{Term, IsWithin}
use Rattle.op_store.specs.Counted.{variable_count}
use Rattle.op_logic.specs.Names.{named, IsTable, HasNames}
use Rattle.op_trace.specs.Database.{Text}
use Rattle.op_bind.specs.declared.places.Clause.{Clause as NumberedClause}
use Rattle.op_trace.specs.Body.{converted}
use Rattle.op_trace.specs.Database.{Database, indicator_of_term}
use Rattle.op_store.specs.Locked.{is_locked}
use Rattle.op_store.specs.Clauses.{with_parts}
use Rattle.op_store.specs.inner.Parts.{body_text, body_variables}
use Rattle.op_store.specs.NumberedProcedures.{indicator_named}
use Rattle.op_store.specs.Stored.{Stored, database_of, with_numbered_clause}
use Rattle.op_store.specs.inner.Told.{with_names}
use Rattle.op_store.proofs.AddedClauses.{locked-told, joined-told}
use Rattle.op_store.proofs.Soundness.{numbered-made, head-counted, body-counted, indicator-below}
use Rattle.op_store.proofs.ConvertedTerm.{kept-has}
use Rattle.op_store.proofs.store.Store.add_clause.Goals as goal

pub is_locked-requires : goal.is_locked-requires
is_locked-requires g c =
    let names : List Text = c.body_term.new.self.names in
    let head = g.T.Tree.term c.args.tree.now c.args.head.now in
    indicator-below (length names) head c.in-Some.pi (sym c.in-Some.ensures)
    (kept-has c.args.self.now.names names head c.body_term.ensures.names c.requires.head_names)

pub returns-then-is_locked-clause-tells : goal.returns-then-is_locked-clause-tells
returns-then-is_locked-clause-tells g c =
    let names : List Text = c.body_term.new.self.names in
    let pi = c.in-Some.pi in
    let s : Stored = c.args.self.now in
    let head = g.T.Tree.term c.args.tree.now c.args.head.now in
    let body : Some (named names c.in-Some-2.term)
    ≡ (converted [] (body_text (λ p. named names (g.T.Tree.term c.args.tree.now p)) c.args.body)).body =
    sym (ap (λ (o : Option (Term ℕ)). option_map (named names) o) c.in-Some-2.is) ∙ c.in_ok-term.ensures.body in
    let is : c.is_locked.result ≡ is_locked s.locked (indicator_named names pi) =
    c.is_locked.ensures ∙ ap (λ (x : Stored). is_locked x.locked (indicator_named names pi)) c.body_term.ensures.kept in (
      locked-told s.locked (database_of s) names pi head _ _ c.in-Some-2.term c.is_locked.result
          (sym c.in-Some.ensures) body is c.if-is_locked.true,
      indicator-below (length names) head pi (sym c.in-Some.ensures)
          (kept-has s.names names head c.body_term.ensures.names c.requires.head_names),
    )

pub add-requires : goal.add-requires
add-requires g c =
    let old : List Text = c.args.self.now.names in
    let names : List Text = c.body_term.new.self.names in
    let n : ℕ = body_variables (λ p. variable_count (g.T.Tree.term c.args.tree.now p)) c.args.head.now c.args.body in
    let r : NumberedClause =
    record { id = c.body_term.new.self.next; head = c.in_ok-head_term.head_term; body = c.in-Some-2.term; vars = c.in_ok-vars.vars } in
    numbered-made old names c.in-Some.pi r (g.T.Tree.term c.args.tree.now c.args.head.now) n c.body_term.ensures.names c.in-Some.ensures
    c.in_ok-head_term.ensures c.requires.head_names
    (subst (λ (o : Option (Term ℕ)). IfSome o (HasNames (length names))) c.in-Some-2.is c.in_ok-term.ensures.has)
    c.in_ok-vars.ensures
    (head-counted (g.T.Tree.term c.args.tree.now) c.args.head.now c.args.body)
    (subst (λ (o : Option (Term ℕ)). IfSome o (IsWithin n)) c.in-Some-2.is
    (c.in_ok-term.ensures.within n (body-counted (g.T.Tree.term c.args.tree.now) c.args.head.now c.args.body)))

pub returns-clause-tells : goal.returns-clause-tells
returns-clause-tells g c =
    let names : List Text = c.body_term.new.self.names in
    let pi = c.in-Some.pi in
    let s : Stored = c.args.self.now in
    let body : Some (named names c.in-Some-2.term)
    ≡ (converted [] (body_text (λ p. named names (g.T.Tree.term c.args.tree.now p)) c.args.body)).body =
    sym (ap (λ (o : Option (Term ℕ)). option_map (named names) o) c.in-Some-2.is) ∙ c.in_ok-term.ensures.body in
    let is : c.is_locked.result ≡ is_locked s.locked (indicator_named names pi) =
    c.is_locked.ensures ∙ ap (λ (x : Stored). is_locked x.locked (indicator_named names pi)) c.body_term.ensures.kept in
    let new : c.add.new.self ≡ with_numbered_clause (with_names s names) pi
    (record { id = s.next; head = c.in_ok-head_term.head_term; body = c.in-Some-2.term; vars = c.in_ok-vars.vars }) =
    c.in_ok-add.ensures.ok
    ∙ ap (λ (x : Stored). with_numbered_clause x pi
    (record { id = x.next; head = c.in_ok-head_term.head_term; body = c.in-Some-2.term; vars = c.in_ok-vars.vars }))
    c.body_term.ensures.kept in
    let table : IsTable names = subst (λ (x : Stored). IsTable x.names) c.self.view_is c.self.invariant.names in
    let head = g.T.Tree.term c.args.tree.now c.args.head.now in
    let n : ℕ = body_variables (λ p. variable_count (g.T.Tree.term c.args.tree.now p)) c.args.head.now c.args.body in
    let world : database_of (with_names s names) ≡ database_of s = ap database_of (sym c.body_term.ensures.kept)
    ∙ c.body_term.ensures.world in
    subst
    (λ (ns : List Text). with_parts s.locked (database_of s) (named ns head) n (indicator_of_term (named ns head))
    (converted [] (body_text (λ p. named ns (g.T.Tree.term c.args.tree.now p)) c.args.body)).body ≡ Ok (database_of c.add.new.self))
    (sym (ap (λ (x : Stored). x.names) new))
    (ap (λ (w : Database). with_parts s.locked w (named names head) n (indicator_of_term (named names head))
    (converted [] (body_text (λ p. named names (g.T.Tree.term c.args.tree.now p)) c.args.body)).body) (sym world)
    ∙ joined-told (with_names s names) c.add.new.self pi head c.in_ok-head_term.head_term c.in-Some-2.term n c.in_ok-vars.vars _
    c.is_locked.result
    table (sym c.in-Some.ensures) body is c.if-is_locked.false c.in_ok-head_term.ensures c.in_ok-vars.ensures new)
