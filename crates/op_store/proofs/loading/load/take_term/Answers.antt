use Rattle.std.proofs.Common.{◌≡◌, ◌<◌, ℕ, List, length, All, Result, ap, ◌∙◌, subst}
use Rattle.op_logic.specs.Names.{named, HasNames}
use Rattle.op_logic.specs.Term.{Term}
use Rattle.op_term.specs.Places.{term_at}
use Rattle.op_trace.specs.Database.{Text}
use Rattle.op_store.specs.Clauses.{clause, sentence_of}
use Rattle.op_store.specs.Fault.{Fault}
use Rattle.op_store.specs.inner.Parts.{body_text}
use Rattle.op_store.specs.inner.Shapes.{sentence_places}
use Rattle.op_store.specs.Stored.{Stored, database_of}
use Rattle.op_store.specs.inner.Told.{TellsTerm}
use Rattle.op_trace.specs.Database.{Database}
use Rattle.op_store.specs.declared.loading.sentence.Sentence.TheVariants.{Clause}
use Rattle.op_store.proofs.LoadLaws.{clause-read}
use Rattle.op_store.proofs.loading.load.take_term.Goals as goal

pub returns-in-Clause-clause-tells : goal.returns-in-Clause-clause-tells
returns-in-Clause-clause-tells c =
    let old : Stored = c.args.store.now in
    let w = c.new-whole.result in
    let tree : ℕ → Term ℕ = term_at w.terms in
    let syms : List Text = c.symbols.result.now in
    let root : tree c.root.result ≡ c.args.term.now = ap (term_at w.terms) c.root.ensures.root ∙ c.new-whole.ensures.value in
    let said : clause (named syms (tree c.in-Clause.head)) (body_text (λ p. named syms (tree p)) c.in-Clause.body)
    ≡ sentence_of (named syms (tree c.root.result)) = c.in-Clause.ensures.sentence in
    let known : All (λ p. (p < length w.terms) × HasNames (length syms) (tree p))
    (sentence_places (Clause c.in-Clause.head c.in-Clause.body)) = c.in-Clause.ensures.places in
    subst (λ (r : Result Database Fault). TellsTerm c.add_clause.new.self c.add_clause.result r)
    (clause-read tree (λ p. p < length w.terms) old.locked
    (database_of old) old.names c.add_clause.new.self.names syms c.args.term.now c.root.result c.in-Clause.head c.in-Clause.body
    c.symbols.ensures.names root c.add_clause.ensures.names c.requires known said)
    c.add_clause.ensures.tells
