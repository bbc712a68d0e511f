-- What is written is read again.
use Rattle.std.proofs.Common.{◌≡◌, ◌≤◌, ◌+◌, ℕ, false, List, [], ◌++◌, Option, Some, None, length, refl, sym, ◌∙◌, ap, subst, length-append}
use Rattle.std.specs.Prelude.{codes, option_and_then, Result, Ok, Err}
use Rattle.std.proofs.lemmas.List.{append-nil}
use Rattle.op_logic.specs.Term.{Term, var, int, node, Args, no_args, arg}
use Rattle.op_term.specs.Ops.{Table, IsTable}
use Rattle.op_token.specs.declared.token.TokenFaultKind.TheVariants.{NumberRange}
use Rattle.op_term.specs.declared.quotes.DoubleQuotes.{DoubleQuotes}
use Rattle.op_reader.specs.declared.fault.ReadFaultKind.TheVariants.{Token as BadToken, Unbalanced, NoOperand, Priority}
use Rattle.op_reader.specs.declared.row_kind.RowKind.TheVariants.{Clause}
use Rattle.op_reader.specs.FirstClause.{unmatched}
use Rattle.op_reader.specs.Row.{Member, tree}
use Rattle.op_reader.specs.Roles.{Levels, none, Rows, done, an_operand, roles, clause_roles}
use Rattle.op_reader.specs.Terms.{known, ReadRows, read_rows, term_of, excess_in}
use Rattle.op_reader.specs.Reading.{Outcome, term, refused, refused_or, first_place, rows_outcome, words_outcome}
use Rattle.op_writer.specs.declared.style.Style.{Style}
use Rattle.op_writer.specs.declared.style.Style.TheVariants.{Quoted, Canonical}
use Rattle.op_writer.specs.declared.bound.Bound.TheVariants.{Whole}
use Rattle.op_writer.specs.declared.edge.Edge.TheVariants.{Other}
use Rattle.op_writer.specs.Text.{within, text_of}
use Rattle.op_readback.proofs.Lexemes.{Lexeme, lexemes_of, IsWritten, AreWritten}
use Rattle.op_readback.specs.Rows.{row_of}
use Rattle.op_readback.specs.ReadBack.{IsClosed, AreClosed, HasNoLetter, HaveNoLetter, IsReadBack}
use Rattle.op_readback.proofs.LetterTerms.{no-letter-of}
use Rattle.op_readback.proofs.LexemeTokens.{Known, tokens}
use Rattle.op_readback.proofs.KnownWords.{firsts, k_words}
use Rattle.op_readback.proofs.ReadingOutcomes.{known_outcome, quoted-reads, canonical-reads}
use Rattle.op_readback.proofs.FirstWords.{follow-end}
use Rattle.op_readback.proofs.OperandRoles.{read, Taken}
use Rattle.op_readback.proofs.MatchedBrackets.{matching}
use Rattle.op_readback.proofs.OperandInduction.{every}
use Rattle.op_readback.proofs.LowerPriorities.{lower-tree}

abbrev Text : Type 0
Text = List ℕ

module _ (ops : Table) (table : IsTable ops) (style : Style) where
  -- tokens that are read as one operand
  taken-outcome : (t : Term Text) (row : List (Member Text)) → tree 1200 row ≡ Some t → (n : ℕ) (ks : List Known)
      → unmatched [] (firsts ks) ≡ None → Taken ops (n + 1) Clause ks [] row
      → known_outcome ops n ks ≡ term t [] (n + 2)
  taken-outcome t row w n ks b a =
      let rs : Rows Text = a.rows done in
      let has_roles : clause_roles (n + 1) (k_words ops false ks) ≡ Ok rs =
      ap (λ (l : Levels Text). roles Clause an_operand l.inner.parts l.inner.stop) a.words ∙ a.is_roles none (n + 1) in
      let is_read : read_rows known rs ≡ Some (read row [] None) = a.is_read done
      ∙ ap (λ (xs : List (Member Text)). Some (read xs [] None)) (append-nil row) in
      let has_term : term_of known rs ≡ Some t = ap (option_and_then (λ (r : ReadRows Text). tree 1200 r.row)) is_read ∙ w in
      let place = first_place (firsts ks) in
      ap (λ (x : Option ℕ). refused_or Unbalanced x (words_outcome place [] (n + 1) (n + 2) (k_words ops false ks))) b
      ∙ (ap (λ (x : Result (Rows Text) ℕ). elim x as (λ _. Outcome) [
        | Err at ↦ refused at NoOperand
        | Ok rows ↦ rows_outcome place [] (n + 2) rows
      ]) has_roles
      ∙ (ap (λ (x : Option (Term Text)). elim x as (λ _. Outcome) [
        | None ↦ refused place Priority
        | Some t ↦ refused_or (BadToken NumberRange) (excess_in rs) (term t [] (n + 2))
      ]) has_term
      ∙ ap (λ (x : Option ℕ). refused_or (BadToken NumberRange) x (term t [] (n + 2))) (a.is_excess done)))

  lexemes-outcome : (t : Term Text) → IsWritten style t → (p : ℕ) → p ≤ 1200 → (n : ℕ)
      → known_outcome ops n (tokens 0 Other false (lexemes_of ops style t (within (Whole p)))) ≡ term t [] (n + 2)
  lexemes-outcome t h p l n =
      let ms = lexemes_of ops style t (within (Whole p)) in
      let row = row_of ops style t (Whole p) in
      let d = every ops table (n + 1) style t h in
      taken-outcome t row (lower-tree ops table style t p l) n (tokens 0 Other false ms) (matching ops style t h (Whole p) 0 Other false)
      (subst (λ (xs : List Lexeme). Taken ops (n + 1) Clause (tokens 0 Other false xs) [] row) (append-nil ms)
      (d.reads (Whole p) Clause tt [] (λ at e. follow-end ops (Whole p)) 0 Other false))

  clause-end : (xs : Text) (t : Term Text) → term t [] (length xs + 2) ≡ term t [] (length (xs ++ codes " ."))
  clause-end xs t = ap (λ (n : ℕ). term t [] n) (sym (length-append xs (codes " .")))

mutual
  quoted-written : (t : Term Text) → IsClosed t → HasNoLetter t → IsWritten Quoted t
  quoted-written (var v) h g = h
  quoted-written (int i) h g = h
  quoted-written (node f ts) h g = (h.0, no-letter-of f ts g.0, all-quoted ts h.1 g.1)

  all-quoted : (ts : Args Text) → AreClosed ts → HaveNoLetter ts → AreWritten Quoted ts
  all-quoted no_args h g = tt
  all-quoted (arg t ts) h g = (quoted-written t h.0 g.0, all-quoted ts h.1 g.1)

mutual
  canonical-written : (t : Term Text) → IsClosed t → IsWritten Canonical t
  canonical-written (var v) h = h
  canonical-written (int i) h = h
  canonical-written (node f ts) h = (h.0, refl, all-canonical ts h.1)

  all-canonical : (ts : Args Text) → AreClosed ts → AreWritten Canonical ts
  all-canonical no_args h = tt
  all-canonical (arg t ts) h = (canonical-written t h.0, all-canonical ts h.1)

pub quoted-is-read-back : (ops : Table) → IsTable ops → (quotes : DoubleQuotes) (t : Term Text) (priority : ℕ) → IsClosed t
    → HasNoLetter t → priority ≤ 1200 → IsReadBack ops quotes Quoted t priority
quoted-is-read-back ops table quotes t p h g l =
    let w = quoted-written t h g in
    let text = text_of ops Quoted t p in
    quoted-reads ops quotes t w p ∙ (lexemes-outcome ops table Quoted t w p l (length text) ∙ clause-end ops table Quoted text t)

pub canonical-is-read-back : (ops : Table) → IsTable ops → (quotes : DoubleQuotes) (t : Term Text) (priority : ℕ) → IsClosed t
    → priority ≤ 1200 → IsReadBack ops quotes Canonical t priority
canonical-is-read-back ops table quotes t p h l =
    let w = canonical-written t h in
    let text = text_of ops Canonical t p in
    canonical-reads ops quotes t w p ∙ (lexemes-outcome ops table Canonical t w p l (length text) ∙ clause-end ops table Canonical text t)
