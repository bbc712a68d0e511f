-- What a clause's words tell over each table that has the names.
use Rattle.std.proofs.Common.{◌≡◌, ℕ, List, [], ◌++◌, None, length, take, map, ap, sym, ◌∙◌, arith, subst}
use Rattle.std.specs.Prelude.{Result, IfOk}
use Rattle.std.proofs.Math.Seq.{take-append_seam}
use Rattle.op_logic.specs.Term.{Term}
use Rattle.op_term.specs.Ops.{Table}
use Rattle.op_token.specs.declared.token.Token.{Token}
use Rattle.op_term.specs.declared.quotes.DoubleQuotes.{DoubleQuotes}
use Rattle.op_reader.specs.declared.fault.ReadFault.{ReadFault}
use Rattle.op_reader.specs.declared.fault.ReadFaultKind.TheVariants.{Unbalanced}
use Rattle.op_reader.specs.declared.term_reader.Reading.{Reading}
use Rattle.op_reader.specs.declared.read_rows.ListNames.{ListNames}
use Rattle.op_reader.specs.declared.word.Word.{Word as DeclaredWord}
use Rattle.op_reader.specs.FirstClause.{sentence, unmatched}
use Rattle.op_reader.specs.Words.{source, words_of, variables_of, named_from}
use Rattle.op_reader.specs.Roles.{levels_of}
use Rattle.op_reader.specs.Reading.{Outcome, refused_or, first_place, words_outcome, clause_outcome, sentence_outcome}
use Rattle.op_reader.specs.inner.RoleLists.{view, word_in}
use Rattle.op_reader.specs.inner.Shown.{IsLater, ShowsWords}
use Rattle.op_reader.specs.Passes.{AreListNames, Tells, HasKnownNames}
use Rattle.op_reader.proofs.ShownNodes.{kept_all, kept_kept, kept_length, name_later}
use Rattle.op_reader.proofs.MatchedBrackets.{none_outside}
use Rattle.op_reader.proofs.ReadingOutcomes.{reading_known}

list_names_later : (names more : List (List ℕ)) (k : ListNames) → take (length names) more ≡ names
    → AreListNames names k → AreListNames more k
list_names_later names more k e n =
    let longer = kept_length names more e in
    let v = view more [] in
    record {
      dot_there = let h = n.dot_there in omega arith;
      nil_there = let h = n.nil_there in omega arith;
      braces_there = let h = n.braces_there in omega arith;
      dot = name_later names _ k.dot.0 v n.dot_there n.dot e;
      nil = name_later names _ k.nil.0 v n.nil_there n.nil e;
      braces = name_later names _ k.braces.0 v n.braces_there n.braces e;
    }

module _ (ops : Table) (quotes : DoubleQuotes) (text : List ℕ) (tokens : List Token) (stop : Token) (names later : List (List ℕ))
    (terms : List (Term ℕ)) (held : List DeclaredWord)
    (variables : List (List ℕ × ℕ)) (known : ListNames) (place : ℕ) (r : Result Reading ReadFault)
    (matched : unmatched [] tokens ≡ None) (shown : ShowsWords names terms held (words_of (source ops quotes text) tokens))
    (kept : take (length names) later ≡ names)
    (lists : AreListNames later known) (met : variables ≡ named_from 0 (variables_of text [] tokens)) (first : place ≡ first_place tokens)
    (read : (table : List (List ℕ)) → AreListNames table known → (levels_of stop.from (map (word_in (view table terms)) held)).outer ≡ [] →
    Tells table r (words_outcome place variables stop.from stop.to (map (word_in (view table terms)) held))) where
  told_over : (table : List (List ℕ)) → take (length later) table ≡ later
      → Tells table r (sentence_outcome ops quotes text (sentence tokens stop))
  told_over table e =
      let v = view table terms in
      let is_later : IsLater v names terms = record { names_kept = kept_kept names later table kept e; terms_kept = kept_all terms } in
      let words : map (word_in v) held ≡ words_of (source ops quotes text) tokens = shown.shown v is_later in
      let outer = ap (λ ws. (levels_of stop.from ws).outer) words ∙ none_outside (source ops quotes text) stop.from tokens matched in
      subst (λ (o : Outcome). Tells table r o)
      (ap (λ ws. words_outcome place variables stop.from stop.to ws) words
      ∙ ap (λ ns. words_outcome place ns stop.from stop.to (words_of (source ops quotes text) tokens)) met
      ∙ ap (λ n. words_outcome n (named_from 0 (variables_of text [] tokens)) stop.from stop.to
      (words_of (source ops quotes text) tokens)) first
      ∙ sym (ap (λ o. refused_or Unbalanced o (clause_outcome (source ops quotes text) (sentence tokens stop))) matched))
      (read table (list_names_later later table known e lists) outer)

  pub clause_told : Tells later r (sentence_outcome ops quotes text (sentence tokens stop))
  clause_told = told_over later (kept_all later)

  pub clause_known : IfOk r (HasKnownNames (length later))
  clause_known =
      reading_known later r (sentence_outcome ops quotes text (sentence tokens stop)) (λ more. told_over (later ++ more)
      (take-append_seam later more)) clause_told
