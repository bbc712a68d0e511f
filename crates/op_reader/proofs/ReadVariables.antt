-- The variables of a term that is read.
use Rattle.std.proofs.Common.{◌≡◌, ℕ, List, [], ◌∷◌, Option, Some, None, length, refl, ap, sym, ◌∙◌, subst}
use Rattle.std.specs.Prelude.{Result, Ok, Err, IfOk}
use Rattle.op_logic.specs.Term.{Term}
use Rattle.op_logic.specs.Names.{name_at, named}
use Rattle.op_term.specs.Ops.{Table}
use Rattle.op_token.specs.declared.token.Token.{Token}
use Rattle.op_token.specs.declared.token.TokenFault.{TokenFault}
use Rattle.op_token.specs.declared.token.TokenFaultKind.TheVariants.{NumberRange}
use Rattle.op_token.specs.Tokens.{scan_of}
use Rattle.op_term.specs.declared.quotes.DoubleQuotes.{DoubleQuotes}
use Rattle.op_reader.specs.declared.fault.ReadFaultKind.TheVariants.{Token as BadToken, Unbalanced, NoOperand, Priority}
use Rattle.op_reader.specs.declared.fault.ReadFault.{ReadFault}
use Rattle.op_reader.specs.declared.term_reader.Reading.{Reading}
use Rattle.op_reader.specs.declared.term_reader.Reading.TheVariants.{Term as ATerm, End}
use Rattle.op_reader.specs.Passes.{Tells}
use Rattle.op_reader.specs.FirstClause.{Sentence, sentence_of, unmatched}
use Rattle.op_reader.specs.Words.{Word, source, variables_of, named_from, words_of}
use Rattle.op_reader.specs.Roles.{Rows, levels_of, clause_roles}
use Rattle.op_reader.specs.Terms.{known, term_of, excess_in}
use Rattle.op_reader.specs.Reading.{Outcome, term, refused, refused_or, first_place, rows_outcome, words_outcome, clause_outcome}
use Rattle.op_reader.specs.Reading.{sentence_outcome, unended, reading_of}
use Rattle.op_reader.specs.Variables.{variables, HasVariables, HasCount, HasItsVariables}
use Rattle.op_reader.proofs.MatchedBrackets.{none_outside}
use Rattle.op_reader.proofs.VariableNumbers.{has_variables, has_unnamed}
use Rattle.op_reader.proofs.RowsVariables.{term_variables}
use Rattle.op_reader.proofs.WordsVariables.{words_variables, ArePlain, clause_variables}
use Rattle.op_reader.proofs.TokensVariables.{clause_words}

abbrev T : Type 0
T = List ℕ

-- a term and its names, out of an outcome that is one
by_excess : {P : Type 0} (o : Option ℕ) (q : Outcome) (t : Term T) (names : List (T × ℕ)) (used : ℕ) →
    refused_or (BadToken NumberRange) o q ≡ term t names used → (q ≡ term t names used → P) → P
by_excess None q t names used h k = k h
by_excess (Some place) q t names used h k = cc

by_tree : {P : Type 0} (place : ℕ) (o : Option (Term T)) (e : Option ℕ) (t : Term T) (ns names : List (T × ℕ)) (u used : ℕ) →
    elim o as (λ _. Outcome)
    [ None ↦ refused place Priority | Some t ↦ refused_or (BadToken NumberRange) e (term t ns u) ] ≡ term t names used →
    (o ≡ Some t → ns ≡ names → P) → P
by_tree place None e t ns names u used h k = cc
by_tree place (Some x) e t ns names u used h k =
    by_excess e (term x ns u) t names used h (λ i. let j : x ≡ t = cc in k (ap (λ (y : Term T). Some y) j) (cc))

by_roles : {P : Type 0} (place : ℕ) (o : Result (Rows T) ℕ) (ns : List (T × ℕ)) (u : ℕ) (t : Term T) (names : List (T × ℕ)) (used : ℕ) →
    elim o as (λ _. Outcome) [ Err at ↦ refused at NoOperand | Ok rows ↦ rows_outcome place ns u rows ] ≡ term t names used →
    ((rows : Rows T) → o ≡ Ok rows → rows_outcome place ns u rows ≡ term t names used → P) → P
by_roles place (Err at) ns u t names used h k = cc
by_roles place (Ok rows) ns u t names used h k = k rows refl h

by_brackets : {P : Type 0} (o : Option ℕ) (q : Outcome) (t : Term T) (names : List (T × ℕ)) (used : ℕ) →
    refused_or Unbalanced o q ≡ term t names used →
    (o ≡ None → q ≡ term t names used → P) → P
by_brackets None q t names used h k = k refl h
by_brackets (Some place) q t names used h k = cc

words_have : (place stop used u : ℕ) (ns names : List (T × ℕ)) (ws : List (Word T)) (t : Term T) → ArePlain ws →
    (levels_of stop ws).outer ≡ [] →
    words_outcome place ns stop u ws ≡ term t names used → (variables t ≡ words_variables ws) × (ns ≡ names)
words_have place stop used u ns names ws t plain outer h =
    by_roles place (clause_roles stop ws) ns u t names used h
    (λ rows e f. by_tree place (term_of known rows) (excess_in rows) t ns names u used f
    (λ g i. let r = clause_variables stop ws rows plain outer e in (term_variables known rows t r.0 g ∙ r.1, i)))

-- a clause's term has the variables of its tokens
pub sentence_has : (table : Table) (quotes : DoubleQuotes) (text : T) (c : Sentence) (t : Term T) (names : List (T × ℕ)) (used : ℕ) →
    sentence_outcome table quotes text c ≡ term t names used → HasVariables (length (variables_of text [] c.tokens)) t names
sentence_has table quotes text c t names used h =
    let s = source table quotes text in
    let w = clause_words s c.tokens in
    by_brackets (unmatched [] c.tokens) (clause_outcome s c) t names used h
    (λ e f. let r = words_have (first_place c.tokens) c.stop.from used c.stop.to (named_from 0 (variables_of text [] c.tokens)) names
    (words_of s c.tokens) t
    w.0 (none_outside s c.stop.from c.tokens e) f in
    subst (HasVariables (length (variables_of text [] c.tokens)) t) r.1 (has_variables text c.tokens t (r.0 ∙ w.1)))

-- what was read of a clause
pub reading_has : (table : Table) (quotes : DoubleQuotes) (text : T) (c : Sentence) (names : List T) (r : Result Reading ReadFault) →
    Tells names r (sentence_outcome table quotes text c) → IfOk r (HasCount (length (variables_of text [] c.tokens))) →
    IfOk r HasItsVariables
reading_has table quotes text c names (Ok (ATerm r)) h n =
    has_unnamed (name_at names) r.vars r.term r.names
    (subst (λ (k : ℕ). HasVariables k (named names r.term) r.names) (sym n)
    (sentence_has table quotes text c (named names r.term) r.names r.used h))
reading_has table quotes text c names (Ok End) h n = tt
reading_has table quotes text c names (Err e) h n = tt

no_term : (text : T) (tokens : List Token) (f : Option TokenFault) (t : Term T) (names : List (T × ℕ)) (used : ℕ) →
    unended text tokens f ≡ term t names used → ⊥
no_term text tokens (Some f) t names used h = cc
no_term text [] None t names used h = cc
no_term text (u ∷ us) None t names used h = cc

by_sentence : {P : Type 0} (table : Table) (quotes : DoubleQuotes) (text : T) (o : Option Sentence) (q : Outcome) (t : Term T)
    (names : List (T × ℕ)) (used : ℕ) →
    elim o as (λ _. Outcome) [ Some c ↦ sentence_outcome table quotes text c | None ↦ q ] ≡ term t names used →
    ((c : Sentence) → sentence_outcome table quotes text c ≡ term t names used → P) → (q ≡ term t names used → P) → P
by_sentence table quotes text (Some c) q t names used h k n = k c h
by_sentence table quotes text None q t names used h k n = n h

pub read_terms : (table : Table) (quotes : DoubleQuotes) (text : T) (t : Term T) (names : List (T × ℕ)) (used : ℕ)
    → reading_of table quotes text ≡ term t names used → (count : ℕ) × HasVariables count t names
unfolding reading_of
read_terms table quotes text t names used h =
    let s = scan_of text in
    by_sentence table quotes s.text (sentence_of s.tokens) (unended s.text s.tokens s.fault) t names used h
    (λ c e. (length (variables_of s.text [] c.tokens), sentence_has table quotes s.text c t names used e))
    (λ e. absurd (no_term s.text s.tokens s.fault t names used e))
