-- Reading the first clause of a text (ISO/IEC 13211-1, 6.2 and 6.3): a term, the end of the text, or the first refusal with its place.
use Rattle.std.specs.Prelude.{ℕ, ◌<◌, List, [], ◌∷◌, length, Option, Some, None, Ok, Err}
use Rattle.op_logic.specs.Term.{Term}
use Rattle.op_term.specs.Ops.{Table}
use Rattle.op_token.specs.declared.token.Token.{Token}
use Rattle.op_token.specs.declared.token.TokenFault.{TokenFault}
use Rattle.op_token.specs.declared.token.TokenFaultKind.TheVariants.{NumberRange}
use Rattle.op_token.specs.Tokens.{Scan, scan_of}
use Rattle.op_term.specs.declared.quotes.DoubleQuotes.{DoubleQuotes}
use Rattle.op_reader.specs.declared.fault.ReadFaultKind.{ReadFaultKind}
use Rattle.op_reader.specs.declared.fault.ReadFaultKind.TheVariants.{Token as BadToken, NoEnd, Unbalanced, NoOperand, Priority}
use Rattle.op_reader.specs.FirstClause.{Sentence, sentence_of, unmatched}
use Rattle.op_reader.specs.Words.{Word, Source, source, variables_of, named_from, words_of}
use Rattle.op_reader.specs.Roles.{Rows, clause_roles}
use Rattle.op_reader.specs.Terms.{known, term_of, excess_in}

-- a term with its named variables and the bytes up to its end; or no term and no fault; or a refusal at a place
pub data Outcome : Type 0 where
  term : Term (List ℕ) → List (List ℕ × ℕ) → ℕ → Outcome
  end : Outcome
  refused : ℕ → ReadFaultKind → Outcome

-- each named variable's number is below a count
abbrev pub AreCounted : ℕ → List (List ℕ × ℕ) → Type 0
AreCounted count [] = Unit {0}
AreCounted count (n ∷ ns) = (n.1 < count) × AreCounted count ns

abbrev pub refused_or : ReadFaultKind → Option ℕ → Outcome → Outcome
refused_or kind (Some place) outcome = refused place kind
refused_or kind None outcome = outcome

abbrev pub first_place : List Token → ℕ
first_place [] = 0
first_place (t ∷ ts) = t.from

-- rows, in a clause that begins at a place: no term is a want of priority, told at that place; else the first integer that is too
-- great is told, or the term
abbrev pub rows_outcome : ℕ → List (List ℕ × ℕ) → ℕ → Rows (List ℕ) → Outcome
rows_outcome place names used rows =
    elim (term_of known rows) [
      | None ↦ refused place Priority
      | Some t ↦ refused_or (BadToken NumberRange) (excess_in rows) (term t names used)
    ]

-- the words of a clause whose end token stands at a place
abbrev pub words_outcome : ℕ → List (List ℕ × ℕ) → ℕ → ℕ → List (Word (List ℕ)) → Outcome
words_outcome place names stop used ws =
    elim (clause_roles stop ws) [ Err at ↦ refused at NoOperand | Ok rows ↦ rows_outcome place names used rows ]

-- a clause whose brackets match
abbrev pub clause_outcome : Source → Sentence → Outcome
clause_outcome s c =
    words_outcome (first_place c.tokens) (named_from 0 (variables_of s.text [] c.tokens)) c.stop.from c.stop.to (words_of s c.tokens)

abbrev pub sentence_outcome : Table → DoubleQuotes → List ℕ → Sentence → Outcome
sentence_outcome table quotes text c =
    refused_or Unbalanced (unmatched [] c.tokens) (clause_outcome (source table quotes text) c)

-- no end token: the fault in front of which the tokens end, or the end of the text, or a clause without its end
abbrev pub unended : List ℕ → List Token → Option TokenFault → Outcome
unended text tokens (Some f) = refused f.place (BadToken f.kind)
unended text [] None = end
unended text (t ∷ ts) None = refused (length text) NoEnd

abbrev pub outcome_in : Table → DoubleQuotes → Scan → Outcome
outcome_in table quotes s =
    elim (sentence_of s.tokens) [ Some c ↦ sentence_outcome table quotes s.text c | None ↦ unended s.text s.tokens s.fault ]

-- what reading a text gives
unfoldable pub reading_of : Table → DoubleQuotes → List ℕ → Outcome
reading_of table quotes text = outcome_in table quotes (scan_of text)
