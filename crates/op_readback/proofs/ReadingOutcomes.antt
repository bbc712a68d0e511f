-- What reading the text of a written term comes to, from the tokens of its lexemes.
use Rattle.std.proofs.Common.{◌≡◌, ◌+◌, ℕ, Bool, false, cond, List, [], ◌∷◌, ◌++◌, map, Option, Some, None, length, refl, sym, ◌∙◌, ap}
use Rattle.std.proofs.Common.{arith}
use Rattle.std.specs.Prelude.{codes, option_map}
use Rattle.op_logic.specs.Term.{Term}
use Rattle.op_term.specs.Ops.{Table}
use Rattle.op_token.specs.declared.token.Token.{Token}
use Rattle.op_token.specs.declared.token.TokenKind.{TokenKind}
use Rattle.op_token.specs.declared.token.TokenKind.TheVariants.{Name, QuotedName, Variable, Integer, Text, OpenRound, CloseRound}
use Rattle.op_token.specs.declared.token.TokenKind.TheVariants.{OpenSquare, CloseSquare, OpenCurly, CloseCurly, Comma, Bar, End}
use Rattle.op_token.specs.Tokens.{Lexed, push, lex}
use Rattle.op_term.specs.declared.quotes.DoubleQuotes.{DoubleQuotes}
use Rattle.op_reader.specs.declared.fault.ReadFaultKind.TheVariants.{Unbalanced}
use Rattle.op_reader.specs.FirstClause.{Sentence, is_end, with_first, sentence_of, unmatched}
use Rattle.op_reader.specs.Words.{source, named_from, words_of}
use Rattle.op_reader.specs.Reading
use Rattle.op_reader.specs.Reading.{Outcome, refused_or, first_place, words_outcome, outcome_in, reading_of}
use Rattle.op_writer.specs.declared.style.Style.{Style}
use Rattle.op_writer.specs.declared.style.Style.TheVariants.{Quoted, Canonical}
use Rattle.op_writer.specs.declared.bound.Bound.TheVariants.{Whole}
use Rattle.op_writer.specs.declared.edge.Edge.TheVariants.{Other}
use Rattle.op_writer.specs.Spelling.{name_text}
use Rattle.op_writer.specs.Fragments.{Fragment, spaced}
use Rattle.op_writer.specs.Text
use Rattle.op_writer.specs.Text.{within}
use Rattle.op_readback.proofs.Lexemes.{Lexeme, lexeme_fragment, lexemes_of, IsWritten}
use Rattle.op_readback.proofs.LexemeTexts.{IsClean}
use Rattle.op_readback.proofs.LexemeFragments.{same-lexemes}
use Rattle.op_readback.proofs.LexemeTokens.{Known, pushes, tokens, AreLexemes, ended, end_token, lexed}
use Rattle.op_readback.proofs.KnownWords.{OfKind, AreKnown, firsts, k_words, words-are, no-variables}
use Rattle.op_readback.proofs.TokenNames.{tokens-known}
use Rattle.op_readback.proofs.LexemeQuotes.{fine}

pushed-tokens : (ks : List Known) (r : Lexed) → (pushes ks r).tokens ≡ firsts ks ++ r.tokens
pushed-tokens [] r = refl
pushed-tokens (k ∷ ks) r = ap (λ (ts : List Token). k.0 ∷ ts) (pushed-tokens ks r)

pushed-fault : (ks : List Known) (r : Lexed) → (pushes ks r).fault ≡ r.fault
pushed-fault [] r = refl
pushed-fault (k ∷ ks) r = pushed-fault ks r

no-end : (kind : TokenKind) → OfKind kind → is_end kind ≡ false
no-end Variable o = absurd o
no-end Text o = absurd o
no-end End o = absurd o
no-end Name o = refl
no-end QuotedName o = refl
no-end (Integer m) o = refl
no-end OpenRound o = refl
no-end CloseRound o = refl
no-end OpenSquare o = refl
no-end CloseSquare o = refl
no-end OpenCurly o = refl
no-end CloseCurly o = refl
no-end Comma o = refl
no-end Bar o = refl

sentence-is : (text : List ℕ) (ks : List Known) → AreKnown text ks → (n : ℕ)
    → sentence_of (firsts ks ++ end_token n ∷ []) ≡ Some (record { tokens = firsts ks; stop = end_token n })
sentence-is text [] h n = refl
sentence-is text (k ∷ ks) h n =
    let more : Option Sentence = option_map (with_first k.0) (sentence_of (firsts ks ++ end_token n ∷ [])) in
    ap (λ (b : Bool). cond b (Some (record { tokens = []; stop = k.0 })) more) (no-end k.0.kind h.0.kind)
    ∙ ap (option_map (with_first k.0)) (sentence-is text ks h.1 n)

-- what the tokens of a clause without variables come to, with the place of its end token
abbrev pub known_outcome : Table → ℕ → List Known → Outcome
known_outcome ops n ks =
    refused_or Unbalanced (unmatched [] (firsts ks)) (words_outcome (first_place (firsts ks)) [] (n + 1) (n + 2) (k_words ops false ks))

module _ (ops : Table) (quotes : DoubleQuotes) where
  outcome-is : (text : List ℕ) (ks : List Known) → AreKnown text ks → (n : ℕ)
      → Reading.sentence_outcome ops quotes text (record { tokens = firsts ks; stop = end_token n }) ≡ known_outcome ops n ks
  outcome-is text ks h n =
      ap (refused_or Unbalanced (unmatched [] (firsts ks)))
      (ap (λ (vs : List (List ℕ)). words_outcome (first_place (firsts ks)) (named_from 0 vs) (n + 1) (n + 2)
      (words_of (source ops quotes text) (firsts ks))) (no-variables ops quotes text [] ks h)
      ∙ ap (words_outcome (first_place (firsts ks)) [] (n + 1) (n + 2)) (words-are ops quotes text [] false ks h))

  -- the text of lexemes, read
  pub reads : (ms : List Lexeme) → AreLexemes ms → IsClean false ms
      → reading_of ops quotes (ended Other ms) ≡ known_outcome ops (length (spaced Other (map lexeme_fragment ms)))
      (tokens 0 Other false ms)
  unfolding reading_of
  reads ms h c =
      let text = ended Other ms in
      let n = length (spaced Other (map lexeme_fragment ms)) in
      let ks = tokens 0 Other false ms in
      let known = tokens-known ms h false c text [] Other false refl in
      let r : Lexed = push (end_token n) (record { tokens = []; fault = None }) in
      let l : lex 0 0 false false text ≡ pushes ks r =
      lexed ms h false c Other 0 false false ∙ ap (λ (m : ℕ). pushes ks (push (end_token m) (record { tokens = []; fault = None })))
      (let q : 0 + n ≡ n = omega arith in q) in
      ap (λ (x : Lexed). outcome_in ops quotes (record { text = text; tokens = x.tokens; fault = x.fault })) l
      ∙ (ap (λ (ts : List Token). outcome_in ops quotes (record { text = text; tokens = ts; fault = (pushes ks r).fault }))
      (pushed-tokens ks r)
      ∙ (ap (λ (o : Option Sentence). elim o as (λ _. Outcome) [
        | Some s ↦ Reading.sentence_outcome ops quotes text s
        | None ↦ Reading.unended text (firsts ks ++ end_token n ∷ []) (pushes ks r).fault
      ]) (sentence-is text ks known n)
      ∙ outcome-is text ks known n))

  -- the text of a written term within a priority, read
  pub term-reads : (style : Style) → ((f : List ℕ) → name_text style f ≡ name_text Quoted f) → (t : Term (List ℕ))
      → IsWritten style t → (p : ℕ)
      → reading_of ops quotes (Text.text_of ops style t p ++ codes " .") ≡ known_outcome ops (length (Text.text_of ops style t p))
      (tokens 0 Other false (lexemes_of ops style t (within (Whole p))))
  term-reads style same t h p =
      let ms = lexemes_of ops style t (within (Whole p)) in
      let f = fine ops style t h (Whole p) in
      let e = same-lexemes ops style same t h (within (Whole p)) in
      ap (λ (ps : List Fragment). reading_of ops quotes (spaced Other ps ++ codes " .")) e
      ∙ (reads ms f.0 f.1 ∙ ap (λ (ps : List Fragment). known_outcome ops (length (spaced Other ps)) (tokens 0 Other false ms)) (sym e))

  pub quoted-reads : (t : Term (List ℕ)) → IsWritten Quoted t → (p : ℕ)
      → reading_of ops quotes (Text.text_of ops Quoted t p ++ codes " .") ≡ known_outcome ops (length (Text.text_of ops Quoted t p))
      (tokens 0 Other false (lexemes_of ops Quoted t (within (Whole p))))
  quoted-reads t h p = term-reads Quoted (λ f. refl) t h p

  pub canonical-reads : (t : Term (List ℕ)) → IsWritten Canonical t → (p : ℕ)
      → reading_of ops quotes (Text.text_of ops Canonical t p ++ codes " .") ≡ known_outcome ops (length (Text.text_of ops Canonical t p))
      (tokens 0 Other false (lexemes_of ops Canonical t (within (Whole p))))
  canonical-reads t h p = term-reads Canonical (λ f. refl) t h p
