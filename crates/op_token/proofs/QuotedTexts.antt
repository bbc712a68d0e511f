-- What a quoted token is said to stand for is what its spelling stands for.
use Rattle.std.proofs.Common.{◌≡◌, ℕ, ◌+◌, ◌-◌, ◌<◌, Bool, List, [], ◌∷◌, ◌++◌, length, take, drop, get_or, refl, ap, sym, ◌∙◌}
use Rattle.std.proofs.Common.{subst, arith, append_assoc, append-nil}
use Rattle.std.specs.Prelude.{Contains, slice_range}
use Rattle.std.specs.Option.{option_map_or}
use Rattle.std.proofs.lemmas.Bool.{eq-eqb, ne_eqb}
use Rattle.std.proofs.Math.Seq.{take-append_seam, drop-append_seam}
use lib.Utf8.{encode}
use Rattle.op_token.specs.declared.spelling.Spelling.TheVariants.{Whole}
use Rattle.op_token.specs.declared.token.Token.{Token}
use Rattle.op_token.specs.declared.token.TokenKind.{TokenKind}
use Rattle.op_token.specs.declared.token.TokenKind.TheVariants.{QuotedName, Text}
use Rattle.op_token.specs.Class.{class_of}
use Rattle.op_token.specs.Spelling.{begins}
use Rattle.op_token.specs.Tokens.{text_from, unquoted, scan_of, IsQuoted}
use Rattle.op_token.specs.Spellings.{IsQuotedCharacter, plain, doubled, escaped, AreQuoted, no_characters, one_more, StandsFor}
use Rattle.op_token.specs.Spellings as spellings
use Rattle.op_token.proofs.ListRests.{drop_one}
use Rattle.op_token.proofs.Utf8QuotedTexts.{text_stop, text_doubled, text_escaped, text_plain}
use Rattle.op_token.proofs.LongestTokens.{quoted_kind}
use Rattle.op_token.proofs.SpellingSoundness.{quoted_token}
use Rattle.op_token.proofs.SpellingCompleteness.{an_escape, escape_whole, shape, plain_not}
use Rattle.op_token.proofs.TokenTexts.{by_quotes, quote_class, token_of, front}

-- a spelling stands for one text alone
module _ (q : ℕ) (low : q < 128) (n92 : q ≡ 92 → ⊥) where
  text_step : (c one r : List ℕ) → IsQuotedCharacter q c one → text_from q 0 (c ++ r) ≡ one ++ text_from q 0 r
  text_step c one r (plain u sc n e m) =
      let w = shape u r sc in
      let k = plain_not q u n in
      let p : c ≡ w.0 ∷ w.1 = e ∙ w.2 in
      ap (λ t. text_from q 0 (t ++ r)) p
      ∙ text_plain q w.0 (w.1 ++ r) (record { code = u; more = length w.1 }) low (ne_eqb w.0 q (w.4 q low k.0))
      (ne_eqb w.0 92 (w.4 92 (omega arith) k.1)) w.3
      ∙ ap (λ t. (w.0 ∷ t) ++ text_from q 0 (drop (length w.1) (w.1 ++ r))) (take-append_seam w.1 r)
      ∙ ap (λ t. (w.0 ∷ w.1) ++ text_from q 0 t) (drop-append_seam w.1 r)
      ∙ ap (λ t. t ++ text_from q 0 r) (sym p ∙ sym m)
  text_step c one r (doubled e m) =
      ap (λ t. text_from q 0 (t ++ r)) e
      ∙ text_doubled q q (q ∷ r) (eq-eqb q q refl) (eq-eqb q q refl)
      ∙ ap (λ t. t ++ text_from q 0 r) (sym m)
  text_step c one r (escaped e v w p m) =
      ap (λ t. text_from q 0 (t ++ r)) p
      ∙ text_escaped q 92 (e ++ r) (an_escape v (length e)) (ne_eqb 92 q (λ z. n92 (sym z))) refl (escape_whole e v r w)
      ∙ ap (λ t. option_map_or encode v [] ++ text_from q 0 t) (drop-append_seam e r)
      ∙ ap (λ t. t ++ text_from q 0 r) (sym m)

  text_along : (r s meant : List ℕ) → AreQuoted q s meant → text_from q 0 (s ++ r) ≡ meant ++ text_from q 0 r
  text_along r s meant no_characters = refl
  text_along r s meant (one_more c one t rest h w) =
      ap (text_from q 0) (append_assoc c t r) ∙ text_step c one (t ++ r) h ∙ ap (λ y. one ++ y) (text_along r t rest w)
      ∙ sym (append_assoc one rest (text_from q 0 r))

  text_is : (s meant : List ℕ) → spellings.IsQuoted q s meant → text_from q 0 (drop 1 s) ≡ meant
  text_is s meant w =
      ap (λ t. text_from q 0 (drop 1 t)) w.whole
      ∙ text_along (q ∷ []) w.inside meant w.are
      ∙ ap (λ t. meant ++ t) (text_stop q q [] (eq-eqb q q refl) refl)
      ∙ append-nil meant

single_text : (s meant : List ℕ) → StandsFor QuotedName s meant → text_from 39 0 (drop 1 s) ≡ meant
single_text s meant w = text_is 39 (omega arith) (λ e. omega arith) s meant w

double_text : (s meant : List ℕ) → StandsFor Text s meant → text_from 34 0 (drop 1 s) ≡ meant
double_text s meant w = text_is 34 (omega arith) (λ e. omega arith) s meant w

pub one_text : (kind : TokenKind) (s one other : List ℕ) → StandsFor kind s one → StandsFor kind s other → one ≡ other
one_text QuotedName s one other a b = sym (single_text s one a) ∙ single_text s other b
one_text Text s one other a b = sym (double_text s one a) ∙ double_text s other b
one_text kind s one other a b = absurd a

-- what is read of a quoted token
stands : (at : ℕ) (minus : Bool) (b : ℕ) (s : List ℕ) (kind : TokenKind) (to : ℕ) → begins at minus (b ∷ s) ≡ Whole kind to
    → IsQuoted kind → StandsFor kind (take (to - at) (b ∷ s)) (text_from b 0 s)
stands at minus b s kind to =
    let here : TokenKind → ℕ → Type 0 = λ k x. StandsFor k (take (to - at) (b ∷ s)) (text_from x 0 s) in
    by_quotes (here kind b) (class_of b) at minus b s kind to (quote_class b)
    (λ e h. subst (λ k. here k b) (quoted_kind QuotedName 39 at (at + 1) 0 s kind to h)
    (subst (here QuotedName) (sym e) (quoted_token QuotedName 39 at b s kind to (omega arith) (eq-eqb b 39 e) h)))
    (λ e h. subst (λ k. here k b) (quoted_kind Text 34 at (at + 1) 0 s kind to h)
    (subst (here Text) (sym e) (quoted_token Text 34 at b s kind to (omega arith) (eq-eqb b 34 e) h)))

pub token_stands : (text : List ℕ) (t : Token) → Contains (scan_of text).tokens t → IsQuoted t.kind
    → StandsFor t.kind (slice_range text t.from t.to) (unquoted text t)
token_stands text t c q =
    let b = token_of text t c in
    let h : t.from < length text = omega (arith, b.1.1, b.1.2) in
    subst (λ s. StandsFor t.kind (take (t.to - t.from) s) (unquoted text t)) (sym (drop_one text t.from h))
    (stands t.from b.0 (get_or text t.from 0) (drop (t.from + 1) text) t.kind t.to (front text t b) q)
