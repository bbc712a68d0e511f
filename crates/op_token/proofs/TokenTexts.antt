-- The text of each name, variable and quoted token is UTF-8.
use Rattle.std.proofs.Common.{◌≡◌, ℕ, zero, suc, ◌+◌, ◌-◌, ◌<◌, ◌≤◌, Bool, false, ◌&&◌, ◌||◌, List, [], ◌∷◌, Option, length, take}
use Rattle.std.proofs.Common.{drop, get_or, refl, ap, sym, ◌∙◌, subst, cond, arith}
use Rattle.std.specs.Prelude.{◌==◌, nat_le, IsUtf8, slice_range, slice_index, slice_index_or, Contains}
use Rattle.std.proofs.lemmas.Bool.{eqb-true}
use Rattle.op_token.specs.declared.class.Class.{Class}
use Rattle.op_token.specs.declared.class.Class.TheVariants.{Layout, Percent, Small, Capital, Digit, SingleQuote, DoubleQuote, Slash}
use Rattle.op_token.specs.declared.class.Class.TheVariants.{Dot, Symbol, Solo, Punctuation, Bad}
use Rattle.op_token.specs.declared.set.Set.TheVariants.{Symbol as symbols}
use Rattle.op_token.specs.declared.spelling.Spelling.TheVariants.{Whole}
use Rattle.op_token.specs.declared.token.Token.{Token}
use Rattle.op_token.specs.declared.token.TokenFault.{TokenFault}
use Rattle.op_token.specs.declared.token.TokenKind.{TokenKind}
use Rattle.op_token.specs.declared.token.TokenKind.TheVariants.{Name, QuotedName, Variable, Text, OpenRound, CloseRound, OpenSquare}
use Rattle.op_token.specs.declared.token.TokenKind.TheVariants.{CloseSquare, OpenCurly, CloseCurly, Comma, Bar, End}
use Rattle.op_token.specs.Set.{run, has, begins_with}
use Rattle.op_token.specs.Class.{class_of, punctuation_of}
use Rattle.op_token.specs.Spelling.{quoted_from, block_from, ends_clause, spelled, begins}
use Rattle.op_token.specs.Tokens.{text_from, unquoted, scan_of, is_minus, IsPlain, IsQuoted}
use Rattle.op_token.specs.MadeUp.{MadeUp}
use Rattle.op_token.proofs.ListRests.{drop_one}
use Rattle.op_token.proofs.SpellingEnds.{if_either}
use Rattle.op_token.proofs.AsciiNames.{Not, line_not, block_not, number_not, plain_utf8}
use Rattle.op_token.proofs.Utf8QuotedTexts.{IsWhole, quoted_utf8}
use Rattle.op_token.proofs.MadeUpTexts.{text_made_up}

-- the quotes are the bytes that begin quoted text
abbrev pub QuoteClass : ℕ → Class → Type 0
QuoteClass b c = (c ≡ SingleQuote → b ≡ 39) × (c ≡ DoubleQuote → b ≡ 34) × ((k : TokenKind) → c ≡ Punctuation k → IsQuoted k → ⊥)

pub quote_class : (b : ℕ) → QuoteClass b (class_of b)
quote_class b =
    let P : Class → Type 0 = QuoteClass b in
    if_either P (b == 32 || (nat_le 9 b && nat_le b 13)) Layout _ (λ e. (λ h. cc, λ h. cc, λ k h. cc))
    (λ e. if_either P (b == 37) Percent _ (λ e. (λ h. cc, λ h. cc, λ k h. cc))
    (λ e. if_either P (nat_le 97 b && nat_le b 122) Small _ (λ e. (λ h. cc, λ h. cc, λ k h. cc))
    (λ e. if_either P ((nat_le 65 b && nat_le b 90) || b == 95) Capital _ (λ e. (λ h. cc, λ h. cc, λ k h. cc))
    (λ e. if_either P (nat_le 48 b && nat_le b 57) Digit _ (λ e. (λ h. cc, λ h. cc, λ k h. cc))
    (λ e. if_either P (b == 39) SingleQuote _ (λ e. (λ h. eqb-true b 39 e, λ h. cc, λ k h. cc))
    (λ e. if_either P (b == 34) DoubleQuote _ (λ e. (λ h. cc, λ h. eqb-true b 34 e, λ k h. cc))
    (λ e. if_either P (b == 47) Slash _ (λ e. (λ h. cc, λ h. cc, λ k h. cc))
    (λ e. if_either P (b == 46) Dot _ (λ e. (λ h. cc, λ h. cc, λ k h. cc))
    (λ e. if_either P (has symbols b) Symbol _ (λ e. (λ h. cc, λ h. cc, λ k h. cc))
    (λ e. if_either P (b == 33 || b == 59) Solo (punctuation_of b) (λ e. (λ h. cc, λ h. cc, λ k h. cc)) (λ e. punctuations b)))))))))))
  where
    punctuation : (b : ℕ) (j : TokenKind) → (IsQuoted j → ⊥) → QuoteClass b (Punctuation j)
    punctuation b j n = (λ h. cc, λ h. cc, λ k h q. let e : j ≡ k = cc in n (subst IsQuoted (sym e) q))

    punctuations : (b : ℕ) → QuoteClass b (punctuation_of b)
    punctuations b =
        let P : Class → Type 0 = QuoteClass b in
        if_either P (b == 40) _ _ (λ e. punctuation b OpenRound (λ h. h))
        (λ e. if_either P (b == 41) _ _ (λ e. punctuation b CloseRound (λ h. h))
        (λ e. if_either P (b == 91) _ _ (λ e. punctuation b OpenSquare (λ h. h))
        (λ e. if_either P (b == 93) _ _ (λ e. punctuation b CloseSquare (λ h. h))
        (λ e. if_either P (b == 123) _ _ (λ e. punctuation b OpenCurly (λ h. h))
        (λ e. if_either P (b == 125) _ _ (λ e. punctuation b CloseCurly (λ h. h))
        (λ e. if_either P (b == 44) _ _ (λ e. punctuation b Comma (λ h. h))
        (λ e. if_either P (b == 124) _ _ (λ e. punctuation b Bar (λ h. h)) (λ e. (λ h. cc, λ h. cc, λ k h. cc)))))))))

not_kind : (j kind : TokenKind) (a to : ℕ) → (IsQuoted j → ⊥) → Whole j a ≡ Whole kind to → IsQuoted kind → ⊥
not_kind j kind a to n e q = let f : j ≡ kind = cc in n (subst IsQuoted (sym f) q)

-- only what a quote begins is a quoted token
pub by_quotes : (R : Type 0) (k : Class) (at : ℕ) (minus : Bool) (b : ℕ) (s : List ℕ) (kind : TokenKind) (to : ℕ) → QuoteClass b k
    → (b ≡ 39 → quoted_from QuotedName 39 at (at + 1) 0 s ≡ Whole kind to → R)
    → (b ≡ 34 → quoted_from Text 34 at (at + 1) 0 s ≡ Whole kind to → R) → spelled k at minus b s ≡ Whole kind to → IsQuoted kind → R
by_quotes R Layout at minus b s kind to c f g e q = cc
by_quotes R Percent at minus b s kind to c f g e q = absurd (subst (Not IsQuoted) e (line_not IsQuoted (λ n h. h) (at + 1) 0 s) q)
by_quotes R Small at minus b s kind to c f g e q = absurd (not_kind Name kind _ to (λ h. h) e q)
by_quotes R Capital at minus b s kind to c f g e q = absurd (not_kind Variable kind _ to (λ h. h) e q)
by_quotes R Digit at minus b s kind to c f g e q = absurd (subst (Not IsQuoted) e (number_not IsQuoted (λ n h. h) at minus b s) q)
by_quotes R SingleQuote at minus b s kind to c f g e q = f (c.0 refl) e
by_quotes R DoubleQuote at minus b s kind to c f g e q = g (c.1 refl) e
by_quotes R Slash at minus b s kind to c f g e q =
    if_either (λ x. x ≡ Whole kind to → R) (begins_with 42 s) (block_from at (at + 2) 0 (drop 1 s)) (Whole Name (at + 1 + run symbols s))
    (λ t h. absurd (subst (Not IsQuoted) h (block_not IsQuoted (λ n h. h) at (at + 2) 0 (drop 1 s)) q))
    (λ t h. absurd (not_kind Name kind _ to (λ h. h) h q)) e
by_quotes R Dot at minus b s kind to c f g e q =
    if_either (λ x. x ≡ Whole kind to → R) (run symbols s == 0 && ends_clause s) (Whole End (at + 1)) (Whole Name (at + 1 + run symbols s))
    (λ t h. absurd (not_kind End kind _ to (λ h. h) h q))
    (λ t h. absurd (not_kind Name kind _ to (λ h. h) h q)) e
by_quotes R Symbol at minus b s kind to c f g e q = absurd (not_kind Name kind _ to (λ h. h) e q)
by_quotes R Solo at minus b s kind to c f g e q = absurd (not_kind Name kind _ to (λ h. h) e q)
by_quotes R (Punctuation k) at minus b s kind to c f g e q = absurd (not_kind k kind _ to (c.2 k refl) e q)
by_quotes R Bad at minus b s kind to c f g e q = cc

quoted_spelled : (at : ℕ) (minus : Bool) (b : ℕ) (s : List ℕ) (kind : TokenKind) (to : ℕ) → begins at minus (b ∷ s) ≡ Whole kind to
    → IsQuoted kind → IsUtf8 (text_from b 0 s)
quoted_spelled at minus b s kind to =
    let w : IsWhole (Whole kind to) = tt in
    by_quotes (IsUtf8 (text_from b 0 s)) (class_of b) at minus b s kind to (quote_class b)
    (λ e h. subst (λ x. IsUtf8 (text_from x 0 s)) (sym e)
    (quoted_utf8 (length s) QuotedName 39 at (at + 1) s (omega arith) (omega arith) (subst IsWhole (sym h) w)))
    (λ e h. subst (λ x. IsUtf8 (text_from x 0 s)) (sym e)
    (quoted_utf8 (length s) Text 34 at (at + 1) s (omega arith) (omega arith) (subst IsWhole (sym h) w)))

-- a token begins at its place
abbrev pub Begun : List ℕ → Token → Type 0
Begun text t = (m : Bool) × ((begins t.from m (drop t.from text) ≡ Whole t.kind t.to) × (t.from < t.to) × (t.to ≤ length text))

pub token_begun : (text : List ℕ) (ts : List Token) (at : ℕ) (m : Bool) (f : Option TokenFault) → MadeUp text at m ts f
    → (k : ℕ) → k < length ts → (t : Token) → slice_index_or ts k t ≡ t → Begun text t
token_begun text [] at m f u k h t e = absurd (omega arith)
token_begun text (x ∷ ts) at m f u zero h t e = subst (Begun text) e (cond x.layout_before false m, (u.2, u.3.0, u.3.1))
token_begun text (x ∷ ts) at m f u (suc k) h t e =
    token_begun text ts x.to (is_minus x.kind (slice_index text x.from) (x.to - x.from)) f u.4 k (omega arith) t e

pub token_of : (text : List ℕ) (t : Token) → Contains (scan_of text).tokens t → Begun text t
token_of text t c = token_begun text (scan_of text).tokens 0 false (scan_of text).fault (text_made_up text) c.0 c.1 t c.2

pub front : (text : List ℕ) (t : Token) (b : Begun text t)
    → begins t.from b.0 (get_or text t.from 0 ∷ drop (t.from + 1) text) ≡ Whole t.kind t.to
front text t b = let h : t.from < length text = omega (arith, b.1.1, b.1.2) in ap (begins t.from b.0) (sym (drop_one text t.from h)) ∙ b.1.0

pub token_within : (text : List ℕ) (t : Token) → Contains (scan_of text).tokens t → (t.from < t.to) × (t.to ≤ length text)
token_within text t c = let b = token_of text t c in (b.1.1, b.1.2)

pub plain_text : (text : List ℕ) (t : Token) → Contains (scan_of text).tokens t → IsPlain t.kind → IsUtf8 (slice_range text t.from t.to)
plain_text text t c p =
    let b = token_of text t c in
    let h : t.from < length text = omega (arith, b.1.1, b.1.2) in
    subst (λ s. IsUtf8 (take (t.to - t.from) s)) (sym (drop_one text t.from h))
    (plain_utf8 t.from b.0 (get_or text t.from 0) (drop (t.from + 1) text) t.kind t.to (front text t b) p)

pub quoted_text : (text : List ℕ) (t : Token) → Contains (scan_of text).tokens t → IsQuoted t.kind → IsUtf8 (unquoted text t)
quoted_text text t c q =
    let b = token_of text t c in
    quoted_spelled t.from b.0 (get_or text t.from 0) (drop (t.from + 1) text) t.kind t.to (front text t b) q
