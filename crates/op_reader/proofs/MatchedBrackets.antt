-- Where the brackets of a clause match, no closing bracket is without a partner among its words.
use Rattle.std.proofs.Common.{◌≡◌, ℕ, suc, ◌+◌, Bool, true, false, List, [], ◌∷◌, length, drop, refl, ap, sym, ◌∙◌, arith, Option, Some}
use Rattle.std.proofs.Common.{None}
use Rattle.std.specs.Prelude.{if◌then◌else◌}
use Rattle.op_token.specs.declared.token.Token.{Token}
use Rattle.op_token.specs.declared.token.TokenKind.{TokenKind}
use Rattle.op_token.specs.declared.token.TokenKind.TheVariants.{Name, QuotedName, Variable, Integer, Text, OpenRound, CloseRound}
use Rattle.op_token.specs.declared.token.TokenKind.TheVariants.{OpenSquare, CloseSquare, OpenCurly, CloseCurly, Comma, Bar, End}
use Rattle.op_reader.specs.declared.bracket.Bracket.{Bracket}
use Rattle.op_reader.specs.declared.bracket.Bracket.TheVariants.{Round, Square, Curly}
use Rattle.op_reader.specs.declared.bracket.Opened.{Opened}
use Rattle.op_reader.specs.FirstClause.{opening, closing, closes, fits, open_behind, innermost, unmatched}
use Rattle.op_reader.specs.Words.{Source, word_by, words_from, words_of, met_behind, is_empty_pair, opening_word, opened, empty_word}
use Rattle.op_reader.specs.Words.{empty_name, integer_word}
use Rattle.op_reader.specs.Roles.{Level, Levels, levels_of, with_word, with_opening}

abbrev T : Type 0
T = List ℕ

nil_of : {A : Type 0} → (xs : List A) → length xs ≡ 0 → xs ≡ []
nil_of [] h = refl
nil_of (x ∷ xs) h = absurd (omega arith)

-- what a token is: a closing bracket, an opening bracket, or neither
data Kind (s : Source) (met : List T) (t : Token) (ts : List Token) (k : TokenKind) : Type 0 where
  closer : (b : Bracket) → closing k ≡ Some b → opening k ≡ None → is_empty_pair k ts ≡ false
      → ((l : Levels T) → length (with_word (word_by k s met t ts) l).outer ≡ suc (length l.outer)) → Kind s met t ts k
  opener : (b : Bracket) → closing k ≡ None → opening k ≡ Some b → word_by k s met t ts ≡ opening_word t b ts → Kind s met t ts k
  neither : closing k ≡ None → opening k ≡ None → is_empty_pair k ts ≡ false
      → ((l : Levels T) → (with_word (word_by k s met t ts) l).outer ≡ l.outer) → Kind s met t ts k

no_pair : (k : TokenKind) (ts : List Token) → opening k ≡ None → is_empty_pair k ts ≡ false
no_pair k [] h = refl
no_pair OpenRound (u ∷ us) h = refl
no_pair OpenSquare (u ∷ us) h = cc
no_pair OpenCurly (u ∷ us) h = cc
no_pair k (u ∷ us) h = refl

integer_outer : (t : Token) (m : ℕ) (l : Levels T) → (with_word (integer_word t m) l).outer ≡ l.outer
integer_outer t m l = grind arith

kind_of : (s : Source) (met : List T) (t : Token) (ts : List Token) (k : TokenKind) → Kind s met t ts k
kind_of s met t ts CloseRound = closer Round refl refl (no_pair CloseRound ts refl) (λ l. refl)
kind_of s met t ts CloseSquare = closer Square refl refl (no_pair CloseSquare ts refl) (λ l. refl)
kind_of s met t ts CloseCurly = closer Curly refl refl (no_pair CloseCurly ts refl) (λ l. refl)
kind_of s met t ts OpenRound = opener Round refl refl refl
kind_of s met t ts OpenSquare = opener Square refl refl refl
kind_of s met t ts OpenCurly = opener Curly refl refl refl
kind_of s met t ts Name = neither refl refl (no_pair Name ts refl) (λ l. refl)
kind_of s met t ts QuotedName = neither refl refl (no_pair QuotedName ts refl) (λ l. refl)
kind_of s met t ts Variable = neither refl refl (no_pair Variable ts refl) (λ l. refl)
kind_of s met t ts (Integer m) = neither refl refl (no_pair (Integer m) ts refl) (integer_outer t m)
kind_of s met t ts Text = neither refl refl (no_pair Text ts refl) (λ l. refl)
kind_of s met t ts Comma = neither refl refl (no_pair Comma ts refl) (λ l. refl)
kind_of s met t ts Bar = neither refl refl (no_pair Bar ts refl) (λ l. refl)
kind_of s met t ts End = neither refl refl (no_pair End ts refl) (λ l. refl)

-- the first token closes
abbrev starts_closing : List Token → Bool
starts_closing [] = false
starts_closing (t ∷ ts) = elim (closing t.kind) [ Some b ↦ true | None ↦ false ]

square_closes : (k : TokenKind) → (elim k [ CloseSquare ↦ true | _ ↦ false ]) ≡ true
    → (elim (closing k) [ Some b ↦ true | None ↦ false ]) ≡ true
square_closes CloseSquare h = refl
square_closes k h = cc

curly_closes : (k : TokenKind) → (elim k [ CloseCurly ↦ true | _ ↦ false ]) ≡ true
    → (elim (closing k) [ Some b ↦ true | None ↦ false ]) ≡ true
curly_closes CloseCurly h = refl
curly_closes k h = cc

pair_closes : (k : TokenKind) (ts : List Token) → is_empty_pair k ts ≡ true → starts_closing ts ≡ true
pair_closes k [] h = absurd (let g : is_empty_pair k [] ≡ false = refl in cc)
pair_closes OpenSquare (u ∷ us) h = square_closes u.kind h
pair_closes OpenCurly (u ∷ us) h = curly_closes u.kind h
pair_closes k (u ∷ us) h = cc

fitting : (b : Bool) (o : Option ℕ) (place : ℕ) → (if b then o else Some place) ≡ None → (b ≡ true) × (o ≡ None)
fitting true o place h = (refl, h)
fitting false o place h = cc

none_open : (os : List Opened) → innermost os ≡ None → length os ≡ 0
none_open [] h = refl
none_open (o ∷ os) h = cc

one_closed : (os : List Opened) (b : Bracket) → closes os b ≡ true → length os ≡ suc (length (drop 1 os))
one_closed [] b h = cc
one_closed (o ∷ os) b h = refl

one_outer : (place : ℕ) (b : Bracket) (inner : Level T) (ls : List (Level T)) (n : ℕ) → length ls ≡ suc n
    → length (with_opening place b inner ls).outer ≡ n
one_outer place b inner [] n h = absurd (omega arith)
one_outer place b inner (l ∷ ls) n h = let e : suc (length ls) ≡ suc n = h in omega arith

abbrev one_if : Bool → ℕ
one_if b = if b then 1 else 0

opened_outer : (p : Bool) (t : Token) (b : Bracket) (name : List ℕ) (ts : List Token) (l : Levels T) (n : ℕ)
    → length l.outer + one_if p ≡ suc n →
    length (with_word (if p then empty_word t name ts else opened t.from b) l).outer ≡ n
opened_outer true t b name ts l n h = omega arith
opened_outer false t b name ts l n h = one_outer t.from b l.inner l.outer n (let e : length l.outer ≡ suc n = omega arith in e)

fits_closer : (os : List Opened) (t : Token) (b : Bracket) → closing t.kind ≡ Some b → fits os t ≡ closes os b
fits_closer os t b h = ap (λ o. elim o [ Some b ↦ closes os b | None ↦ true ]) h

behind_closer : (os : List Opened) (t : Token) (b : Bracket) → closing t.kind ≡ Some b → opening t.kind ≡ None
    → open_behind os t ≡ drop 1 os
behind_closer os t b h g =
    ap (λ o. elim o [
      | Some b ↦ record { bracket = b; place = t.from } ∷ os
      | None ↦ elim (closing t.kind) [ Some b ↦ drop 1 os | None ↦ os ]
    ]) g
    ∙ ap (λ o. elim o [ Some b ↦ drop 1 os | None ↦ os ]) h

behind_opener : (os : List Opened) (t : Token) (b : Bracket) → opening t.kind ≡ Some b → length (open_behind os t) ≡ suc (length os)
behind_opener os t b h =
    ap (λ o. length {A = Opened} (elim o [
      | Some b ↦ record { bracket = b; place = t.from } ∷ os
      | None ↦ elim (closing t.kind) [ Some b ↦ drop 1 os | None ↦ os ]
    ])) h

behind_neither : (os : List Opened) (t : Token) → closing t.kind ≡ None → opening t.kind ≡ None → open_behind os t ≡ os
behind_neither os t h g =
    ap (λ o. elim o [
      | Some b ↦ record { bracket = b; place = t.from } ∷ os
      | None ↦ elim (closing t.kind) [ Some b ↦ drop 1 os | None ↦ os ]
    ]) g
    ∙ ap (λ o. elim o [ Some b ↦ drop 1 os | None ↦ os ]) h

module _ (s : Source) (stop : ℕ) where
  abbrev outer_of : List T → Bool → List Token → List (Level T)
  outer_of met inside ts = (levels_of stop (words_from s met inside ts)).outer

  first_step : (met : List T) (t : Token) (ts : List Token) (os : List Opened) → fits os t ≡ true →
      length (levels_of stop (words_from s (met_behind s.text met t) (is_empty_pair t.kind ts) ts)).outer + one_if
      (is_empty_pair t.kind ts) ≡ length (open_behind os t) →
      Kind s met t ts t.kind → length (outer_of met false (t ∷ ts)) ≡ length os
  first_step met t ts os f h (closer b e g p w) =
      let l = levels_of stop (words_from s (met_behind s.text met t) (is_empty_pair t.kind ts) ts) in
      let none : one_if (is_empty_pair t.kind ts) ≡ 0 = ap one_if p in
      let left : length (open_behind os t) ≡ length (drop 1 os) = ap length (behind_closer os t b e g) in
      let closed : length os ≡ suc (length (drop 1 os)) = one_closed os b (sym (fits_closer os t b e) ∙ f) in
      let made : length (outer_of met false (t ∷ ts)) ≡ suc (length l.outer) = w l in
      omega arith
  first_step met t ts os f h (opener b e g w) =
      let l = levels_of stop (words_from s (met_behind s.text met t) (is_empty_pair t.kind ts) ts) in
      ap (λ u. length (with_word u l).outer) w
      ∙ opened_outer (is_empty_pair t.kind ts) t b (empty_name b) (drop 1 ts) l (length os) (h ∙ behind_opener os t b g)
  first_step met t ts os f h (neither e g p w) =
      let l = levels_of stop (words_from s (met_behind s.text met t) (is_empty_pair t.kind ts) ts) in
      let none : one_if (is_empty_pair t.kind ts) ≡ 0 = ap one_if p in
      let left : length (open_behind os t) ≡ length os = ap length (behind_neither os t e g) in
      let made : length (outer_of met false (t ∷ ts)) ≡ length l.outer = ap length (w l) in
      omega arith

  second_step : (met : List T) (t : Token) (ts : List Token) (os : List Opened) → fits os t ≡ true → starts_closing (t ∷ ts) ≡ true →
      length (outer_of met false ts) ≡ length (open_behind os t) → Kind s met t ts t.kind → length (outer_of met false ts) + 1 ≡ length os
  second_step met t ts os f c h (closer b e g p w) =
      let left : length (open_behind os t) ≡ length (drop 1 os) = ap length (behind_closer os t b e g) in
      let closed : length os ≡ suc (length (drop 1 os)) = one_closed os b (sym (fits_closer os t b e) ∙ f) in
      omega arith
  second_step met t ts os f c h (opener b e g w) =
      absurd (let z : starts_closing (t ∷ ts) ≡ false = ap (λ o. elim o [ Some b ↦ true | None ↦ false ]) e in cc)
  second_step met t ts os f c h (neither e g p w) =
      absurd (let z : starts_closing (t ∷ ts) ≡ false = ap (λ o. elim o [ Some b ↦ true | None ↦ false ]) e in cc)

  counted : (met : List T) (inside : Bool) (ts : List Token) (os : List Opened) → unmatched os ts ≡ None
      → (inside ≡ true → starts_closing ts ≡ true) →
      length (outer_of met inside ts) + one_if inside ≡ length os
  counted met true [] os h g = absurd (let z : false ≡ true = g refl in cc)
  counted met false [] os h g = let e : length os ≡ 0 = none_open os h in omega arith
  counted met true (t ∷ ts) os h g =
      let f = fitting (fits os t) (unmatched (open_behind os t) ts) t.from h in
      let ih : length (outer_of met false ts) + 0 ≡ length (open_behind os t) =
      counted met false ts (open_behind os t) f.1 (λ e. absurd (cc)) in
      let ih2 : length (outer_of met false ts) ≡ length (open_behind os t) = omega arith in
      second_step met t ts os f.0 (g refl) ih2 (kind_of s met t ts t.kind)
  counted met false (t ∷ ts) os h g =
      let f = fitting (fits os t) (unmatched (open_behind os t) ts) t.from h in
      let ih = counted (met_behind s.text met t) (is_empty_pair t.kind ts) ts (open_behind os t) f.1 (pair_closes t.kind ts) in
      let made : length (outer_of met false (t ∷ ts)) ≡ length os = first_step met t ts os f.0 ih (kind_of s met t ts t.kind) in
      omega arith

  -- no closing bracket is without a partner
  pub none_outside : (ts : List Token) → unmatched [] ts ≡ None → (levels_of stop (words_of s ts)).outer ≡ []
  none_outside ts h =
      let e : length (outer_of [] false ts) + 0 ≡ 0 = counted [] false ts [] h (λ e. absurd (cc)) in
      let z : length (outer_of [] false ts) ≡ 0 = omega arith in
      nil_of (outer_of [] false ts) z
