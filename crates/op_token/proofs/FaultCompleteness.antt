-- Where a fault of a token stands, it is told, with its place.
use Rattle.std.proofs.Common.{◌≡◌, ℕ, suc, ◌+◌, ◌*◌, ◌<◌, ◌≤◌, Bool, true, false, ◌&&◌, ◌||◌, List, [], ◌∷◌, ◌++◌, Option, Some, None}
use Rattle.std.proofs.Common.{length, map, take, drop, refl, ap, sym, ◌∙◌, subst, cond, arith, append_assoc, take-append-drop, inl, inr}
use Rattle.std.specs.Prelude.{◌==◌, nat_lt, nat_le, codes, All, unwrap_or}
use Rattle.std.specs.Option.{option_map_or}
use Rattle.std.specs.List.{concat}
use Rattle.std.specs.Char.{IsScalar}
use Rattle.std.proofs.lemmas.Bool.{eqb-true, eq-eqb, ne_eqb, leb-true, cases_lt}
use Rattle.std.proofs.lemmas.List.Elements.{All-head, All-tail}
use Rattle.std.proofs.lemmas.Str.{encode_ascii}
use Rattle.std.proofs.Math.Seq.{take-append_seam, drop-append_seam}
use lib.Utf8.{encode, low_scalar}
use Rattle.op_token.specs.declared.character.Character.{Character}
use Rattle.op_token.specs.declared.escape.Escape.{Escape}
use Rattle.op_token.specs.declared.class.Class.{Class}
use Rattle.op_token.specs.declared.class.Class.TheVariants.{Layout, Percent, Small, Capital, Digit, SingleQuote, DoubleQuote, Slash}
use Rattle.op_token.specs.declared.class.Class.TheVariants.{Dot, Symbol, Solo, Punctuation, Bad}
use Rattle.op_token.specs.declared.set.Set.{Set}
use Rattle.op_token.specs.declared.set.Set.TheVariants.{Decimal, Hexadecimal, Octal, Binary}
use Rattle.op_token.specs.declared.spelling.Spelling.{Spelling}
use Rattle.op_token.specs.declared.spelling.Spelling.TheVariants.{Whole}
use Rattle.op_token.specs.declared.token.TokenKind.{TokenKind}
use Rattle.op_token.specs.declared.token.TokenKind.TheVariants.{QuotedName, Text, Integer}
use Rattle.op_token.specs.declared.token.TokenFaultKind.{TokenFaultKind}
use Rattle.op_token.specs.declared.token.TokenFaultKind.TheVariants.{BadChar, OpenQuote, OpenComment, BadEscape, BadNumber, NumberRange}
use Rattle.op_token.specs.Set.{run, has, begins_with}
use Rattle.op_token.specs.Character.{char_at}
use Rattle.op_token.specs.Class.{class_of}
use Rattle.op_token.specs.Spelling.{fault, number_of, escape_at, quoted_from, ranged, least_magnitude, based, is_fraction, decimal}
use Rattle.op_token.specs.Spelling.{escaped_code_at, code_at, line_from, block_from, spelled, begins}
use Rattle.op_token.specs.Spellings.{is_one_of, are_of, decimal_digits, hexadecimal_digits, value_of_digit, IsNumber, newline}
use Rattle.op_token.specs.Spellings.{IsCharacterCode, quote_twice, IsInRange, within}
use Rattle.op_token.specs.SpellingFaults.{HasNoCharacter, HasNoEscape, closes_comment, LineUpTo, BlockUpTo, QuotedUpTo, beginners}
use Rattle.op_token.specs.SpellingFaults.{IsBadCharacter, begins_nothing, in_line, in_block, in_quotes, ends_line, IsBadEscape}
use Rattle.op_token.specs.SpellingFaults.{escape_in_quotes, escape_in_code, starts_with, starts_fraction, IsBadNumber, no_binary}
use Rattle.op_token.specs.SpellingFaults.{no_octal, no_hexadecimal, fraction, no_code, newline_code, IsTooGreat, great_decimal}
use Rattle.op_token.specs.SpellingFaults.{great_binary, great_octal, great_hexadecimal, IsFault}
use Rattle.op_token.proofs.SpellingEnds.{and_left, and_right}
use Rattle.op_token.proofs.Utf8Characters.{char_read}
use Rattle.op_token.proofs.CommentsAndQuotes.{line_char, block_char}
use Rattle.op_token.proofs.AsciiNames.{class_low}
use Rattle.op_token.proofs.CharacterClasses.{same_on, all_below, below, characters, set_has, set_is}
use Rattle.op_token.proofs.SpellingSoundness.{both, front_is, escape_sound, in_range, code_plain}
use Rattle.op_token.proofs.SpellingCompleteness.{shape, length_both, quoted_along, number_is}

-- what stands first, by the scanner's test and by that of the definitions
pub starts_one : (c : ℕ) (s : List ℕ) → begins_with c s ≡ starts_with (c ∷ []) s
starts_one c [] = refl
starts_one c (b ∷ s) = go (b == c)
  where
    go : (t : Bool) → t ≡ (t || false)
    go true = refl
    go false = refl

-- a byte with which no character begins
pub no_character : (b : ℕ) (t : List ℕ) → HasNoCharacter (b ∷ t) → (char_at b t ≡ None) × (128 ≤ b)
no_character b t w = (
  go (char_at b t) refl,
  elim (cases_lt b 128) [
    | inl l ↦ absurd
        (w.none b t (low_scalar b (omega arith)) (ap (λ x. x ++ t) (sym (encode_ascii b l))))
    | inr l ↦ l
  ],
)
  where
    go : (o : Option Character) → char_at b t ≡ o → char_at b t ≡ None
    go None e = e
    go (Some c) e =
        let r = char_read b t c e in
        absurd (w.none c.code (drop c.more t) r.0 (ap (λ x. b ∷ x) (sym (take-append-drop c.more t))
        ∙ ap (λ x. x ++ drop c.more t) (sym r.1)))

pub no_escape : (s : List ℕ) → HasNoEscape s → escape_at s ≡ None
no_escape s w = go (escape_at s) refl
  where
    go : (o : Option Escape) → escape_at s ≡ o → escape_at s ≡ None
    go None e = e
    go (Some x) e = absurd (w (take x.len s) (drop x.len s) x.code (escape_sound s x e) (sym (take-append-drop x.len s)))

-- quoted text
abbrev pub Quoting : ℕ → Type 0
Quoting q = (k : TokenKind) × ((at : ℕ) (minus : Bool) (t : List ℕ) → begins at minus (q ∷ t) ≡ quoted_from k q at (at + 1) 0 t)
    × (q < 128) × (q ≡ 10 → ⊥) × (q ≡ 92 → ⊥)

or_none : (a : Bool) → (a || false) ≡ true → a ≡ true
or_none true h = refl
or_none false h = cc

pub quoting : (q : ℕ) → is_one_of (codes "'\"") q ≡ true → Quoting q
quoting q h = go (q == 39) refl h
  where
    go : (t : Bool) → (q == 39) ≡ t → (t || (q == 34 || false)) ≡ true → Quoting q
    go true e k = subst Quoting (sym (eqb-true q 39 e)) (
      QuotedName,
      (λ at minus t. refl),
      omega arith,
      (λ z. omega arith),
      (λ z. omega arith),
    )
    go false e k = subst Quoting (sym (eqb-true q 34 (or_none (q == 34) k)))
        (Text, (λ at minus t. refl), omega arith, (λ z. omega arith), (λ z. omega arith))

-- what is said of the rest of a text in quotes
pub quoted_reach : (at : ℕ) (minus : Bool) (s rest : List ℕ) (w : QuotedUpTo s rest)
    → begins at minus s ≡ quoted_from (quoting w.quote w.is_quote).0 w.quote at (at + 1 + length w.body) 0 rest
quoted_reach at minus s rest w =
    let z = quoting w.quote w.is_quote in
    ap (begins at minus) w.split ∙ z.1 at minus (w.body ++ rest)
    ∙ quoted_along z.0 w.quote at z.2 z.3 z.4 rest (at + 1) w.body w.meant w.are

pub quoted_bad : (kind : TokenKind) (q start at : ℕ) (s : List ℕ) → q < 128 → HasNoCharacter s
    → quoted_from kind q start at 0 s ≡ fault at BadChar
quoted_bad kind q start at [] l w = let p : 0 < 0 = w.some in absurd (omega arith)
quoted_bad kind q start at (b ∷ t) l w =
    let c = no_character b t w in
    let h : 128 ≤ b = c.1 in
    rw (ne_eqb b 10 (λ e. omega arith), ne_eqb b q (λ e. omega arith), ne_eqb b 92 (λ e. omega arith), c.0) refl

pub quoted_open : (kind : TokenKind) (q start at : ℕ) (s : List ℕ) → ends_line s ≡ true
    → quoted_from kind q start at 0 s ≡ fault start OpenQuote
quoted_open kind q start at [] h = refl
quoted_open kind q start at (b ∷ t) h = rw h refl

pub quoted_no_escape : (kind : TokenKind) (q start at : ℕ) (s : List ℕ) → (q ≡ 92 → ⊥) → escape_at s ≡ None
    → quoted_from kind q start at 0 (92 ∷ s) ≡ fault at BadEscape
quoted_no_escape kind q start at s n e = rw (ne_eqb 92 q (λ z. n (sym z)), e) refl

-- comments
line_skip : (at : ℕ) (t r : List ℕ) → line_from at (length t) (t ++ r) ≡ line_from (at + length t) 0 r
line_skip at [] r = let e : at ≡ at + 0 = omega arith in ap (λ a. line_from a 0 r) e
line_skip at (b ∷ t) r = let e : suc at + length t ≡ at + suc (length t) = omega arith in line_skip (suc at) t r
    ∙ ap (λ a. line_from a 0 r) e

block_skip : (start at : ℕ) (t r : List ℕ) → block_from start at (length t) (t ++ r) ≡ block_from start (at + length t) 0 r
block_skip start at [] r = let e : at ≡ at + 0 = omega arith in ap (λ a. block_from start a 0 r) e
block_skip start at (b ∷ t) r = let e : suc at + length t ≡ at + suc (length t) = omega arith in block_skip start (suc at) t r
    ∙ ap (λ a. block_from start a 0 r) e

abbrev pub spelt : List ℕ → List ℕ
spelt cs = concat (map encode cs)

pub or_left : (a b : Bool) → (a || b) ≡ false → a ≡ false
or_left true b h = h
or_left false b h = refl

pub or_right : (a b : Bool) → (a || b) ≡ false → b ≡ false
or_right true b h = cc
or_right false b h = h

member_rest : (n : ℕ) (xs ys : List ℕ) → is_one_of (xs ++ ys) n ≡ false → is_one_of ys n ≡ false
member_rest n [] ys h = h
member_rest n (x ∷ xs) ys h = member_rest n xs ys (or_right (n == x) (is_one_of (xs ++ ys) n) h)

closes_rest : (xs ys : List ℕ) → closes_comment (xs ++ ys) ≡ false → closes_comment ys ≡ false
closes_rest [] ys h = h
closes_rest (x ∷ xs) ys h = closes_rest xs ys (or_right (x == 42 && starts_with (codes "/") (xs ++ ys)) (closes_comment (xs ++ ys)) h)

straddle : (b : ℕ) (ys r : List ℕ) → (b == 42 && starts_with (codes "/") ys) ≡ false → begins_with 47 r ≡ false
    → (b == 42 && begins_with 47 (ys ++ r)) ≡ false
straddle b [] r h g = and_no (b == 42) (begins_with 47 r) g
  where
    and_no : (a b : Bool) → b ≡ false → (a && b) ≡ false
    and_no true b h = h
    and_no false b h = refl
straddle b (y ∷ ys) r h g = ap (λ t. b == 42 && t) (starts_one 47 (y ∷ (ys ++ r))) ∙ h

line_along : (at : ℕ) (cs r : List ℕ) → All IsScalar cs → is_one_of (spelt cs) 10 ≡ false
    → line_from at 0 (spelt cs ++ r) ≡ line_from (at + length (spelt cs)) 0 r
line_along at [] r h n = let e : at ≡ at + 0 = omega arith in ap (λ a. line_from a 0 r) e
line_along at (c ∷ cs) r h n =
    let w = shape c (spelt cs ++ r) (All-head IsScalar c cs h) in
    let m : is_one_of ((w.0 ∷ w.1) ++ spelt cs) 10 ≡ false = subst (λ x. is_one_of (x ++ spelt cs) 10 ≡ false) w.2 n in
    let nb : w.0 ≡ 10 → ⊥ = λ e. other (or_left (10 == w.0) (is_one_of (w.1 ++ spelt cs) 10) m) e in
    let p : length (encode c) ≡ suc (length w.1) = ap length w.2 in
    let l : suc at + length w.1 + length (spelt cs) ≡ at + length (encode c ++ spelt cs) = omega
    (arith, length_both (encode c) (spelt cs), p) in
    ap (λ x. line_from at 0 ((x ++ spelt cs) ++ r)) w.2
    ∙ ap (line_from at 0) (append_assoc (w.0 ∷ w.1) (spelt cs) r)
    ∙ line_char at w.0 (w.1 ++ (spelt cs ++ r)) (record { code = c; more = length w.1 }) nb w.3
    ∙ line_skip (suc at) w.1 (spelt cs ++ r)
    ∙ line_along (suc at + length w.1) cs r (All-tail IsScalar c cs h) (member_rest 10 (w.0 ∷ w.1) (spelt cs) m)
    ∙ ap (λ a. line_from a 0 r) l
  where
    other : {b : ℕ} → (10 == b) ≡ false → b ≡ 10 → ⊥
    other {b} h e = let z : true ≡ false = sym (eq-eqb 10 b (sym e)) ∙ h in cc

block_along : (start at : ℕ) (cs r : List ℕ) → All IsScalar cs → closes_comment (spelt cs) ≡ false → begins_with 47 r ≡ false
    → block_from start at 0 (spelt cs ++ r) ≡ block_from start (at + length (spelt cs)) 0 r
block_along start at [] r h n g = let e : at ≡ at + 0 = omega arith in ap (λ a. block_from start a 0 r) e
block_along start at (c ∷ cs) r h n g =
    let w = shape c (spelt cs ++ r) (All-head IsScalar c cs h) in
    let m : closes_comment ((w.0 ∷ w.1) ++ spelt cs) ≡ false = subst (λ x. closes_comment (x ++ spelt cs) ≡ false) w.2 n in
    let nb : (w.0 == 42 && begins_with 47 (w.1 ++ (spelt cs ++ r))) ≡ false =
    ap (λ x. w.0 == 42 && begins_with 47 x) (sym (append_assoc w.1 (spelt cs) r))
    ∙ straddle w.0 (w.1 ++ spelt cs) r (or_left (w.0 == 42 && starts_with (codes "/") (w.1 ++ spelt cs))
    (closes_comment (w.1 ++ spelt cs)) m) g in
    let p : length (encode c) ≡ suc (length w.1) = ap length w.2 in
    let l : suc at + length w.1 + length (spelt cs) ≡ at + length (encode c ++ spelt cs) = omega
    (arith, length_both (encode c) (spelt cs), p) in
    ap (λ x. block_from start at 0 ((x ++ spelt cs) ++ r)) w.2
    ∙ ap (block_from start at 0) (append_assoc (w.0 ∷ w.1) (spelt cs) r)
    ∙ block_char start at w.0 (w.1 ++ (spelt cs ++ r)) (record { code = c; more = length w.1 }) nb w.3
    ∙ block_skip start (suc at) w.1 (spelt cs ++ r)
    ∙ block_along start (suc at + length w.1) cs r (All-tail IsScalar c cs h) (closes_rest (w.0 ∷ w.1) (spelt cs) m) g
    ∙ ap (λ a. block_from start a 0 r) l

pub line_reach : (at : ℕ) (minus : Bool) (s rest : List ℕ) (w : LineUpTo s rest)
    → begins at minus s ≡ line_from (at + 1 + length w.body) 0 rest
line_reach at minus s rest w =
    ap (begins at minus) w.split
    ∙ ap (λ t. line_from (at + 1) 0 (t ++ rest)) w.are.joined
    ∙ line_along (at + 1) w.are.characters rest w.are.each (ap (λ t. is_one_of t 10) (sym w.are.joined) ∙ w.open_still)
    ∙ ap (λ t. line_from (at + 1 + length t) 0 rest) (sym w.are.joined)

pub block_reach : (at : ℕ) (minus : Bool) (s rest : List ℕ) (w : BlockUpTo s rest) → begins_with 47 rest ≡ false
    → begins at minus s ≡ block_from at (at + 2 + length w.body) 0 rest
block_reach at minus s rest w g =
    ap (begins at minus) w.split
    ∙ ap (λ t. block_from at (at + 2) 0 (t ++ rest)) w.are.joined
    ∙ block_along at (at + 2) w.are.characters rest w.are.each (ap closes_comment (sym w.are.joined) ∙ w.open_still) g
    ∙ ap (λ t. block_from at (at + 2 + length t) 0 rest) (sym w.are.joined)

pub line_bad : (at : ℕ) (s : List ℕ) → HasNoCharacter s → line_from at 0 s ≡ fault at BadChar
line_bad at [] w = let p : 0 < 0 = w.some in absurd (omega arith)
line_bad at (b ∷ t) w = let c = no_character b t w in let h : 128 ≤ b = c.1 in rw (ne_eqb b 10 (λ e. omega arith), c.0) refl

pub block_bad : (start at : ℕ) (s : List ℕ) → HasNoCharacter s → (begins_with 47 s ≡ false) × (block_from start at 0 s ≡ fault at BadChar)
block_bad start at [] w = let p : 0 < 0 = w.some in absurd (omega arith)
block_bad start at (b ∷ t) w = let c = no_character b t w in let h : 128 ≤ b = c.1 in
    (ne_eqb b 47 (λ e. omega arith), rw (ne_eqb b 42 (λ e. omega arith), c.0) refl)

-- a byte that begins nothing
is_bad : Class → Bool
is_bad Bad = true
is_bad k = false

bad_is : (k : Class) → is_bad k ≡ true → k ≡ Bad
unfolding is_bad
bad_is Bad h = refl
bad_is Layout h = cc
bad_is Percent h = cc
bad_is Small h = cc
bad_is Capital h = cc
bad_is Digit h = cc
bad_is SingleQuote h = cc
bad_is DoubleQuote h = cc
bad_is Slash h = cc
bad_is Dot h = cc
bad_is Symbol h = cc
bad_is Solo h = cc
bad_is (Punctuation k) h = cc

bad_checked : all_below (λ b. is_one_of beginners b || is_bad (class_of b)) 128 ≡ true
unfolding is_bad
bad_checked = refl

bad_class : (b : ℕ) → is_one_of beginners b ≡ false → class_of b ≡ Bad
unfolding is_bad
bad_class b n = elim (cases_lt b 128) [
  | inl l ↦ bad_is (class_of b)
      (right (is_one_of beginners b) (is_bad (class_of b)) n (below
      (λ b. is_one_of beginners b || is_bad (class_of b)) 128 b bad_checked l))
  | inr l ↦ go l (class_of b) refl
]
  where
    right : (a c : Bool) → a ≡ false → (a || c) ≡ true → c ≡ true
    right false c h g = g
    right true c h g = cc

    high : (k : Class) → 128 ≤ b → class_of b ≡ k → (k ≡ Bad → ⊥) → class_of b ≡ Bad
    high k l e n = let low : b < 128 = class_low b (λ q. n (sym e ∙ q)) in absurd (omega arith)

    go : 128 ≤ b → (k : Class) → class_of b ≡ k → class_of b ≡ Bad
    go l Bad e = e
    go l Layout e = high Layout l e (λ q. cc)
    go l Percent e = high Percent l e (λ q. cc)
    go l Small e = high Small l e (λ q. cc)
    go l Capital e = high Capital l e (λ q. cc)
    go l Digit e = high Digit l e (λ q. cc)
    go l SingleQuote e = high SingleQuote l e (λ q. cc)
    go l DoubleQuote e = high DoubleQuote l e (λ q. cc)
    go l Slash e = high Slash l e (λ q. cc)
    go l Dot e = high Dot l e (λ q. cc)
    go l Symbol e = high Symbol l e (λ q. cc)
    go l Solo e = high Solo l e (λ q. cc)
    go l (Punctuation kind) e = high (Punctuation kind) l e (λ q. cc)

-- the place of a fault
place_at : (at n place : ℕ) (kind : TokenFaultKind) → n ≡ at + place → fault n kind ≡ fault (at + place) kind
place_at at n place kind e = ap (λ i. fault i kind) e

bad_character_told : (at : ℕ) (minus : Bool) (s : List ℕ) (place : ℕ) → IsBadCharacter s place
    → begins at minus s ≡ fault (at + place) BadChar
bad_character_told at minus s place (begins_nothing b behind n e p) =
    ap (begins at minus) e ∙ ap (λ k. spelled k at minus b behind) (bad_class b n) ∙ place_at at at place BadChar (omega arith)
bad_character_told at minus s place (in_line rest w n p) =
    line_reach at minus s rest w ∙ line_bad (at + 1 + length w.body) rest n
    ∙ place_at at (at + 1 + length w.body) place BadChar (omega arith)
bad_character_told at minus s place (in_block rest w n p) =
    let c = block_bad at (at + 2 + length w.body) rest n in
    block_reach at minus s rest w c.0 ∙ c.1 ∙ place_at at (at + 2 + length w.body) place BadChar (omega arith)
bad_character_told at minus s place (in_quotes rest w n p) =
    let z = quoting w.quote w.is_quote in
    quoted_reach at minus s rest w ∙ quoted_bad z.0 w.quote at (at + 1 + length w.body) rest z.2 n
    ∙ place_at at (at + 1 + length w.body) place BadChar (omega arith)

no_newline : (s : List ℕ) → HasNoEscape s → begins_with 10 s ≡ false
no_newline s w = go (begins_with 10 s) refl
  where
    go : (t : Bool) → begins_with 10 s ≡ t → begins_with 10 s ≡ false
    go false e = e
    go true e = absurd (w (10 ∷ []) (drop 1 s) None (newline refl refl) (front_is 10 s e))

bad_escape_told : (at : ℕ) (minus : Bool) (s : List ℕ) (place : ℕ) → IsBadEscape s place
    → begins at minus s ≡ fault (at + place) BadEscape
bad_escape_told at minus s place (escape_in_quotes rest w n p) =
    let z = quoting w.quote w.is_quote in
    quoted_reach at minus s (92 ∷ rest) w ∙ quoted_no_escape z.0 w.quote at (at + 1 + length w.body) rest z.4 (no_escape rest n)
    ∙ place_at at (at + 1 + length w.body) place BadEscape (omega arith)
bad_escape_told at minus s place (escape_in_code rest e n p) =
    ap (begins at minus) e
    ∙ ap (λ t. cond t (fault at BadNumber) (option_map_or (λ (x : Escape). Whole (Integer (unwrap_or x.code 0))
    (at + 3 + x.len)) (escape_at rest) (fault (at + 2) BadEscape))) (no_newline rest n)
    ∙ ap (λ o. option_map_or (λ (x : Escape). Whole (Integer (unwrap_or x.code 0)) (at + 3 + x.len)) o
    (fault (at + 2) BadEscape)) (no_escape rest n)
    ∙ place_at at (at + 2) place BadEscape (omega arith)

-- digits
not_in : (set : Set) (b : ℕ) → is_one_of (characters set) b ≡ false → has set b ≡ false
not_in set b n = go (has set b) refl
  where
    no : true ≡ false → ⊥
    no h = cc

    go : (t : Bool) → has set b ≡ t → has set b ≡ false
    go false e = e
    go true e = absurd (no (sym (set_is set b e) ∙ n))

run_none : (set : Set) (r : List ℕ) → starts_with (characters set) r ≡ false → run set r ≡ 0
run_none set [] h = refl
run_none set (b ∷ r) h = ap (λ t. cond t (suc (run set r)) 0) (not_in set b h)

pub run_upto : (set : Set) (xs r : List ℕ) → are_of (characters set) xs ≡ true → starts_with (characters set) r ≡ false
    → run set (xs ++ r) ≡ length xs
run_upto set [] r h n = run_none set r n
run_upto set (c ∷ xs) r h n =
    let one = set_has set c (and_left (is_one_of (characters set) c) (are_of (characters set) xs) h) in
    ap (λ t. cond t (suc (run set (xs ++ r))) 0) one ∙ ap suc
    (run_upto set xs r (and_right (is_one_of (characters set) c) (are_of (characters set) xs) h) n)

based_none : (base : ℕ) (set : Set) (at : ℕ) (minus : Bool) (r : List ℕ) → starts_with (characters set) r ≡ false
    → based base set at minus r ≡ fault at BadNumber
based_none base set at minus r n = ap (λ d. cond (d == 0) (fault at BadNumber)
    (ranged at minus (number_of base (take d r)) (at + 2 + d))) (run_none set r n)

ranged_great : (at : ℕ) (minus : Bool) (n end : ℕ) → (IsInRange minus n → ⊥) → ranged at minus n end ≡ fault at NumberRange
ranged_great at minus n end w = go (nat_lt n least_magnitude || (minus && n == least_magnitude)) refl
  where
    go : (t : Bool) → (nat_lt n least_magnitude || (minus && n == least_magnitude)) ≡ t → ranged at minus n end ≡ fault at NumberRange
    go true e = absurd (w (in_range minus n e))
    go false e = ap (λ t. cond t (Whole (Integer n) end) (fault at NumberRange)) e

based_great : (base : ℕ) (set : Set) (at : ℕ) (minus : Bool) (ds rest : List ℕ) (n : ℕ)
    → map (is_one_of hexadecimal_digits) (characters set) ≡ map (λ b. true) (characters set)
    → IsNumber base (characters set) ds n → (IsInRange minus n → ⊥) → starts_with (characters set) rest ≡ false
    → based base set at minus (ds ++ rest) ≡ fault at NumberRange
based_great base set at minus ds rest n c w g f =
    ap (λ d. cond (d == 0) (fault at BadNumber) (ranged at minus (number_of base (take d (ds ++ rest))) (at + 2 + d)))
    (run_upto set ds rest w.each f)
    ∙ ap (λ t. cond t (fault at BadNumber) (ranged at minus (number_of base (take (length ds) (ds ++ rest)))
    (at + 2 + length ds))) (ne_eqb (length ds) 0 (λ e. let p : 0 < length ds = w.some in omega arith))
    ∙ ap (λ t. ranged at minus (number_of base t) (at + 2 + length ds)) (take-append_seam ds rest)
    ∙ ap (λ v. ranged at minus v (at + 2 + length ds)) (number_is base set ds n c w)
    ∙ ranged_great at minus n (at + 2 + length ds) g

-- decimal digits
abbrev pub AreDecimal : List ℕ → Type 0
AreDecimal t = (begins_with 39 t ≡ false) × (begins_with 120 t ≡ false) × (begins_with 111 t ≡ false) × (begins_with 98 t ≡ false)

decimal_chosen : (at : ℕ) (minus : Bool) (b : ℕ) (t : List ℕ) → is_one_of decimal_digits b ≡ true → AreDecimal t
    → begins at minus (b ∷ t) ≡ decimal at minus (b ∷ t)
decimal_chosen at minus b t f w =
    ap (λ k. spelled k at minus b t) (same_on class_of (λ b. Digit) decimal_digits b refl f)
    ∙ by (b == 48) (begins_with 39 t) (begins_with 120 t) (begins_with 111 t) (begins_with 98 t) (code_at at (drop 1 t))
    (based 16 Hexadecimal at minus (drop 1 t)) (based 8 Octal at minus (drop 1 t)) (based 2 Binary at minus (drop 1 t))
    (decimal at minus (b ∷ t)) w.0 w.1 w.2 w.3
  where
    by : (z t u v x : Bool) (a b c d e : Spelling) → t ≡ false → u ≡ false → v ≡ false → x ≡ false
        → cond (z && t) a (cond (z && u) b (cond (z && v) c (cond (z && x) d e))) ≡ e
    by true false false false false a b c d e h1 h2 h3 h4 = refl
    by false t u v x a b c d e h1 h2 h3 h4 = refl
    by true true u v x a b c d e h1 h2 h3 h4 = cc
    by true false true v x a b c d e h1 h2 h3 h4 = cc
    by true false false true x a b c d e h1 h2 h3 h4 = cc
    by true false false false true a b c d e h1 h2 h3 h4 = cc

decimal_front : (b : ℕ) (t : List ℕ) → is_one_of decimal_digits b ≡ true → AreDecimal (b ∷ t)
decimal_front b t h = (
  same_on (λ b. b == 39) (λ b. false) decimal_digits b refl h,
  same_on (λ b. b == 120)
      (λ b. false) decimal_digits b refl h,
  same_on (λ b. b == 111) (λ b. false) decimal_digits b refl h,
  same_on (λ b. b == 98)
      (λ b. false) decimal_digits b refl h,
)

dot_front : (r : List ℕ) → starts_fraction r ≡ true → AreDecimal r × (starts_with decimal_digits r ≡ false)
dot_front [] h = cc
dot_front (b ∷ t) h =
    let e : b ≡ 46 = eqb-true b 46 (and_left (b == 46) (starts_with decimal_digits t) h) in
    subst (λ b. AreDecimal (b ∷ t) × (starts_with decimal_digits (b ∷ t) ≡ false)) (sym e) ((refl, refl, refl, refl), refl)

pub fraction_same : (r : List ℕ) → is_fraction r ≡ starts_fraction r
fraction_same [] = refl
fraction_same (b ∷ []) = no (b == 46)
  where
    no : (t : Bool) → false ≡ (t && false)
    no true = refl
    no false = refl
fraction_same (b ∷ c ∷ r) = ap (λ t. b == 46 && t) (both (has Decimal c) (is_one_of decimal_digits c) (set_is Decimal c)
    (set_has Decimal c))

decimal_of : (at : ℕ) (minus : Bool) (ds rest : List ℕ) (n : ℕ) → IsNumber 10 decimal_digits ds n
    → starts_with decimal_digits rest ≡ false → decimal at minus (ds ++ rest) ≡ cond (starts_fraction rest) (fault at BadNumber)
    (ranged at minus n (at + length ds))
decimal_of at minus ds rest n w f =
    ap (λ d. cond (is_fraction (drop d (ds ++ rest))) (fault at BadNumber)
    (ranged at minus (number_of 10 (take d (ds ++ rest))) (at + d))) (run_upto Decimal ds rest w.each f)
    ∙ ap (λ t. cond (is_fraction t) (fault at BadNumber) (ranged at minus (number_of 10 (take (length ds) (ds ++ rest)))
    (at + length ds))) (drop-append_seam ds rest)
    ∙ ap (λ t. cond t (fault at BadNumber) (ranged at minus (number_of 10 (take (length ds) (ds ++ rest))) (at + length ds)))
    (fraction_same rest)
    ∙ ap (λ t. cond (starts_fraction rest) (fault at BadNumber) (ranged at minus (number_of 10 t) (at + length ds)))
    (take-append_seam ds rest)
    ∙ ap (λ v. cond (starts_fraction rest) (fault at BadNumber) (ranged at minus v (at + length ds))) (number_is 10 Decimal ds n refl w)

-- what digits spell is told as decimal digits, where what follows the first of them is no letter or quote
digits_chosen : (at : ℕ) (minus : Bool) (ds rest : List ℕ) (n : ℕ) → IsNumber 10 decimal_digits ds n
    → starts_with decimal_digits rest ≡ false → ((b : ℕ) → ds ≡ b ∷ [] → AreDecimal rest)
    → begins at minus (ds ++ rest) ≡ cond (starts_fraction rest) (fault at BadNumber) (ranged at minus n (at + length ds))
digits_chosen at minus [] rest n w f g = let p : 0 < 0 = w.some in absurd (omega arith)
digits_chosen at minus (b ∷ []) rest n w f g =
    decimal_chosen at minus b rest (and_left (is_one_of decimal_digits b) true w.each) (g b refl)
    ∙ decimal_of at minus (b ∷ []) rest n w f
digits_chosen at minus (b ∷ c ∷ ds) rest n w f g =
    decimal_chosen at minus b (c ∷ (ds ++ rest)) (and_left (is_one_of decimal_digits b) (are_of decimal_digits (c ∷ ds)) w.each)
    (decimal_front c (ds ++ rest) (and_left (is_one_of decimal_digits c) (are_of decimal_digits ds)
    (and_right (is_one_of decimal_digits b) (are_of decimal_digits (c ∷ ds)) w.each)))
    ∙ decimal_of at minus (b ∷ c ∷ ds) rest n w f

-- one digit is no great number
one_digit : (minus : Bool) (b n : ℕ) → IsNumber 10 decimal_digits (b ∷ []) n → IsInRange minus n
one_digit minus b n w =
    let f : is_one_of decimal_digits b ≡ true = and_left (is_one_of decimal_digits b) true w.each in
    let l : value_of_digit b ≤ 9 = leb-true (value_of_digit b) 9
    (same_on (λ b. nat_le (value_of_digit b) 9) (λ b. true) decimal_digits b refl f) in
    let v : 0 * 10 + value_of_digit b ≡ n = w.value in
    within (omega arith)

code_none : (at : ℕ) (s : List ℕ) → begins_with 92 s ≡ false
    → ((c behind : List ℕ) (n : ℕ) → IsCharacterCode c n → s ≡ c ++ behind → ⊥) → code_at at s ≡ fault at BadNumber
code_none at [] n w = refl
code_none at (b ∷ t) n w =
    ap (λ z. cond z (escaped_code_at at t) (cond (b == 39) (cond (begins_with 39 t) (Whole (Integer 39) (at + 4))
    (fault at BadNumber)) (option_map_or (λ (c : Character). Whole (Integer c.code) (at + 3 + c.more)) (char_at b t)
    (fault at BadNumber)))) n
    ∙ go (b == 39) refl
  where
    quotes : (z : Bool) → (b == 39) ≡ true → begins_with 39 t ≡ z
        → cond z (Whole (Integer 39) (at + 4)) (fault at BadNumber) ≡ fault at BadNumber
    quotes false e h = refl
    quotes true e h = absurd (w (39 ∷ 39 ∷ []) (drop 1 t) 39 (quote_twice refl refl) (ap (λ i. i ∷ t) (eqb-true b 39 e)
        ∙ ap (λ x. 39 ∷ x) (front_is 39 t h)))

    char : (o : Option Character) → (b == 39) ≡ false → char_at b t ≡ o
        → option_map_or (λ (c : Character). Whole (Integer c.code) (at + 3 + c.more)) o (fault at BadNumber) ≡ fault at BadNumber
    char None e h = refl
    char (Some c) e h = absurd (w (b ∷ take c.more t) (drop c.more t) c.code (code_plain b t c n e h)
        (ap (λ x. b ∷ x) (sym (take-append-drop c.more t))))

    go : (z : Bool) → (b == 39) ≡ z → cond z (cond (begins_with 39 t) (Whole (Integer 39) (at + 4)) (fault at BadNumber))
        (option_map_or (λ (c : Character). Whole (Integer c.code) (at + 3 + c.more)) (char_at b t) (fault at BadNumber)) ≡ fault
        at BadNumber
    go true e = quotes (begins_with 39 t) e refl
    go false e = char (char_at b t) e refl

bad_number_told : (at : ℕ) (minus : Bool) (s : List ℕ) → IsBadNumber s → begins at minus s ≡ fault at BadNumber
bad_number_told at minus s (no_binary rest e n) = ap (begins at minus) e ∙ based_none 2 Binary at minus rest n
bad_number_told at minus s (no_octal rest e n) = ap (begins at minus) e ∙ based_none 8 Octal at minus rest n
bad_number_told at minus s (no_hexadecimal rest e n) = ap (begins at minus) e ∙ based_none 16 Hexadecimal at minus rest n
bad_number_told at minus s (fraction ds rest n w f e) =
    let d = dot_front rest f in
    ap (begins at minus) e ∙ digits_chosen at minus ds rest n w d.1 (λ b p. d.0)
    ∙ ap (λ t. cond t (fault at BadNumber) (ranged at minus n (at + length ds))) f
bad_number_told at minus s (no_code rest e n w) = ap (begins at minus) e ∙ code_none at rest (starts_one 92 rest ∙ n) w
bad_number_told at minus s (newline_code rest e) = ap (begins at minus) e

too_great_told : (at : ℕ) (minus : Bool) (s : List ℕ) → IsTooGreat minus s → begins at minus s ≡ fault at NumberRange
too_great_told at minus s (great_decimal ds rest n w g f h e) =
    ap (begins at minus) e
    ∙ digits_chosen at minus ds rest n w f (λ b p. absurd (g (one_digit minus b n (subst (λ t. IsNumber 10 decimal_digits t n) p w))))
    ∙ ap (λ t. cond t (fault at BadNumber) (ranged at minus n (at + length ds))) h
    ∙ ranged_great at minus n (at + length ds) g
too_great_told at minus s (great_binary ds rest n w g f e) = ap (begins at minus) e ∙ based_great 2 Binary at minus ds rest n refl w g f
too_great_told at minus s (great_octal ds rest n w g f e) = ap (begins at minus) e ∙ based_great 8 Octal at minus ds rest n refl w g f
too_great_told at minus s (great_hexadecimal ds rest n w g f e) = ap (begins at minus) e
    ∙ based_great 16 Hexadecimal at minus ds rest n refl w g f

pub fault_told : (at : ℕ) (minus : Bool) (s : List ℕ) (kind : TokenFaultKind) (place : ℕ) → IsFault minus kind s place
    → begins at minus s ≡ fault (at + place) kind
fault_told at minus s BadChar place h = bad_character_told at minus s place h
fault_told at minus s OpenQuote place h =
    let p : place ≡ 0 = h.3 in
    let z = quoting h.1.quote h.1.is_quote in
    quoted_reach at minus s h.0 h.1 ∙ quoted_open z.0 h.1.quote at (at + 1 + length h.1.body) h.0 h.2
    ∙ place_at at at place OpenQuote (omega arith)
fault_told at minus s OpenComment place h =
    let p : place ≡ 0 = h.1 in
    block_reach at minus s [] h.0 refl ∙ place_at at at place OpenComment (omega arith)
fault_told at minus s BadEscape place h = bad_escape_told at minus s place h
fault_told at minus s BadNumber place h = let p : place ≡ 0 = h.1 in bad_number_told at minus s h.0
    ∙ place_at at at place BadNumber (omega arith)
fault_told at minus s NumberRange place h = let p : place ≡ 0 = h.1 in too_great_told at minus s h.0
    ∙ place_at at at place NumberRange (omega arith)
