-- Each spelling of a token, alone, is taken as that token.
use Rattle.std.proofs.Common.{◌≡◌, ℕ, zero, suc, ◌+◌, ◌-◌, ◌<◌, ◌≤◌, Bool, true, false, ◌&&◌, ◌||◌, List, [], ◌∷◌, ◌++◌, Option, Some}
use Rattle.std.proofs.Common.{None, length, map, take, drop, refl, ap, sym, ◌∙◌, subst, cond, arith, append_assoc, append-nil, inl, inr}
use Rattle.std.proofs.Common.{◌⊎◌}
use Rattle.std.specs.Prelude.{◌==◌, not, nat_lt, codes, unwrap_or, if◌then◌else◌}
use Rattle.std.specs.Option.{option_map_or}
use Rattle.std.specs.Char.{IsScalar}
use Rattle.std.proofs.lemmas.Bool.{eqb-true, eqb-false, eq-eqb, ne_eqb, lt-ltb, or_parts}
use Rattle.std.proofs.Math.Seq.{take-append_seam, drop-append_seam}
use lib.Utf8.{encode}
use Rattle.op_token.specs.declared.character.Character.{Character}
use Rattle.op_token.specs.declared.escape.Escape.{Escape}
use Rattle.op_token.specs.declared.class.Class.{Class}
use Rattle.op_token.specs.declared.class.Class.TheVariants.{Small, Capital, Digit, Slash, Dot, Symbol}
use Rattle.op_token.specs.declared.set.Set.{Set}
use Rattle.op_token.specs.declared.set.Set.TheVariants.{Word, Symbol as symbols, Decimal, Hexadecimal, Octal, Binary}
use Rattle.op_token.specs.declared.spelling.Spelling.{Spelling}
use Rattle.op_token.specs.declared.spelling.Spelling.TheVariants.{Whole}
use Rattle.op_token.specs.declared.token.TokenKind.{TokenKind}
use Rattle.op_token.specs.declared.token.TokenKind.TheVariants.{Name, QuotedName, Variable, Integer, Text, OpenRound, CloseRound}
use Rattle.op_token.specs.declared.token.TokenKind.TheVariants.{OpenSquare, CloseSquare, OpenCurly, CloseCurly, Comma, Bar, End}
use Rattle.op_token.specs.declared.token.TokenFaultKind.TheVariants.{BadEscape, BadNumber, NumberRange}
use Rattle.op_token.specs.Set.{run, has, begins_with}
use Rattle.op_token.specs.Character.{is_scalar, char_at, first_char}
use Rattle.op_token.specs.Class.{class_of}
use Rattle.op_token.specs.Spelling.{fault, simple_escape, number_of, numbered, escape_at, quoted_from, ranged, least_magnitude, based}
use Rattle.op_token.specs.Spelling.{is_fraction, decimal, escaped_code_at, code_at, ends_clause, block_from, spelled, begins}
use Rattle.op_token.specs.Spellings.{small_letters, variable_starts, alphanumeric, symbol_characters, is_one_of, are_of, opens_comment}
use Rattle.op_token.specs.Spellings.{is_word_from, is_symbol_name, IsName, word_name, symbol_name, cut_name, semicolon_name, IsNumber}
use Rattle.op_token.specs.Spellings.{octal_digits, decimal_digits, hexadecimal_digits, signs, sign_value, IsEscape, sign, newline}
use Rattle.op_token.specs.Spellings.{octal_code, hexadecimal_code, IsQuotedCharacter, plain, doubled, escaped, AreQuoted}
use Rattle.op_token.specs.Spellings.{no_characters, one_more}
use Rattle.op_token.specs.Spellings.{IsCharacterCode, character, quote_twice, escape, IsInRange, within, least, binary, octal}
use Rattle.op_token.specs.Spellings.{hexadecimal, IsInteger, number, code, IsToken, IsBefore}
use Rattle.op_token.specs.Spellings as spellings
use Rattle.op_token.proofs.SpellingEnds.{and_left, and_right}
use Rattle.op_token.proofs.Utf8Characters.{scalar_is, char_reads}
use Rattle.op_token.proofs.CommentsAndQuotes.{quoted_char, quoted_escape, quoted_quote}
use Rattle.op_token.proofs.LongestTokens.{longest}
use Rattle.op_token.proofs.CharacterClasses.{same_on, characters, set_has, are_within, values_same}

-- lists
whole_take : (s : List ℕ) → take (length s) s ≡ s
whole_take [] = refl
whole_take (b ∷ s) = ap (λ t. b ∷ t) (whole_take s)

whole_drop : (s : List ℕ) → drop (length s) s ≡ []
whole_drop [] = refl
whole_drop (b ∷ s) = whole_drop s

-- runs
run_stops : (set : Set) (xs : List ℕ) (b : ℕ) (r : List ℕ) → are_of (characters set) xs ≡ true → has set b ≡ false
    → run set (xs ++ b ∷ r) ≡ length xs
run_stops set [] b r h n = ap (λ t. cond t (suc (run set r)) 0) n
run_stops set (c ∷ xs) b r h n =
    let one = set_has set c (and_left (is_one_of (characters set) c) (are_of (characters set) xs) h) in
    ap (λ t. cond t (suc (run set (xs ++ b ∷ r))) 0) one ∙ ap suc
    (run_stops set xs b r (and_right (is_one_of (characters set) c) (are_of (characters set) xs) h) n)

run_all : (set : Set) (xs : List ℕ) → are_of (characters set) xs ≡ true → run set xs ≡ length xs
run_all set [] h = refl
run_all set (c ∷ xs) h =
    let one = set_has set c (and_left (is_one_of (characters set) c) (are_of (characters set) xs) h) in
    ap (λ t. cond t (suc (run set xs)) 0) one
    ∙ ap suc (run_all set xs (and_right (is_one_of (characters set) c) (are_of (characters set) xs) h))

pub number_is : (base : ℕ) (set : Set) (s : List ℕ) (n : ℕ) → map (is_one_of hexadecimal_digits) (characters set) ≡ map
    (λ b. true) (characters set) → IsNumber base (characters set) s n → number_of base s ≡ n
number_is base set s n c w = sym (values_same base s (are_within (characters set) hexadecimal_digits s c w.each)) ∙ w.value

-- escapes
abbrev pub an_escape : Option ℕ → ℕ → Escape
an_escape c l = record { code = c; len = l }

numbered_of : ℕ → ℕ → ℕ → List ℕ → List ℕ → Option Escape
numbered_of base lead d ds r = if nat_lt 0 d && begins_with 92 r && is_scalar (number_of base ds) then Some
    (an_escape (Some (number_of base ds)) (lead + d + 1)) else None

numbered_whole : (base : ℕ) (set : Set) (lead : ℕ) (ds r : List ℕ) (n : ℕ) → has set 92 ≡ false
    → map (is_one_of hexadecimal_digits) (characters set) ≡ map (λ b. true) (characters set)
    → IsNumber base (characters set) ds n → IsScalar n
    → numbered base set lead (ds ++ 92 ∷ r) ≡ Some (an_escape (Some n) (lead + length ds + 1))
unfolding numbered_of
numbered_whole base set lead ds r n f c w sc =
    let s = ds ++ 92 ∷ r in
    let l : run set s ≡ length ds = run_stops set ds 92 r w.each f in
    ap (λ d. numbered_of base lead d (take d s) (drop d s)) l
    ∙ ap (λ t. numbered_of base lead (length ds) t (drop (length ds) s)) (take-append_seam ds (92 ∷ r))
    ∙ ap (numbered_of base lead (length ds) ds) (drop-append_seam ds (92 ∷ r))
    ∙ last (nat_lt 0 (length ds)) (is_scalar (number_of base ds)) (lt-ltb 0 (length ds) w.some)
    (ap is_scalar (number_is base set ds n c w) ∙ scalar_is n ∙ sc)
    ∙ ap (λ v. Some (an_escape (Some v) (lead + length ds + 1))) (number_is base set ds n c w)
  where
    last : (a b : Bool) → a ≡ true → b ≡ true → cond ((a && true) && b)
        (Some (an_escape (Some (number_of base ds)) (lead + length ds + 1))) None ≡ Some
        (an_escape (Some (number_of base ds)) (lead + length ds + 1))
    last true true h g = refl
    last true false h g = cc
    last false b h g = cc

-- the digits and the backslash behind them, then the rest
pub joined : (ds r : List ℕ) → (ds ++ codes "\\") ++ r ≡ ds ++ 92 ∷ r
joined ds r = append_assoc ds (92 ∷ []) r

escape_octal : (ds r : List ℕ) (n : ℕ) → IsNumber 8 octal_digits ds n → IsScalar n
    → escape_at (ds ++ 92 ∷ r) ≡ Some (an_escape (Some n) (length ds + 1))
escape_octal [] r n w sc = let l : 0 < 0 = w.some in absurd (omega arith)
escape_octal (b ∷ ds) r n w sc =
    let f : is_one_of octal_digits b ≡ true = and_left (is_one_of octal_digits b) (are_of octal_digits ds) w.each in
    let m : 0 + length (b ∷ ds) + 1 ≡ length (b ∷ ds) + 1 = omega arith in
    by (simple_escape b) (b == 10) (b == 120) (has Octal b) (numbered 16 Hexadecimal 1 (ds ++ 92 ∷ r))
    (numbered 8 Octal 0 (b ∷ (ds ++ 92 ∷ r)))
    (same_on simple_escape (λ b. None) octal_digits b refl f) (same_on (λ b. b == 10) (λ b. false) octal_digits b refl f)
    (same_on (λ b. b == 120) (λ b. false) octal_digits b refl f) (set_has Octal b f)
    ∙ numbered_whole 8 Octal 0 (b ∷ ds) r n refl refl w sc
    ∙ ap (λ l. Some (an_escape (Some n) l)) m
  where
    by : (o : Option ℕ) (t u v : Bool) (x y : Option Escape) → o ≡ None → t ≡ false → u ≡ false → v ≡ true
        → option_map_or (λ c. Some (an_escape (Some c) 1)) o (cond t (Some (an_escape None 1)) (cond u x (cond v y None))) ≡ y
    by None false false true x y a b c d = refl
    by (Some i) t u v x y a b c d = cc
    by None true u v x y a b c d = cc
    by None false true v x y a b c d = cc
    by None false false false x y a b c d = cc

pub escape_whole : (e : List ℕ) (v : Option ℕ) (r : List ℕ) → IsEscape e v → escape_at (e ++ r) ≡ Some (an_escape v (length e))
escape_whole e v r (sign b h q p) =
    ap (λ t. escape_at (t ++ r)) q
    ∙ ap (λ o. option_map_or (λ c. Some (an_escape (Some c) 1)) o
    (if b == 10 then Some (an_escape None 1) else if b == 120 then numbered 16 Hexadecimal 1 r else if has Octal b then
    numbered 8 Octal 0 (b ∷ r) else None)) (same_on simple_escape (λ b. Some (sign_value b)) signs b refl h)
    ∙ ap (λ o. Some (an_escape o 1)) (sym p)
    ∙ ap (λ t. Some (an_escape v (length t))) (sym q)
escape_whole e v r (newline q p) = ap (λ t. escape_at (t ++ r)) q ∙ ap (λ o. Some (an_escape o 1)) (sym p)
    ∙ ap (λ t. Some (an_escape v (length t))) (sym q)
escape_whole e v r (octal_code ds n w sc q p) =
    let l : length ds + 1 ≡ length (ds ++ 92 ∷ []) = length_one ds in
    ap (λ t. escape_at (t ++ r)) q ∙ ap escape_at (joined ds r) ∙ escape_octal ds r n w sc
    ∙ ap (λ i. Some (an_escape (Some n) i)) l ∙ ap (λ o. Some (an_escape o (length (ds ++ 92 ∷ [])))) (sym p)
    ∙ ap (λ t. Some (an_escape v (length t))) (sym q)
  where
    length_one : (xs : List ℕ) → length xs + 1 ≡ length (xs ++ 92 ∷ [])
    length_one [] = refl
    length_one (x ∷ xs) = let i = length_one xs in omega arith
escape_whole e v r (hexadecimal_code ds n w sc q p) =
    let l : 1 + length ds + 1 ≡ length (120 ∷ (ds ++ 92 ∷ [])) = length_two ds in
    ap (λ t. escape_at (t ++ r)) q ∙ ap (λ t. escape_at (120 ∷ t)) (joined ds r) ∙ numbered_whole 16 Hexadecimal 1 ds r n refl refl w sc
    ∙ ap (λ i. Some (an_escape (Some n) i)) l ∙ ap (λ o. Some (an_escape o (length (120 ∷ (ds ++ 92 ∷ []))))) (sym p)
    ∙ ap (λ t. Some (an_escape v (length t))) (sym q)
  where
    length_two : (xs : List ℕ) → 1 + length xs + 1 ≡ length (120 ∷ (xs ++ 92 ∷ []))
    length_two [] = refl
    length_two (x ∷ xs) = let i = length_two xs in omega arith

-- a character in UTF-8, from its first byte on
abbrev pub Shape : ℕ → List ℕ → Type 0
Shape c r = (b : ℕ) × (t : List ℕ) × (encode c ≡ b ∷ t) × (char_at b (t ++ r) ≡ Some (record { code = c; more = length t }))
    × ((q : ℕ) → q < 128 → (c ≡ q → ⊥) → b ≡ q → ⊥)

pub shape : (c : ℕ) (r : List ℕ) → IsScalar c → Shape c r
shape c r sc = go (encode c) refl (char_reads c r sc) (char_reads c [] sc)
  where
    same_code : {x y : Character} → Some x ≡ Some y → x.code ≡ y.code
    same_code h = cc

    low : (q : ℕ) (t : List ℕ) → q < 128 → char_at q t ≡ Some (record { code = q; more = 0 })
    low q t l = rw (lt-ltb q 128 l) refl

    none : {x : Character} → None ≡ Some x → ⊥
    none h = cc

    go : (l : List ℕ) → encode c ≡ l → first_char (encode c ++ r) ≡ Some (record { code = c; more = length (encode c) - 1 })
        → first_char (encode c ++ []) ≡ Some (record { code = c; more = length (encode c) - 1 }) → Shape c r
    go [] e h g = absurd (none (ap (λ l. first_char (l ++ [])) (sym e) ∙ g))
    go (b ∷ t) e h g =
        let n : length (encode c) - 1 ≡ length t = ap (λ l. length l - 1) e ∙ omega arith in
        let f : char_at b (t ++ r) ≡ Some (record { code = c; more = length t }) = ap (λ l. first_char (l ++ r)) (sym e) ∙ h
        ∙ ap (λ m. Some (record { code = c; more = m })) n in
        (b, t, e, f, λ q l d p. d (same_code (sym f ∙ ap (λ i. char_at i (t ++ r)) p ∙ low q (t ++ r) l)))

pub length_both : (xs ys : List ℕ) → length (xs ++ ys) ≡ length xs + length ys
length_both [] ys = omega arith
length_both (x ∷ xs) ys = let i = length_both xs ys in omega arith

-- quoted text
pub plain_not : (q c : ℕ) → is_one_of (q ∷ codes "\\\n") c ≡ false → (c ≡ q → ⊥) × (c ≡ 92 → ⊥) × (c ≡ 10 → ⊥)
plain_not q c h =
    let a = or_parts (c == q) (c == 92 || (c == 10 || false)) h in
    let b = or_parts (c == 92) (c == 10 || false) a.1 in
    let d = or_parts (c == 10) false b.1 in
    (eqb-false c q a.0, eqb-false c 92 b.0, eqb-false c 10 d.0)

quoted_skip : (kind : TokenKind) (q start at : ℕ) (t r : List ℕ)
    → quoted_from kind q start at (length t) (t ++ r) ≡ quoted_from kind q start (at + length t) 0 r
quoted_skip kind q start at [] r = let e : at ≡ at + 0 = omega arith in ap (λ a. quoted_from kind q start a 0 r) e
quoted_skip kind q start at (b ∷ t) r = let e : suc at + length t ≡ at + suc (length t) = omega arith in
    quoted_skip kind q start (suc at) t r ∙ ap (λ a. quoted_from kind q start a 0 r) e

module _ (kind : TokenKind) (q start : ℕ) (low : q < 128) (n10 : q ≡ 10 → ⊥) (n92 : q ≡ 92 → ⊥) where
  quoted_step : (at : ℕ) (c meant r : List ℕ) → IsQuotedCharacter q c meant
      → quoted_from kind q start at 0 (c ++ r) ≡ quoted_from kind q start (at + length c) 0 r
  quoted_step at c meant r (plain u sc n e m) =
      let w = shape u r sc in
      let k = plain_not q u n in
      let l : suc at + length w.1 ≡ at + suc (length w.1) = omega arith in
      let p : c ≡ w.0 ∷ w.1 = e ∙ w.2 in
      ap (λ t. quoted_from kind q start at 0 (t ++ r)) p
      ∙ quoted_char kind q start at w.0 (w.1 ++ r) (record { code = u; more = length w.1 }) (w.4 10 (omega arith) k.2)
      (w.4 q low k.0) (w.4 92 (omega arith) k.1) w.3
      ∙ quoted_skip kind q start (suc at) w.1 r
      ∙ ap (λ a. quoted_from kind q start a 0 r) l
      ∙ ap (λ t. quoted_from kind q start (at + length t) 0 r) (sym p)
  quoted_step at c meant r (doubled e m) =
      let l : suc at + 1 ≡ at + 2 = omega arith in
      ap (λ t. quoted_from kind q start at 0 (t ++ r)) e
      ∙ quoted_quote kind q start at q (q ∷ r) n10 refl (eq-eqb q q refl)
      ∙ quoted_skip kind q start (suc at) (q ∷ []) r
      ∙ ap (λ a. quoted_from kind q start a 0 r) l
      ∙ ap (λ t. quoted_from kind q start (at + length t) 0 r) (sym e)
  quoted_step at c meant r (escaped e v w p m) =
      let l : suc at + length e ≡ at + suc (length e) = omega arith in
      ap (λ t. quoted_from kind q start at 0 (t ++ r)) p
      ∙ quoted_escape kind q start at 92 (e ++ r) (an_escape v (length e)) (λ z. omega arith) (λ z. n92 (sym z)) refl
      (escape_whole e v r w)
      ∙ quoted_skip kind q start (suc at) e r
      ∙ ap (λ a. quoted_from kind q start a 0 r) l
      ∙ ap (λ t. quoted_from kind q start (at + length t) 0 r) (sym p)

  pub quoted_along : (r : List ℕ) (at : ℕ) (s meant : List ℕ) → AreQuoted q s meant
      → quoted_from kind q start at 0 (s ++ r) ≡ quoted_from kind q start (at + length s) 0 r
  quoted_along r at s meant no_characters = let l : at ≡ at + 0 = omega arith in ap (λ a. quoted_from kind q start a 0 r) l
  quoted_along r at s meant (one_more c one t rest h w) =
      let l : at + length c + length t ≡ at + length (c ++ t) = omega (arith, length_both c t) in
      ap (quoted_from kind q start at 0) (append_assoc c t r)
      ∙ quoted_step at c one (t ++ r) h
      ∙ quoted_along r (at + length c) t rest w
      ∙ ap (λ a. quoted_from kind q start a 0 r) l

  quoted_closes : (at : ℕ) → quoted_from kind q start at 0 (q ∷ []) ≡ Whole kind (suc at)
  quoted_closes at = rw (ne_eqb q 10 n10, eq-eqb q q refl) refl

  pub quoted_whole : (at : ℕ) (s meant : List ℕ) → AreQuoted q s meant
      → quoted_from kind q start at 0 (s ++ q ∷ []) ≡ Whole kind (suc (at + length s))
  quoted_whole at s meant w = quoted_along (q ∷ []) at s meant w ∙ quoted_closes (at + length s)

quoted_end : (at q : ℕ) (i s : List ℕ) → s ≡ q ∷ (i ++ q ∷ []) → suc (at + 1 + length i) ≡ at + length s
quoted_end at q i s e = let l = last i in let m : length s ≡ suc (length (i ++ q ∷ [])) = ap length e in omega arith
  where
    last : (xs : List ℕ) → length (xs ++ q ∷ []) ≡ suc (length xs)
    last [] = refl
    last (x ∷ xs) = let i = last xs in omega arith

-- integers
ranged_whole : (at : ℕ) (minus : Bool) (n end : ℕ) → IsInRange minus n → ranged at minus n end ≡ Whole (Integer n) end
ranged_whole at minus n end (within h) = let l : n < 9223372036854775808 = omega arith in
    let t : nat_lt n 9223372036854775808 ≡ true = lt-ltb n 9223372036854775808 l in
    ap (λ u. cond (u || (minus && n == least_magnitude)) (Whole (Integer n) end) (fault at NumberRange)) t
ranged_whole at minus n end (least h e) = go (nat_lt n least_magnitude) minus (n == least_magnitude) h (eq-eqb n least_magnitude e)
  where
    go : (a b c : Bool) → b ≡ true → c ≡ true → cond (a || (b && c)) (Whole (Integer n) end) (fault at NumberRange) ≡ Whole
        (Integer n) end
    go true b c h g = refl
    go false true true h g = refl
    go false true false h g = cc
    go false false c h g = cc

based_whole : (base : ℕ) (set : Set) (at : ℕ) (minus : Bool) (ds : List ℕ) (n : ℕ)
    → map (is_one_of hexadecimal_digits) (characters set) ≡ map (λ b. true) (characters set)
    → IsNumber base (characters set) ds n → IsInRange minus n → based base set at minus ds ≡ Whole (Integer n) (at + 2 + length ds)
based_whole base set at minus ds n c w r =
    let l : run set ds ≡ length ds = run_all set ds w.each in
    ap (λ d. cond (d == 0) (fault at BadNumber) (ranged at minus (number_of base (take d ds)) (at + 2 + d))) l
    ∙ ap (λ t. cond t (fault at BadNumber) (ranged at minus (number_of base (take (length ds) ds)) (at + 2 + length ds)))
    (ne_eqb (length ds) 0 (λ e. let p : 0 < length ds = w.some in omega arith))
    ∙ ap (λ t. ranged at minus (number_of base t) (at + 2 + length ds)) (whole_take ds)
    ∙ ap (λ v. ranged at minus v (at + 2 + length ds)) (number_is base set ds n c w)
    ∙ ranged_whole at minus n (at + 2 + length ds) r

not_begins : (c : ℕ) (t : List ℕ) → is_one_of decimal_digits c ≡ false → are_of decimal_digits t ≡ true → begins_with c t ≡ false
not_begins c [] n h = refl
not_begins c (b ∷ t) n h = ne_eqb b c
    (λ e. no
    (sym (subst (λ i. is_one_of decimal_digits i ≡ true) e (and_left (is_one_of decimal_digits b) (are_of decimal_digits t) h)) ∙ n))
  where
    no : true ≡ false → ⊥
    no e = cc

and_no : (a b : Bool) → b ≡ false → (a && b) ≡ false
and_no true b h = h
and_no false b h = refl

decimal_whole : (at : ℕ) (minus : Bool) (s : List ℕ) (n : ℕ) → IsNumber 10 decimal_digits s n → IsInRange minus n
    → decimal at minus s ≡ Whole (Integer n) (at + length s)
decimal_whole at minus s n w r =
    ap (λ d. cond (is_fraction (drop d s)) (fault at BadNumber) (ranged at minus (number_of 10 (take d s)) (at + d)))
    (run_all Decimal s w.each)
    ∙ ap (λ t. cond (is_fraction t) (fault at BadNumber) (ranged at minus (number_of 10 (take (length s) s)) (at + length s)))
    (whole_drop s)
    ∙ ap (λ t. ranged at minus (number_of 10 t) (at + length s)) (whole_take s)
    ∙ ap (λ v. ranged at minus v (at + length s)) (number_is 10 Decimal s n refl w)
    ∙ ranged_whole at minus n (at + length s) r

number_decimal : (at : ℕ) (minus : Bool) (s : List ℕ) (n : ℕ) → IsNumber 10 decimal_digits s n → IsInRange minus n
    → begins at minus s ≡ Whole (Integer n) (at + length s)
number_decimal at minus [] n w r = let l : 0 < 0 = w.some in absurd (omega arith)
number_decimal at minus (b ∷ s) n w r =
    let f : is_one_of decimal_digits b ≡ true = and_left (is_one_of decimal_digits b) (are_of decimal_digits s) w.each in
    let g : are_of decimal_digits s ≡ true = and_right (is_one_of decimal_digits b) (are_of decimal_digits s) w.each in
    ap (λ k. spelled k at minus b s) (same_on class_of (λ b. Digit) decimal_digits b refl f)
    ∙ by (b == 48 && begins_with 39 s) (b == 48 && begins_with 120 s) (b == 48 && begins_with 111 s)
    (b == 48 && begins_with 98 s) (code_at at (drop 1 s)) (based 16 Hexadecimal at minus (drop 1 s))
    (based 8 Octal at minus (drop 1 s)) (based 2 Binary at minus (drop 1 s)) (decimal at minus (b ∷ s))
    (and_no (b == 48) (begins_with 39 s) (not_begins 39 s refl g))
    (and_no (b == 48) (begins_with 120 s) (not_begins 120 s refl g))
    (and_no (b == 48) (begins_with 111 s) (not_begins 111 s refl g)) (and_no (b == 48) (begins_with 98 s) (not_begins 98 s refl g))
    ∙ decimal_whole at minus (b ∷ s) n w r
  where
    by : (t u v x : Bool) (a b c d e : Spelling) → t ≡ false → u ≡ false → v ≡ false → x ≡ false
        → cond t a (cond u b (cond v c (cond x d e))) ≡ e
    by false false false false a b c d e h1 h2 h3 h4 = refl
    by true u v x a b c d e h1 h2 h3 h4 = cc
    by false true v x a b c d e h1 h2 h3 h4 = cc
    by false false true x a b c d e h1 h2 h3 h4 = cc
    by false false false true a b c d e h1 h2 h3 h4 = cc

no_newline : (e : List ℕ) (n : ℕ) → IsEscape e (Some n) → begins_with 10 e ≡ false
no_newline e n (sign b h q p) = ap (begins_with 10) q ∙ same_on (λ b. b == 10) (λ b. false) signs b refl h
no_newline e n (newline q p) = cc
no_newline e n (octal_code ds m w sc q p) = ap (begins_with 10) q ∙ go ds w.each
  where
    go : (ds : List ℕ) → are_of octal_digits ds ≡ true → begins_with 10 (ds ++ 92 ∷ []) ≡ false
    go [] h = refl
    go (b ∷ ds) h = same_on (λ b. b == 10) (λ b. false) octal_digits b refl
        (and_left (is_one_of octal_digits b) (are_of octal_digits ds) h)
no_newline e n (hexadecimal_code ds m w sc q p) = ap (begins_with 10) q

code_whole : (at : ℕ) (c : List ℕ) (n : ℕ) → IsCharacterCode c n → code_at at c ≡ Whole (Integer n) (at + 2 + length c)
code_whole at c n (character sc n39 n92 e) =
    let w = shape n [] sc in
    let p : c ≡ w.0 ∷ w.1 = e ∙ w.2 in
    let l : at + 3 + length w.1 ≡ at + 2 + suc (length w.1) = omega arith in
    let f : char_at w.0 w.1 ≡ Some (record { code = n; more = length w.1 }) = ap (char_at w.0) (sym (append-nil w.1)) ∙ w.3 in
    ap (code_at at) p
    ∙ by (w.0 == 92) (w.0 == 39) (escaped_code_at at w.1) (if begins_with 39 w.1 then Whole (Integer 39)
    (at + 4) else fault at BadNumber) (char_at w.0 w.1) (record { code = n; more = length w.1 })
    (ne_eqb w.0 92 (w.4 92 (omega arith) n92)) (ne_eqb w.0 39 (w.4 39 (omega arith) n39)) f
    ∙ ap (λ i. Whole (Integer n) i) l
    ∙ ap (λ t. Whole (Integer n) (at + 2 + length t)) (sym p)
  where
    by : (t u : Bool) (x y : Spelling) (o : Option Character) (c : Character) → t ≡ false → u ≡ false → o ≡ Some c
        → cond t x (cond u y (option_map_or (λ (c : Character). Whole (Integer c.code) (at + 3 + c.more)) o
        (fault at BadNumber))) ≡ Whole (Integer c.code) (at + 3 + c.more)
    by false false x y o c h g f = ap (λ o. option_map_or (λ (c : Character). Whole (Integer c.code) (at + 3 + c.more)) o
        (fault at BadNumber)) f
    by true u x y o c h g f = cc
    by false true x y o c h g f = cc
code_whole at c n (quote_twice e p) =
    let l : at + 4 ≡ at + 2 + 2 = omega arith in
    ap (code_at at) e ∙ ap (λ i. Whole (Integer 39) i) l ∙ ap (λ v. Whole (Integer v) (at + 2 + 2)) (sym p)
    ∙ ap (λ t. Whole (Integer n) (at + 2 + length t)) (sym e)
code_whole at c n (escape e w p) =
    let l : at + 3 + length e ≡ at + 2 + suc (length e) = omega arith in
    let f : escape_at e ≡ Some (an_escape (Some n) (length e)) = ap escape_at (sym (append-nil e)) ∙ escape_whole e (Some n) [] w in
    ap (code_at at) p
    ∙ ap (λ t. cond t (fault at BadNumber) (option_map_or (λ (x : Escape). Whole (Integer (unwrap_or x.code 0))
    (at + 3 + x.len)) (escape_at e) (fault (at + 2) BadEscape))) (no_newline e n w)
    ∙ ap (λ o. option_map_or (λ (x : Escape). Whole (Integer (unwrap_or x.code 0)) (at + 3 + x.len)) o (fault (at + 2) BadEscape)) f
    ∙ ap (λ i. Whole (Integer n) i) l
    ∙ ap (λ t. Whole (Integer n) (at + 2 + length t)) (sym p)

integer_whole : (at : ℕ) (minus : Bool) (s : List ℕ) (n : ℕ) → IsInteger minus s n → begins at minus s ≡ Whole (Integer n) (at + length s)
integer_whole at minus s n (number (spellings.decimal w) r) = number_decimal at minus s n w r
integer_whole at minus s n (number (binary ds w e) r) =
    let l : at + 2 + length ds ≡ at + suc (suc (length ds)) = omega arith in
    ap (begins at minus) e ∙ based_whole 2 Binary at minus ds n refl w r ∙ ap (λ i. Whole (Integer n) i) l
    ∙ ap (λ t. Whole (Integer n) (at + length t)) (sym e)
integer_whole at minus s n (number (octal ds w e) r) =
    let l : at + 2 + length ds ≡ at + suc (suc (length ds)) = omega arith in
    ap (begins at minus) e ∙ based_whole 8 Octal at minus ds n refl w r ∙ ap (λ i. Whole (Integer n) i) l
    ∙ ap (λ t. Whole (Integer n) (at + length t)) (sym e)
integer_whole at minus s n (number (hexadecimal ds w e) r) =
    let l : at + 2 + length ds ≡ at + suc (suc (length ds)) = omega arith in
    ap (begins at minus) e ∙ based_whole 16 Hexadecimal at minus ds n refl w r ∙ ap (λ i. Whole (Integer n) i) l
    ∙ ap (λ t. Whole (Integer n) (at + length t)) (sym e)
integer_whole at minus s n (code c w e) =
    let l : at + 2 + length c ≡ at + suc (suc (length c)) = omega arith in
    ap (begins at minus) e ∙ code_whole at c n w ∙ ap (λ i. Whole (Integer n) i) l ∙ ap (λ t. Whole (Integer n) (at + length t)) (sym e)

-- names and variables
run_end : (kind : TokenKind) (set : Set) (at : ℕ) (s : List ℕ) → are_of (characters set) s ≡ true
    → Whole kind (at + 1 + run set s) ≡ Whole kind (at + suc (length s))
run_end kind set at s h = let l = run_all set s h in let e : at + 1 + run set s ≡ at + suc (length s) = omega arith in
    ap (λ i. Whole kind i) e

word_whole : (k : Class) (kind : TokenKind) (first : List ℕ) (at : ℕ) (minus : Bool) (s : List ℕ)
    → ((b : ℕ) (s : List ℕ) → spelled k at minus b s ≡ Whole kind (at + 1 + run Word s))
    → map class_of first ≡ map (λ b. k) first → is_word_from first s ≡ true → begins at minus s ≡ Whole kind (at + length s)
word_whole k kind first at minus [] f c h = cc
word_whole k kind first at minus (b ∷ s) f c h =
    ap (λ k. spelled k at minus b s) (same_on class_of (λ b. k) first b c (and_left (is_one_of first b) (are_of alphanumeric s) h))
    ∙ f b s ∙ run_end kind Word at s (and_right (is_one_of first b) (are_of alphanumeric s) h)

symbol_class : ℕ → Class
symbol_class b = if b == 47 then Slash else if b == 46 then Dot else Symbol

slash_shut : (s : List ℕ) → opens_comment (47 ∷ s) ≡ false → begins_with 42 s ≡ false
slash_shut [] h = refl
slash_shut (c ∷ s) h = h

symbol_whole : (at : ℕ) (minus : Bool) (s : List ℕ) → is_symbol_name s ≡ true → (s ≡ codes "." → true ≡ false)
    → begins at minus s ≡ Whole Name (at + length s)
unfolding symbol_class
symbol_whole at minus [] h n = cc
symbol_whole at minus (b ∷ s) h n =
    let a = and_left (are_of symbol_characters (b ∷ s)) (not (opens_comment (b ∷ s))) h in
    let f : is_one_of symbol_characters b ≡ true = and_left (is_one_of symbol_characters b) (are_of symbol_characters s) a in
    let g : are_of symbol_characters s ≡ true = and_right (is_one_of symbol_characters b) (are_of symbol_characters s) a in
    let o : opens_comment (b ∷ s) ≡ false = no (opens_comment (b ∷ s))
    (and_right (are_of symbol_characters (b ∷ s)) (not (opens_comment (b ∷ s))) h) in
    ap (λ k. spelled k at minus b s) (same_on class_of symbol_class symbol_characters b refl f)
    ∙ slash (b == 47) refl o (λ t. dot (b == 46) refl s g n) ∙ run_end Name symbols at s g
  where
    no : (t : Bool) → not t ≡ true → t ≡ false
    no true e = cc
    no false e = refl

    shut : (t : Bool) (x y : Spelling) → t ≡ false → cond t x y ≡ y
    shut false x y e = refl
    shut true x y e = cc

    slash : (t : Bool) → (b == 47) ≡ t → opens_comment (b ∷ s) ≡ false
        → ((u : Unit {0}) → spelled (if b == 46 then Dot else Symbol) at minus b s ≡ Whole Name (at + 1 + run symbols s))
        → spelled (if t then Slash else if b == 46 then Dot else Symbol) at minus b s ≡ Whole Name (at + 1 + run symbols s)
    slash true e o r = shut (begins_with 42 s) (block_from at (at + 2) 0 (drop 1 s)) (Whole Name (at + 1 + run symbols s))
        (slash_shut s (subst (λ i. opens_comment (i ∷ s) ≡ false) (eqb-true b 47 e) o))
    slash false e o r = r tt

    dot : (t : Bool) → (b == 46) ≡ t → (s : List ℕ) → are_of symbol_characters s ≡ true → (b ∷ s ≡ codes "." → true ≡ false)
        → spelled (if t then Dot else Symbol) at minus b s ≡ Whole Name (at + 1 + run symbols s)
    dot false e s g n = refl
    dot true e [] g n = let z : true ≡ false = n (ap (λ i. i ∷ []) (eqb-true b 46 e)) in cc
    dot true e (c ∷ s) g n =
        let one : has symbols c ≡ true = set_has symbols c (and_left (is_one_of symbol_characters c) (are_of symbol_characters s) g) in
        shut (run symbols (c ∷ s) == 0 && ends_clause (c ∷ s)) (Whole End (at + 1)) (Whole Name (at + 1 + run symbols (c ∷ s)))
        (ap (λ t. cond t (suc (run symbols s)) 0 == 0 && ends_clause (c ∷ s)) one
        ∙ ap (λ t. t && ends_clause (c ∷ s)) (ne_eqb (suc (run symbols s)) 0 (λ z. omega arith)))

name_whole : (at : ℕ) (minus : Bool) (s : List ℕ) → IsName s → (s ≡ codes "." → true ≡ false)
    → begins at minus s ≡ Whole Name (at + length s)
name_whole at minus s (word_name h) n = word_whole Small Name small_letters at minus s (λ b s. refl) refl h
name_whole at minus s (symbol_name h) n = symbol_whole at minus s h n
name_whole at minus s (cut_name e) n = ap (begins at minus) e ∙ ap (λ t. Whole Name (at + length t)) (sym e)
name_whole at minus s (semicolon_name e) n = ap (begins at minus) e ∙ ap (λ t. Whole Name (at + length t)) (sym e)

one_whole : (kind : TokenKind) (at : ℕ) (minus : Bool) (s t : List ℕ) → s ≡ t → begins at minus t ≡ Whole kind (at + length t)
    → begins at minus s ≡ Whole kind (at + length s)
one_whole kind at minus s t e h = ap (begins at minus) e ∙ h ∙ ap (λ t. Whole kind (at + length t)) (sym e)

pub spelling_whole : (at : ℕ) (minus : Bool) (s : List ℕ) (kind : TokenKind) → IsToken minus kind s → IsBefore kind s []
    → begins at minus s ≡ Whole kind (at + length s)
spelling_whole at minus s Name h n = name_whole at minus s h n
spelling_whole at minus s QuotedName h n =
    ap (begins at minus) h.1.whole
    ∙ quoted_whole QuotedName 39 at (omega arith) (λ e. omega arith) (λ e. omega arith) (at + 1) h.1.inside h.0 h.1.are
    ∙ ap (λ i. Whole QuotedName i) (quoted_end at 39 h.1.inside s h.1.whole)
spelling_whole at minus s Variable h n = word_whole Capital Variable variable_starts at minus s (λ b s. refl) refl h
spelling_whole at minus s (Integer i) h n = integer_whole at minus s i h
spelling_whole at minus s Text h n =
    ap (begins at minus) h.1.whole
    ∙ quoted_whole Text 34 at (omega arith) (λ e. omega arith) (λ e. omega arith) (at + 1) h.1.inside h.0 h.1.are
    ∙ ap (λ i. Whole Text i) (quoted_end at 34 h.1.inside s h.1.whole)
spelling_whole at minus s OpenRound h n = one_whole OpenRound at minus s (codes "(") h refl
spelling_whole at minus s CloseRound h n = one_whole CloseRound at minus s (codes ")") h refl
spelling_whole at minus s OpenSquare h n = one_whole OpenSquare at minus s (codes "[") h refl
spelling_whole at minus s CloseSquare h n = one_whole CloseSquare at minus s (codes "]") h refl
spelling_whole at minus s OpenCurly h n = one_whole OpenCurly at minus s (codes "{") h refl
spelling_whole at minus s CloseCurly h n = one_whole CloseCurly at minus s (codes "}") h refl
spelling_whole at minus s Comma h n = one_whole Comma at minus s (codes ",") h refl
spelling_whole at minus s Bar h n = one_whole Bar at minus s (codes "|") h refl
spelling_whole at minus s End h n = one_whole End at minus s (codes ".") h refl

-- a full stop by itself is also the end
dot_or : (s : List ℕ) → (s ≡ codes ".") ⊎ (s ≡ codes "." → true ≡ false)
dot_or [] = inr (λ e. let q : [] ≡ 46 ∷ [] = e in cc)
dot_or (b ∷ []) = go (b == 46) refl
  where
    no : b ∷ [] ≡ 46 ∷ [] → b ≡ 46
    no e = cc

    go : (t : Bool) → (b == 46) ≡ t → (b ∷ [] ≡ codes ".") ⊎ (b ∷ [] ≡ codes "." → true ≡ false)
    go true e = inl (ap (λ i. i ∷ []) (eqb-true b 46 e))
    go false e = inr (λ q. sym (eq-eqb b 46 (no q)) ∙ e)
dot_or (b ∷ c ∷ s) = inr (λ e. let q : b ∷ c ∷ s ≡ 46 ∷ [] = e in cc)

-- each spelling is some token
Taken : ℕ → Bool → List ℕ → Type 0
Taken at minus s = (k : TokenKind) × (begins at minus s ≡ Whole k (at + length s))

spelling_taken : (at : ℕ) (minus : Bool) (s : List ℕ) (kind : TokenKind) → IsToken minus kind s → Taken at minus s
unfolding Taken
spelling_taken at minus s Name h = elim (dot_or s) [
  | inl e ↦ (End, spelling_whole at minus s End e refl)
  | inr n ↦
      (Name, name_whole at minus s h n)
]
spelling_taken at minus s QuotedName h = (QuotedName, spelling_whole at minus s QuotedName h tt)
spelling_taken at minus s Variable h = (Variable, spelling_whole at minus s Variable h tt)
spelling_taken at minus s (Integer n) h = (Integer n, spelling_whole at minus s (Integer n) h tt)
spelling_taken at minus s Text h = (Text, spelling_whole at minus s Text h tt)
spelling_taken at minus s OpenRound h = (OpenRound, spelling_whole at minus s OpenRound h tt)
spelling_taken at minus s CloseRound h = (CloseRound, spelling_whole at minus s CloseRound h tt)
spelling_taken at minus s OpenSquare h = (OpenSquare, spelling_whole at minus s OpenSquare h tt)
spelling_taken at minus s CloseSquare h = (CloseSquare, spelling_whole at minus s CloseSquare h tt)
spelling_taken at minus s OpenCurly h = (OpenCurly, spelling_whole at minus s OpenCurly h tt)
spelling_taken at minus s CloseCurly h = (CloseCurly, spelling_whole at minus s CloseCurly h tt)
spelling_taken at minus s Comma h = (Comma, spelling_whole at minus s Comma h tt)
spelling_taken at minus s Bar h = (Bar, spelling_whole at minus s Bar h tt)
spelling_taken at minus s End h = (End, spelling_whole at minus s End h refl)

take_length : (s : List ℕ) (n : ℕ) → n ≤ length s → length (take n s) ≡ n
take_length s zero h = refl
take_length [] (suc n) h = absurd (omega arith)
take_length (b ∷ s) (suc n) h = let i = take_length s n (omega arith) in omega arith

pub no_longer : (at : ℕ) (minus : Bool) (s : List ℕ) (kind other : TokenKind) (e n : ℕ) → begins at minus s ≡ Whole kind e
    → e < at + n → n ≤ length s → IsToken minus other (take n s) → ⊥
unfolding Taken
no_longer at minus s kind other e n h l m t =
    let w = spelling_taken at minus (take n s) other t in
    longest at minus s kind w.0 e n h l (w.1 ∙ ap (λ i. Whole w.0 (at + i)) (take_length s n m))
