-- The bytes of unquoted names and of variables are ASCII.
use Rattle.std.proofs.Common.{◌≡◌, ℕ, zero, suc, ◌+◌, ◌-◌, ◌<◌, Bool, true, ◌&&◌, ◌||◌, List, [], ◌∷◌, take, drop, refl, sym, subst}
use Rattle.std.proofs.Common.{arith}
use Rattle.std.specs.Prelude.{◌==◌, nat_lt, nat_le, IsUtf8, unwrap_or}
use Rattle.std.proofs.lemmas.Bool.Decides.{nat_tests}
use Rattle.std.proofs.lemmas.Str.{IsUtf8-nil}
use Rattle.op_token.specs.declared.character.Character.{Character}
use Rattle.op_token.specs.declared.escape.Escape.{Escape}
use Rattle.op_token.specs.declared.class.Class.{Class}
use Rattle.op_token.specs.declared.class.Class.TheVariants.{Layout, Percent, Small, Capital, Digit, SingleQuote, DoubleQuote, Slash}
use Rattle.op_token.specs.declared.class.Class.TheVariants.{Dot, Symbol, Solo, Punctuation, Bad}
use Rattle.op_token.specs.declared.set.Set.{Set}
use Rattle.op_token.specs.declared.set.Set.TheVariants.{Word, Symbol as symbols, Decimal, Hexadecimal, Octal, Binary}
use Rattle.op_token.specs.declared.spelling.Spelling.{Spelling}
use Rattle.op_token.specs.declared.spelling.Spelling.TheVariants.{Gap, Whole}
use Rattle.op_token.specs.declared.token.TokenKind.{TokenKind}
use Rattle.op_token.specs.declared.token.TokenKind.TheVariants.{Name, QuotedName, Variable, Integer, Text, End}
use Rattle.op_token.specs.declared.token.TokenFaultKind.TheVariants.{BadChar, BadEscape, BadNumber, NumberRange}
use Rattle.op_token.specs.Set.{run, has, begins_with}
use Rattle.op_token.specs.Character.{char_at}
use Rattle.op_token.specs.Class.{class_of, punctuation_of}
use Rattle.op_token.specs.Spelling.{fault, line_from, block_from, quoted_from, number_of, escape_at, ranged, least_magnitude, based}
use Rattle.op_token.specs.Spelling.{is_fraction, decimal, escaped_code_at, code_at, number_at, ends_clause, spelled, begins}
use Rattle.op_token.specs.Tokens.{IsPlain}
use Rattle.op_token.proofs.SpellingEnds.{if_either, map_either}
use Rattle.op_token.proofs.Utf8QuotedTexts.{one_ascii, word_low, symbol_low}

-- no token of some kinds
abbrev pub Not : (TokenKind → Type 0) → Spelling → Type 0
Not P (Whole kind end) = P kind → ⊥
Not P x = Unit {0}

module _ (P : TokenKind → Type 0) (no_integer : (n : ℕ) → P (Integer n) → ⊥) where
  pub line_not : (at inside : ℕ) (s : List ℕ) → (Not P) (line_from at inside s)
  line_not at inside [] = tt
  line_not at (suc n) (b ∷ s) = line_not (suc at) n s
  line_not at zero (b ∷ s) =
      if_either (Not P) (b == 10) (Gap (suc at)) _ (λ e. tt)
      (λ e. map_either (Not P) (λ (c : Character). line_from (suc at) c.more s) (char_at b s) (fault at BadChar)
      (λ c e. line_not (suc at) c.more s) (λ e. tt))

  pub block_not : (start at inside : ℕ) (s : List ℕ) → (Not P) (block_from start at inside s)
  block_not start at inside [] = tt
  block_not start at (suc n) (b ∷ s) = block_not start (suc at) n s
  block_not start at zero (b ∷ s) =
      if_either (Not P) (b == 42 && begins_with 47 s) (Gap (suc (suc at))) _ (λ e. tt)
      (λ e. map_either (Not P) (λ (c : Character). block_from start (suc at) c.more s) (char_at b s) (fault at BadChar)
      (λ c e. block_not start (suc at) c.more s) (λ e. tt))

  pub quoted_not : (kind : TokenKind) (q start at inside : ℕ) (s : List ℕ) → (P kind → ⊥) → (Not P) (quoted_from kind q start at inside s)
  quoted_not kind q start at inside [] n = tt
  quoted_not kind q start at (suc m) (b ∷ s) n = quoted_not kind q start (suc at) m s n
  quoted_not kind q start at zero (b ∷ s) n =
      if_either (Not P) (b == 10) _ _ (λ e. tt)
      (λ e. if_either (Not P) (b == q) _ _
      (λ e. if_either (Not P) (begins_with q s) _ _ (λ e. quoted_not kind q start (suc at) 1 s n) (λ e. n))
      (λ e. if_either (Not P) (b == 92) _ _
      (λ e. map_either (Not P) (λ (x : Escape). quoted_from kind q start (suc at) x.len s) (escape_at s) (fault at BadEscape)
      (λ x e. quoted_not kind q start (suc at) x.len s n) (λ e. tt))
      (λ e. map_either (Not P) (λ (c : Character). quoted_from kind q start (suc at) c.more s) (char_at b s) (fault at BadChar)
      (λ c e. quoted_not kind q start (suc at) c.more s n) (λ e. tt))))

  pub ranged_not : (at : ℕ) (minus : Bool) (magnitude end : ℕ) → (Not P) (ranged at minus magnitude end)
  ranged_not at minus magnitude end =
      if_either (Not P) (nat_lt magnitude least_magnitude || (minus && magnitude == least_magnitude))
      (Whole (Integer magnitude) end) (fault at NumberRange) (λ e. no_integer _) (λ e. tt)

  pub based_not : (base : ℕ) (set : Set) (at : ℕ) (minus : Bool) (s : List ℕ) → (Not P) (based base set at minus s)
  based_not base set at minus s =
      if_either (Not P) (run set s == 0) (fault at BadNumber) _ (λ e. tt)
      (λ e. ranged_not at minus (number_of base (take (run set s) s)) (at + 2 + run set s))

  pub decimal_not : (at : ℕ) (minus : Bool) (s : List ℕ) → (Not P) (decimal at minus s)
  decimal_not at minus s =
      if_either (Not P) (is_fraction (drop (run Decimal s) s)) (fault at BadNumber) _ (λ e. tt)
      (λ e. ranged_not at minus (number_of 10 (take (run Decimal s) s)) (at + run Decimal s))

  pub code_not : (at : ℕ) (s : List ℕ) → (Not P) (code_at at s)
  code_not at [] = tt
  code_not at (b ∷ s) =
      if_either (Not P) (b == 92) (escaped_code_at at s) _
      (λ e. if_either (Not P) (begins_with 10 s) (fault at BadNumber) _ (λ e. tt)
      (λ e. map_either (Not P) (λ (x : Escape). Whole (Integer (unwrap_or x.code 0)) (at + 3 + x.len)) (escape_at s)
      (fault (at + 2) BadEscape) (λ x h. no_integer _) (λ e. tt)))
      (λ e. if_either (Not P) (b == 39) _ _
      (λ e. if_either (Not P) (begins_with 39 s) (Whole (Integer 39) (at + 4)) (fault at BadNumber) (λ e. no_integer _) (λ e. tt))
      (λ e. map_either (Not P) (λ (c : Character). Whole (Integer c.code) (at + 3 + c.more)) (char_at b s) (fault at BadNumber)
      (λ c h. no_integer _) (λ e. tt)))

  pub number_not : (at : ℕ) (minus : Bool) (b : ℕ) (s : List ℕ) → (Not P) (number_at at minus (b ∷ s))
  number_not at minus b s =
      if_either (Not P) (b == 48 && begins_with 39 s) (code_at at (drop 1 s)) _ (λ e. code_not at (drop 1 s))
      (λ e. if_either (Not P) (b == 48 && begins_with 120 s) (based 16 Hexadecimal at minus (drop 1 s)) _
      (λ e. based_not 16 Hexadecimal at minus (drop 1 s))
      (λ e. if_either (Not P) (b == 48 && begins_with 111 s) (based 8 Octal at minus (drop 1 s)) _
      (λ e. based_not 8 Octal at minus (drop 1 s))
      (λ e. if_either (Not P) (b == 48 && begins_with 98 s) (based 2 Binary at minus (drop 1 s)) _
      (λ e. based_not 2 Binary at minus (drop 1 s))
      (λ e. decimal_not at minus (b ∷ s)))))

-- a byte that begins a name or a variable is ASCII
pub class_low : (b : ℕ) → (class_of b ≡ Bad → ⊥) → b < 128
class_low b =
    let P : Class → Type 0 = λ c. (c ≡ Bad → ⊥) → b < 128 in
    if_either P (b == 32 || (nat_le 9 b && nat_le b 13)) Layout _ (λ e h. layout b e)
    (λ e. if_either P (b == 37) Percent _ (λ e h. one b 37 (omega arith) e)
    (λ e. if_either P (nat_le 97 b && nat_le b 122) Small _ (λ e h. small b e)
    (λ e. if_either P ((nat_le 65 b && nat_le b 90) || b == 95) Capital _ (λ e h. capital b e)
    (λ e. if_either P (nat_le 48 b && nat_le b 57) Digit _ (λ e h. digit b e)
    (λ e. if_either P (b == 39) SingleQuote _ (λ e h. one b 39 (omega arith) e)
    (λ e. if_either P (b == 34) DoubleQuote _ (λ e h. one b 34 (omega arith) e)
    (λ e. if_either P (b == 47) Slash _ (λ e h. one b 47 (omega arith) e)
    (λ e. if_either P (b == 46) Dot _ (λ e h. one b 46 (omega arith) e)
    (λ e. if_either P (has symbols b) Symbol _ (λ e h. symbol_low b e)
    (λ e. if_either P (b == 33 || b == 59) Solo (punctuation_of b) (λ e h. solo b e) (λ e. punctuation b)))))))))))
  where
    one : (b n : ℕ) → n < 128 → (b == n) ≡ true → b < 128
    one b n l e = grind (arith, nat_tests)

    layout : (b : ℕ) → (b == 32 || (nat_le 9 b && nat_le b 13)) ≡ true → b < 128
    layout b e = grind (arith, nat_tests)

    small : (b : ℕ) → (nat_le 97 b && nat_le b 122) ≡ true → b < 128
    small b e = grind (arith, nat_tests)

    capital : (b : ℕ) → ((nat_le 65 b && nat_le b 90) || b == 95) ≡ true → b < 128
    capital b e = grind (arith, nat_tests)

    digit : (b : ℕ) → (nat_le 48 b && nat_le b 57) ≡ true → b < 128
    digit b e = grind (arith, nat_tests)

    solo : (b : ℕ) → (b == 33 || b == 59) ≡ true → b < 128
    solo b e = grind (arith, nat_tests)

    punctuation : (b : ℕ) → (punctuation_of b ≡ Bad → ⊥) → b < 128
    punctuation b =
        let P : Class → Type 0 = λ c. (c ≡ Bad → ⊥) → b < 128 in
        if_either P (b == 40) _ _ (λ e h. one b 40 (omega arith) e)
        (λ e. if_either P (b == 41) _ _ (λ e h. one b 41 (omega arith) e)
        (λ e. if_either P (b == 91) _ _ (λ e h. one b 91 (omega arith) e)
        (λ e. if_either P (b == 93) _ _ (λ e h. one b 93 (omega arith) e)
        (λ e. if_either P (b == 123) _ _ (λ e h. one b 123 (omega arith) e)
        (λ e. if_either P (b == 125) _ _ (λ e h. one b 125 (omega arith) e)
        (λ e. if_either P (b == 44) _ _ (λ e h. one b 44 (omega arith) e)
        (λ e. if_either P (b == 124) _ _ (λ e h. one b 124 (omega arith) e) (λ e h. absurd (h refl)))))))))

run_utf8 : (set : Set) (s : List ℕ) → ((b : ℕ) → has set b ≡ true → b < 128) → IsUtf8 (take (run set s) s)
run_utf8 set [] low = IsUtf8-nil
run_utf8 set (b ∷ s) low =
    if_either (λ n. IsUtf8 (take n (b ∷ s))) (has set b) (suc (run set s)) 0
    (λ e. one_ascii b (take (run set s) s) (low b e) (run_utf8 set s low)) (λ e. IsUtf8-nil)

of_one : (at b : ℕ) (s : List ℕ) (to : ℕ) → b < 128 → at + 1 ≡ to → IsUtf8 (take (to - at) (b ∷ s))
of_one at b s to l e = let n : to - at ≡ suc zero = omega arith in subst (λ m. IsUtf8 (take m (b ∷ s))) (sym n)
    (one_ascii b [] l IsUtf8-nil)

of_run : (set : Set) (at b : ℕ) (s : List ℕ) (kind : TokenKind) (to : ℕ) (k : TokenKind)
    → ((c : ℕ) → has set c ≡ true → c < 128) → b < 128 → Whole k (at + 1 + run set s) ≡ Whole kind to → IsUtf8 (take (to - at) (b ∷ s))
of_run set at b s kind to k low l e =
    let q : at + 1 + run set s ≡ to = cc in
    let n : to - at ≡ suc (run set s) = omega arith in
    subst (λ m. IsUtf8 (take m (b ∷ s))) (sym n) (one_ascii b (take (run set s) s) l (run_utf8 set s low))

-- a name or a variable
plain_spelled : (k : Class) (at : ℕ) (minus : Bool) (b : ℕ) (s : List ℕ) (kind : TokenKind) (to : ℕ) → ((k ≡ Bad → ⊥) → b < 128)
    → spelled k at minus b s ≡ Whole kind to → IsPlain kind → IsUtf8 (take (to - at) (b ∷ s))
plain_spelled Layout at minus b s kind to low e p = cc
plain_spelled Percent at minus b s kind to low e p = absurd (subst (Not IsPlain) e (line_not IsPlain (λ n h. h) (at + 1) 0 s) p)
plain_spelled Small at minus b s kind to low e p = of_run Word at b s kind to Name word_low (low (λ h. cc)) e
plain_spelled Capital at minus b s kind to low e p = of_run Word at b s kind to Variable word_low (low (λ h. cc)) e
plain_spelled Digit at minus b s kind to low e p = absurd (subst (Not IsPlain) e (number_not IsPlain (λ n h. h) at minus b s) p)
plain_spelled SingleQuote at minus b s kind to low e p = absurd
    (subst (Not IsPlain) e (quoted_not IsPlain (λ n h. h) QuotedName 39 at (at + 1) 0 s (λ h. h)) p)
plain_spelled DoubleQuote at minus b s kind to low e p = absurd
    (subst (Not IsPlain) e (quoted_not IsPlain (λ n h. h) Text 34 at (at + 1) 0 s (λ h. h)) p)
plain_spelled Slash at minus b s kind to low e p =
    if_either (λ x. x ≡ Whole kind to → IsUtf8 (take (to - at) (b ∷ s))) (begins_with 42 s)
    (block_from at (at + 2) 0 (drop 1 s)) (Whole Name (at + 1 + run symbols s))
    (λ t f. absurd (subst (Not IsPlain) f (block_not IsPlain (λ n h. h) at (at + 2) 0 (drop 1 s)) p))
    (λ t f. of_run symbols at b s kind to Name symbol_low (low (λ h. cc)) f) e
plain_spelled Dot at minus b s kind to low e p =
    if_either (λ x. x ≡ Whole kind to → IsUtf8 (take (to - at) (b ∷ s))) (run symbols s == 0 && ends_clause s)
    (Whole End (at + 1)) (Whole Name (at + 1 + run symbols s))
    (λ t f. let q : End ≡ kind = cc in absurd (subst IsPlain (sym q) p))
    (λ t f. of_run symbols at b s kind to Name symbol_low (low (λ h. cc)) f) e
plain_spelled Symbol at minus b s kind to low e p = of_run symbols at b s kind to Name symbol_low (low (λ h. cc)) e
plain_spelled Solo at minus b s kind to low e p = of_one at b s to (low (λ h. cc)) (let q : at + 1 ≡ to = cc in q)
plain_spelled (Punctuation k) at minus b s kind to low e p = of_one at b s to (low (λ h. cc)) (let q : at + 1 ≡ to = cc in q)
plain_spelled Bad at minus b s kind to low e p = cc

pub plain_utf8 : (at : ℕ) (minus : Bool) (b : ℕ) (s : List ℕ) (kind : TokenKind) (to : ℕ)
    → begins at minus (b ∷ s) ≡ Whole kind to → IsPlain kind → IsUtf8 (take (to - at) (b ∷ s))
plain_utf8 at minus b s kind to e p = plain_spelled (class_of b) at minus b s kind to (class_low b) e p
