-- The classes of characters and the sets of bytes are those of the spellings.
use Rattle.std.proofs.Common.{◌≡◌, ℕ, zero, suc, ◌+◌, ◌*◌, ◌<◌, ◌≤◌, Bool, true, false, ◌&&◌, ◌||◌, List, [], ◌∷◌, map, take, refl, ap}
use Rattle.std.proofs.Common.{sym, ◌∙◌, subst, cond, arith, inl, inr}
use Rattle.std.specs.Prelude.{◌==◌, not, fold, codes}
use Rattle.std.proofs.lemmas.Bool.{eqb-true, cases_lt}
use Rattle.std.proofs.lemmas.Bool.Decides.{nat_tests}
use Rattle.op_token.specs.declared.class.Class.{Class}
use Rattle.op_token.specs.declared.class.Class.TheVariants.{Layout, Percent, Small, Capital, Digit, SingleQuote, DoubleQuote, Slash}
use Rattle.op_token.specs.declared.class.Class.TheVariants.{Dot, Symbol, Solo, Punctuation, Bad}
use Rattle.op_token.specs.declared.set.Set.{Set}
use Rattle.op_token.specs.declared.set.Set.TheVariants.{Word, Symbol as symbols, Decimal, Hexadecimal, Octal, Binary}
use Rattle.op_token.specs.declared.token.TokenKind.{TokenKind}
use Rattle.op_token.specs.declared.token.TokenKind.TheVariants.{OpenRound, CloseRound, OpenSquare, CloseSquare, OpenCurly, CloseCurly}
use Rattle.op_token.specs.declared.token.TokenKind.TheVariants.{Comma, Bar}
use Rattle.op_token.specs.Set.{has, run}
use Rattle.op_token.specs.Class.{class_of}
use Rattle.op_token.specs.Spelling.{digit_value, number_of}
use Rattle.op_token.specs.Spellings.{small_letters, variable_starts, alphanumeric, symbol_characters, layout_characters, is_one_of}
use Rattle.op_token.specs.Spellings.{are_of, value_of_digit, value_of_digits, octal_digits, decimal_digits, hexadecimal_digits}
use Rattle.op_token.proofs.AsciiNames.{class_low}
use Rattle.op_token.proofs.Utf8QuotedTexts.{word_low, symbol_low}

-- what holds of each of some characters
heads : {A : Type 0} {x y : A} {xs ys : List A} → x ∷ xs ≡ y ∷ ys → x ≡ y
heads h = cc

tails : {A : Type 0} {x y : A} {xs ys : List A} → x ∷ xs ≡ y ∷ ys → xs ≡ ys
tails h = cc

pub same_on : {A : Type 0} (f g : ℕ → A) (xs : List ℕ) (b : ℕ) → map f xs ≡ map g xs → is_one_of xs b ≡ true → f b ≡ g b
same_on f g [] b h e = cc
same_on f g (c ∷ xs) b h e = go (b == c) refl e (same_on f g xs b (tails h))
  where
    go : (t : Bool) → (b == c) ≡ t → (t || is_one_of xs b) ≡ true → (is_one_of xs b ≡ true → f b ≡ g b) → f b ≡ g b
    go true q k r = ap f (eqb-true b c q) ∙ heads h ∙ sym (ap g (eqb-true b c q))
    go false q k r = r k

-- what holds of each number below another
abbrev pub all_below : (ℕ → Bool) → ℕ → Bool
all_below p zero = true
all_below p (suc n) = p n && all_below p n

and_both : (a b : Bool) → (a && b) ≡ true → (a ≡ true) × (b ≡ true)
and_both true b h = (refl, h)
and_both false b h = cc

pub below : (p : ℕ → Bool) (n b : ℕ) → all_below p n ≡ true → b < n → p b ≡ true
below p zero b h l = absurd (omega arith)
below p (suc n) b h l =
    let w = and_both (p n) (all_below p n) h in
    elim (cases_lt b n) [ inl m ↦ below p n b w.1 m | inr m ↦ (let e : n ≡ b = omega arith in subst (λ i. p i ≡ true) e w.0) ]

-- the bytes of a set
abbrev pub characters : Set → List ℕ
characters Word = alphanumeric
characters symbols = symbol_characters
characters Decimal = decimal_digits
characters Hexadecimal = hexadecimal_digits
characters Octal = octal_digits
characters Binary = codes "01"

set_low : (set : Set) (b : ℕ) → has set b ≡ true → b < 128
set_low Word b h = word_low b h
set_low symbols b h = symbol_low b h
set_low Decimal b h = grind (arith, nat_tests)
set_low Hexadecimal b h = grind (arith, nat_tests)
set_low Octal b h = grind (arith, nat_tests)
set_low Binary b h = grind (arith, nat_tests)

implied : (a b : Bool) → (not a || b) ≡ true → a ≡ true → b ≡ true
implied true b h e = h
implied false b h e = cc

set_checked : (set : Set) → all_below (λ b. not (has set b) || is_one_of (characters set) b) 128 ≡ true
set_checked Word = refl
set_checked symbols = refl
set_checked Decimal = refl
set_checked Hexadecimal = refl
set_checked Octal = refl
set_checked Binary = refl

pub set_is : (set : Set) (b : ℕ) → has set b ≡ true → is_one_of (characters set) b ≡ true
set_is set b h = implied (has set b) (is_one_of (characters set) b)
    (below (λ b. not (has set b) || is_one_of (characters set) b) 128 b (set_checked set) (set_low set b h)) h

characters_checked : (set : Set) → map (has set) (characters set) ≡ map (λ b. true) (characters set)
characters_checked Word = refl
characters_checked symbols = refl
characters_checked Decimal = refl
characters_checked Hexadecimal = refl
characters_checked Octal = refl
characters_checked Binary = refl

pub set_has : (set : Set) (b : ℕ) → is_one_of (characters set) b ≡ true → has set b ≡ true
set_has set b h = same_on (has set) (λ b. true) (characters set) b (characters_checked set) h

-- the byte is of the class
abbrev pub punctuation_fits : TokenKind → ℕ → Bool
punctuation_fits OpenRound b = b == 40
punctuation_fits CloseRound b = b == 41
punctuation_fits OpenSquare b = b == 91
punctuation_fits CloseSquare b = b == 93
punctuation_fits OpenCurly b = b == 123
punctuation_fits CloseCurly b = b == 125
punctuation_fits Comma b = b == 44
punctuation_fits Bar b = b == 124
punctuation_fits kind b = false

abbrev pub fits : Class → ℕ → Bool
fits Layout b = is_one_of layout_characters b
fits Percent b = b == 37
fits Small b = is_one_of small_letters b
fits Capital b = is_one_of variable_starts b
fits Digit b = is_one_of decimal_digits b
fits SingleQuote b = b == 39
fits DoubleQuote b = b == 34
fits Slash b = b == 47
fits Dot b = b == 46
fits Symbol b = is_one_of symbol_characters b && (not (b == 46) && not (b == 47))
fits Solo b = b == 33 || b == 59
fits (Punctuation kind) b = punctuation_fits kind b
fits Bad b = true

class_checked : all_below (λ b. fits (class_of b) b) 128 ≡ true
class_checked = refl

pub class_fits : (b : ℕ) → fits (class_of b) b ≡ true
class_fits b = elim (cases_lt b 128) [ inl l ↦ below (λ b. fits (class_of b) b) 128 b class_checked l | inr l ↦ go l (class_of b) refl ]
  where
    high : (k : Class) → 128 ≤ b → class_of b ≡ k → (k ≡ Bad → ⊥) → fits k b ≡ true
    high k l e n = let low : b < 128 = class_low b (λ q. n (sym e ∙ q)) in absurd (omega arith)

    go : 128 ≤ b → (k : Class) → class_of b ≡ k → fits k b ≡ true
    go l Layout e = high Layout l e (λ q. cc)
    go l Percent e = high Percent l e (λ q. cc)
    go l Small e = high Small l e (λ q. cc)
    go l Capital e = high Capital l e (λ q. cc)
    go l Digit e = high Digit l e (λ q. cc)
    go l SingleQuote e = high SingleQuote l e (λ q. cc)
    go l DoubleQuote e = high DoubleQuote l e (λ q. cc)
    go l Slash e = high Slash l e (λ q. cc)
    go l Dot e = high Dot l e (λ q. cc)
    go l Symbol e = high Symbol l e (λ q. cc)
    go l Solo e = high Solo l e (λ q. cc)
    go l (Punctuation kind) e = high (Punctuation kind) l e (λ q. cc)
    go l Bad e = refl

-- runs
pub are_set : (set : Set) (s : List ℕ) → are_of (characters set) (take (run set s) s) ≡ true
are_set set [] = refl
are_set set (b ∷ s) = go (has set b) refl (are_set set s)
  where
    go : (t : Bool) → has set b ≡ t → are_of (characters set) (take (run set s) s) ≡ true
        → are_of (characters set) (take (cond t (suc (run set s)) 0) (b ∷ s)) ≡ true
    go true e r = ap (λ t. t && are_of (characters set) (take (run set s) s)) (set_is set b e) ∙ r
    go false e r = refl

-- the numbers of digits
pub are_within : (xs ys s : List ℕ) → map (is_one_of ys) xs ≡ map (λ b. true) xs → are_of xs s ≡ true → are_of ys s ≡ true
are_within xs ys [] h e = refl
are_within xs ys (b ∷ s) h e =
    let w = and_both (is_one_of xs b) (are_of xs s) e in
    ap (λ t. t && are_of ys s) (same_on (is_one_of ys) (λ b. true) xs b h w.0) ∙ are_within xs ys s h w.1

values_from : (base n : ℕ) (s : List ℕ) → are_of hexadecimal_digits s ≡ true
    → fold (λ n b. n * base + value_of_digit b) n s ≡ fold (λ n b. n * base + digit_value b) n s
values_from base n [] e = refl
values_from base n (b ∷ s) e =
    let w = and_both (is_one_of hexadecimal_digits b) (are_of hexadecimal_digits s) e in
    let v : value_of_digit b ≡ digit_value b = same_on value_of_digit digit_value hexadecimal_digits b refl w.0 in
    values_from base (n * base + value_of_digit b) s w.1 ∙ ap (λ d. fold (λ n b. n * base + digit_value b) (n * base + d) s) v

pub values_same : (base : ℕ) (s : List ℕ) → are_of hexadecimal_digits s ≡ true → value_of_digits base s ≡ number_of base s
values_same base s e = values_from base 0 s e
