-- What the operations of the code give, as integers without a bound.
use Rattle.std.proofs.Common.{◌≡◌, ℕ, zero, suc, ◌+◌, ◌*◌, ◌^◌, ◌/◌, ◌%◌, ◌<◌, ◌≤◌, true, sym, ◌∙◌, ap, refl, arith}
use Rattle.std.proofs.Math.Nat.{div-add-mod, mod-lt, mul-zero, zero-mul, mul_comm}
use Rattle.std.proofs.Math.Pow.{pow_mono}
use Rattle.std.proofs.lemmas.Int.{ints, quot-rem, to_z-of_z, to_z_pos, fits_signed_mul}
use Rattle.std.specs.Prelude.{ℤ, pos, negsuc, neg_ℤ, ◌+ℤ◌, ◌-ℤ◌, ◌*ℤ◌, int_div, int_rem, int_le, unsigned_abs, Option, Some, None}
use Rattle.std.specs.Prelude.{SomeIff, FitsSigned}
use Rattle.std.specs.Int.{w64, w128, cast_signed, cast_unsigned}
use Rattle.op_inspect.specs.Arithmetic.{Answer, divided, rounded_down}

pub divided-other : (y : ℤ) (a : Answer) → (y ≡ pos 0 → ⊥) → divided y a ≡ a
divided-other (pos zero) a other = absurd (other refl)
divided-other (pos (suc n)) a other = refl
divided-other (negsuc n) a other = refl

-- the negation of a positive integer of 64 bits has 64 bits, and of a negative one it is the absolute value
pub abs-value : (x : ℤ) → FitsSigned w64 x → (r : Option ℤ) → SomeIff r (FitsSigned w64 (neg_ℤ x)) (pos (unsigned_abs x))
    → SomeIff r (FitsSigned w64 (pos (unsigned_abs x))) (pos (unsigned_abs x))
abs-value (negsuc n) fits r told = told
abs-value (pos zero) fits r told = told
abs-value (pos (suc n)) fits None told =
    let less : suc n < 2 ^ 63 = fits.sfits in
    let small : n < 2 ^ 63 = omega (arith, less) in
    absurd (told (record { sfits = small }))
abs-value (pos (suc n)) fits (Some v) told = (fits, told.1)

behind : (q r a : ℤ) → q +ℤ r ≡ a → r ≡ a -ℤ q
behind q r a e = omega (arith, ints, e)

pub rem-behind : (x y : ℤ) → int_rem x y ≡ x -ℤ int_div x y *ℤ y
rem-behind x y = behind (int_div x y *ℤ y) (int_rem x y) x (quot-rem x y)

times-neg : (q d : ℕ) → pos q *ℤ neg_ℤ (pos d) ≡ neg_ℤ (pos (d * q))
times-neg q zero = ap pos (mul-zero q) ∙ sym (ap (λ (n : ℕ). neg_ℤ (pos n)) (zero-mul q))
times-neg q (suc d) = ap (λ (n : ℕ). neg_ℤ (pos n)) (mul_comm q (suc d))

neg-behind : (a m r : ℕ) → m + r ≡ a → neg_ℤ (pos r) ≡ neg_ℤ (pos a) -ℤ neg_ℤ (pos m)
neg-behind a m r e = omega (arith, ints, e)

neg-mod : (a d : ℕ) → neg_ℤ (pos (a % d)) ≡ neg_ℤ (pos a) -ℤ pos (a / d) *ℤ neg_ℤ (pos d)
neg-mod a d = neg-behind a (d * (a / d)) (a % d) (div-add-mod a d) ∙ ap (λ (z : ℤ). neg_ℤ (pos a) -ℤ z) (sym (times-neg (a / d) d))

-- what is left behind the quotient of an integer that isn't positive by a negative one
pub mod-behind : (x : ℤ) (d u : ℕ) → int_le x (pos 0) ≡ true → u ≡ unsigned_abs x
    → neg_ℤ (pos (u % d)) ≡ x -ℤ rounded_down (neg_ℤ x) d *ℤ neg_ℤ (pos d)
mod-behind (pos zero) d u low e = ap (λ (n : ℕ). neg_ℤ (pos (n % d))) e ∙ neg-mod 0 d
mod-behind (pos (suc n)) d u low e = let no : ⊥ = grind (arith, low) in absurd no
mod-behind (negsuc n) d u low e = ap (λ (n : ℕ). neg_ℤ (pos (n % d))) e ∙ neg-mod (suc n) d

pub negated : (k : ℕ) → k < 2 ^ 63 → cast_signed w64 (cast_unsigned w64 (pos 0 -ℤ cast_signed w64 k)) ≡ neg_ℤ (pos k)
negated k less = omega (arith, ints, less)

pub left-below : (u d : ℕ) → 0 < d → d ≤ 2 ^ 63 → u % d < 2 ^ 63
left-below u d some small = let less = mod-lt u some in omega (arith, less, small)

-- 64 bits in 128
pub widened : (x : ℤ) → FitsSigned w64 x → cast_signed w128 (cast_unsigned w128 (cast_signed w64 (cast_unsigned w64 x))) ≡ x
widened x fits =
    let less : _ < 2 ^ 63 = fits.sfits in
    ap (λ (z : ℤ). cast_signed w128 (cast_unsigned w128 z)) (to_z-of_z w64 x fits)
    ∙ to_z-of_z w128 x (record { sfits = let wide : _ < 2 ^ 127 = omega (arith, less) in wide })

power-below : (n : ℕ) → n < 64 → 2 ^ n ≤ 2 ^ 63
power-below n few = pow_mono (let at : n ≤ 63 = omega (arith, few) in at)

pub power-widened : (n : ℕ) → n < 64 → (p : ℤ) → p ≡ pos (2 ^ n) → cast_signed w128 (cast_unsigned w128 p) ≡ pos (2 ^ n)
power-widened n few p e =
    let most = power-below n few in
    ap (λ (z : ℤ). cast_signed w128 (cast_unsigned w128 z)) e
    ∙ to_z_pos w128 (2 ^ n) (let wide : 2 ^ n < 2 ^ 127 = omega (arith, most) in wide)

abs-below : (x : ℤ) → FitsSigned w64 x → unsigned_abs x ≤ 2 ^ 63
abs-below (pos n) fits = let less : n < 2 ^ 63 = fits.sfits in omega (arith, less)
abs-below (negsuc n) fits = let less : n < 2 ^ 63 = fits.sfits in omega (arith, less)

pub shift-fits : (x : ℤ) (n : ℕ) → FitsSigned w64 x → n < 64 → FitsSigned w128 (x *ℤ pos (2 ^ n))
shift-fits x n fits few =
    fits_signed_mul w128 x (pos (2 ^ n)) (2 ^ 63) (2 ^ 63) (abs-below x fits) (power-below n few)
    (let wide : 2 ^ 63 * 2 ^ 63 < 2 ^ 127 = omega arith in wide)
