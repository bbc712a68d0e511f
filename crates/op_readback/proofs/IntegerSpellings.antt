-- Integers are spelt as they are written.
use Rattle.std.proofs.Common.{◌≡◌, ◌<◌, ◌≤◌, ◌-◌, ◌+◌, ◌*◌, ◌/◌, ◌%◌, ◌^◌, ℕ, Bool, true, false, ◌||◌, ◌&&◌, ◌==◌, List, [], ◌∷◌, ◌++◌}
use Rattle.std.proofs.Common.{length, take, drop, refl, sym, ◌∙◌, ap, arith, length-append}
use Rattle.std.specs.Prelude.{nat_lt, nat_le, decimal}
use Rattle.std.specs.List.{list_all}
use Rattle.std.proofs.lemmas.Bool.{leb-true, le-leb, lt-leb, eqb-true}
use Rattle.std.proofs.lemmas.Fmt.{decimal_by_steps}
use Rattle.std.proofs.lemmas.List.Folds.{list_all-append}
use Rattle.std.proofs.lemmas.List.Sums.{fold-append}
use Rattle.std.proofs.Math.Seq.{take-append_seam, drop-append_seam}
use Rattle.op_logic.proofs.BoolCases.{by_test, if_true, if_false}
use Rattle.op_token.specs.declared.token.TokenKind.TheVariants.{Integer}
use Rattle.op_token.specs.declared.spelling.Spelling.TheVariants.{Whole}
use Rattle.op_token.specs.declared.class.Class.{Class}
use Rattle.op_token.specs.declared.class.Class.TheVariants.{Digit}
use Rattle.op_token.specs.declared.set.Set.TheVariants.{Decimal}
use Rattle.op_token.specs.Set.{has, run, begins_with}
use Rattle.op_token.specs.Class.{class_of}
use Rattle.op_token.specs.Spelling.{begins, spelled, number_of, digit_value, is_fraction, least_magnitude, ranged}
use Rattle.op_base.specs.Characters.{is_word}
use Rattle.op_readback.proofs.QuotedNames.{and-parts}
use Rattle.op_readback.proofs.NameSpellings.{Stops, run-all, or-neither}

-- digits of a number
pub record IsDigits (n : ℕ) (ds : List ℕ) : Type 0 where
  pub digits : list_all (has Decimal) ds ≡ true
  pub value : number_of 10 ds ≡ n
  pub some : 0 < length ds

is-digit : (d : ℕ) → d < 10 → has Decimal (48 + d) ≡ true
is-digit d h = and-yes (nat_le 48 (48 + d)) (nat_le (48 + d) 57) (le-leb 48 (48 + d) (omega arith)) (le-leb (48 + d) 57 (omega (arith, h)))
  where
    and-yes : (a b : Bool) → a ≡ true → b ≡ true → (a && b) ≡ true
    and-yes true b h g = g
    and-yes false b h g = absurd (let e : false ≡ true = h in cc)

digit-worth : (d : ℕ) → d < 10 → digit_value (48 + d) ≡ d
digit-worth d h = if_true (nat_le (48 + d) 57) _ _ (le-leb (48 + d) 57 (omega (arith, h))) ∙ (let q : 48 + d - 48 ≡ d = omega arith in q)

abbrev more : ℕ → ℕ → ℕ
more n b = n * 10 + digit_value b

pub decimal-digits : (n : ℕ) → n < 2 ^ 64 → IsDigits n (decimal n)
decimal-digits n h = decimal_by_steps IsDigits one further n h
  where
    one : (n : ℕ) → n < 10 → IsDigits n ((48 + n) ∷ [])
    one n h = record {
      digits = and-true (has Decimal (48 + n)) (is-digit n h);
      value = (let u : number_of 10 ((48 + n) ∷ []) ≡ 0 * 10 + digit_value (48 + n) = refl in omega (arith, u, digit-worth n h));
      some = (let z : length ((48 + n) ∷ []) ≡ 1 = refl in omega (arith, z));
    }
      where
        and-true : (a : Bool) → a ≡ true → (a && true) ≡ true
        and-true true h = refl
        and-true false h = absurd (let e : false ≡ true = h in cc)

    further : (n : ℕ) (ds : List ℕ) → 10 ≤ n → IsDigits (n / 10) ds → IsDigits n (ds ++ ((48 + n % 10) ∷ []))
    further n ds h k =
        let d = n % 10 in
        let small : d < 10 = omega arith in
        record {
          digits = list_all-append (has Decimal) ds ((48 + d) ∷ [])
              ∙ both-true (list_all (has Decimal) ds) (has Decimal (48 + d)) k.digits (is-digit d small);
          value = (let u : number_of 10 (ds ++ ((48 + d) ∷ [])) ≡ more (number_of 10 ds) (48 + d) = fold-append more 0 ds
              ((48 + d) ∷ []) in omega (arith, u, k.value, digit-worth d small));
          some = omega (arith, k.some, length-append ds ((48 + d) ∷ []));
        }
      where
        both-true : (a b : Bool) → a ≡ true → b ≡ true → (a && (b && true)) ≡ true
        both-true true true h g = refl
        both-true true false h g = absurd (let e : false ≡ true = g in cc)
        both-true false b h g = absurd (let e : false ≡ true = h in cc)

pub not-is : (a b : ℕ) → b < a → (a == b) ≡ false
not-is a b h = by_test (a == b) (λ e. absurd (let q = eqb-true a b e in omega (arith, h, q))) (λ e. e)

pub not-less : (a b : ℕ) → a < b → (a == b) ≡ false
not-less a b h = by_test (a == b) (λ e. absurd (let q = eqb-true a b e in omega (arith, h, q))) (λ e. e)

pub or-no : (a b : Bool) → a ≡ false → b ≡ false → (a || b) ≡ false
or-no true b h g = absurd (let e : true ≡ false = h in cc)
or-no false b h g = g

pub and-left : (a b : Bool) → a ≡ false → (a && b) ≡ false
and-left true b h = absurd (let e : true ≡ false = h in cc)
and-left false b h = refl

pub and-right : (a b : Bool) → b ≡ false → (a && b) ≡ false
and-right true b h = h
and-right false b h = refl

digit-class : (b : ℕ) → has Decimal b ≡ true → class_of b ≡ Digit
digit-class b h =
    let k = and-parts (nat_le 48 b) (nat_le b 57) h in
    let l = leb-true 48 b k.0 in
    let u = leb-true b 57 k.1 in
    if_false (b == 32 || (nat_le 9 b && nat_le b 13)) _ _ (or-no (b == 32) (nat_le 9 b && nat_le b 13) (not-is b 32 (omega (arith, l)))
    (and-right (nat_le 9 b) (nat_le b 13) (lt-leb b 13 (omega (arith, l)))))
    ∙ (if_false (b == 37) _ _ (not-is b 37 (omega (arith, l)))
    ∙ (if_false (nat_le 97 b && nat_le b 122) _ _ (and-left (nat_le 97 b) (nat_le b 122) (lt-leb 97 b (omega (arith, u))))
    ∙ (if_false ((nat_le 65 b && nat_le b 90) || b == 95) _ _ (or-no (nat_le 65 b && nat_le b 90) (b == 95)
    (and-left (nat_le 65 b) (nat_le b 90) (lt-leb 65 b (omega (arith, u)))) (not-less b 95 (omega (arith, u))))
    ∙ if_true (nat_le 48 b && nat_le b 57) _ _ h)))

-- what may stand behind an integer
pub record EndsNumber (rest : List ℕ) : Type 0 where
  pub no-word : Stops is_word rest
  pub no-quote : begins_with 39 rest ≡ false
  pub no-fraction : is_fraction rest ≡ false

begins-not : (c : ℕ) → is_word c ≡ true → (rest : List ℕ) → Stops is_word rest → begins_with c rest ≡ false
begins-not c w [] h = refl
begins-not c w (b ∷ rest) h =
    by_test (b == c) (λ e. absurd (let q : is_word b ≡ is_word c = ap is_word (eqb-true b c e) in let z : false ≡ true = sym h
    ∙ (q ∙ w) in cc)) (λ e. e)

-- behind the first digit nothing else begins
behind-first : (c : ℕ) (bs rest : List ℕ) → has Decimal c ≡ false → list_all (has Decimal) bs ≡ true → begins_with c rest ≡ false
    → begins_with c (bs ++ rest) ≡ false
behind-first c [] rest n h g = g
behind-first c (b ∷ bs) rest n h g =
    let k = and-parts (has Decimal b) (list_all (has Decimal) bs) h in
    by_test (b == c) (λ e. absurd (let q : has Decimal b ≡ has Decimal c = ap (has Decimal) (eqb-true b c e) in let z : true
    ≡ false = sym k.0 ∙ (q ∙ n) in cc)) (λ e. e)

word-decimal : (rest : List ℕ) → Stops is_word rest → Stops (has Decimal) rest
word-decimal [] h = tt
word-decimal (b ∷ rest) h =
    let a = or-neither ((nat_le 97 b && nat_le b 122) || (nat_le 65 b && nat_le b 90) || (nat_le 48 b && nat_le b 57)) (b == 95) h in
    (or-neither ((nat_le 97 b && nat_le b 122) || (nat_le 65 b && nat_le b 90)) (nat_le 48 b && nat_le b 57) a.0).1

digits-spelled : (ds rest : List ℕ) (at : ℕ) (minus : Bool) → list_all (has Decimal) ds ≡ true → 0 < length ds → EndsNumber rest
    → (nat_lt (number_of 10 ds) least_magnitude || (minus && number_of 10 ds == least_magnitude)) ≡ true
    → begins at minus (ds ++ rest) ≡ Whole (Integer (number_of 10 ds)) (at + length ds)
digits-spelled [] rest at minus h some e ok = absurd (omega (arith, some))
digits-spelled (b ∷ bs) rest at minus h some e ok =
    let k = and-parts (has Decimal b) (list_all (has Decimal) bs) h in
    let s = bs ++ rest in
    let ds : List ℕ = b ∷ bs in
    let q39 = behind-first 39 bs rest refl k.1 e.no-quote in
    let q120 = behind-first 120 bs rest refl k.1 (begins-not 120 refl rest e.no-word) in
    let q111 = behind-first 111 bs rest refl k.1 (begins-not 111 refl rest e.no-word) in
    let q98 = behind-first 98 bs rest refl k.1 (begins-not 98 refl rest e.no-word) in
    let r : run Decimal (ds ++ rest) ≡ length ds = run-all Decimal ds rest h (word-decimal rest e.no-word) in
    ap (λ (c : Class). spelled c at minus b s) (digit-class b k.0)
    ∙ (if_false (b == 48 && begins_with 39 s) _ _ (and-right (b == 48) (begins_with 39 s) q39)
    ∙ (if_false (b == 48 && begins_with 120 s) _ _ (and-right (b == 48) (begins_with 120 s) q120)
    ∙ (if_false (b == 48 && begins_with 111 s) _ _ (and-right (b == 48) (begins_with 111 s) q111)
    ∙ (if_false (b == 48 && begins_with 98 s) _ _ (and-right (b == 48) (begins_with 98 s) q98)
    ∙ (if_false (is_fraction (drop (run Decimal (ds ++ rest)) (ds ++ rest))) _ _ (ap (λ (n : ℕ). is_fraction (drop n (ds ++ rest))) r
    ∙ (ap is_fraction (drop-append_seam ds rest) ∙ e.no-fraction))
    ∙ (ap (λ (n : ℕ). ranged at minus (number_of 10 (take n (ds ++ rest))) (at + n)) r
    ∙ (ap (λ (x : List ℕ). ranged at minus (number_of 10 x) (at + length ds)) (take-append_seam ds rest)
    ∙ if_true _ _ _ ok)))))))

pub number-spelled : (n : ℕ) (rest : List ℕ) (at : ℕ) (minus : Bool) → n < 2 ^ 64 → EndsNumber rest
    → (nat_lt n least_magnitude || (minus && n == least_magnitude)) ≡ true
    → begins at minus (decimal n ++ rest) ≡ Whole (Integer n) (at + length (decimal n))
number-spelled n rest at minus h e ok =
    let d = decimal-digits n h in
    digits-spelled (decimal n) rest at minus d.digits d.some e
    (ap (λ (m : ℕ). nat_lt m least_magnitude || (minus && m == least_magnitude)) d.value ∙ ok)
    ∙ ap (λ (m : ℕ). Whole (Integer m) (at + length (decimal n))) d.value
