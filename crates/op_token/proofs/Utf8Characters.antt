-- A character that is read is one in UTF-8.
use Rattle.std.proofs.Common.{◌≡◌, ℕ, zero, suc, ◌+◌, ◌-◌, ◌*◌, ◌/◌, ◌%◌, ◌<◌, ◌≤◌, Bool, true, false, ◌&&◌, ◌||◌, List, [], ◌∷◌}
use Rattle.std.proofs.Common.{◌++◌, Option, Some, None, length, take, refl, ap, sym, ◌∙◌, subst, cond, arith, inl, inr}
use Rattle.std.specs.Prelude.{nat_lt, nat_le, option_and_then}
use Rattle.std.specs.Char.{IsScalar}
use Rattle.std.proofs.lemmas.Bool.{ltb-true, ltb-false, leb-true, lt-ltb, le-ltb, le-leb, cases_lt}
use Rattle.std.proofs.lemmas.Str.{encode_ascii}
use lib.Utf8.{scalar, encode, low_scalar, scalar_cases}
use Rattle.op_token.specs.declared.character.Character.{Character}
use Rattle.op_token.specs.Character.{is_scalar, bits_of, checked, two, three, four, char_at, first_char}
use Rattle.op_token.proofs.SpellingEnds.{if_either, then_either, and_left, and_right}

pub scalar_is : (c : ℕ) → is_scalar c ≡ scalar c
scalar_is c = go (nat_lt c 55296) (nat_le 57344 c && nat_lt c 1114112)
  where
    go : (a b : Bool) → (a || b) ≡ cond a true b
    go true b = refl
    go false b = refl

encode_two : (c : ℕ) → 128 ≤ c → c < 2048 → encode c ≡ (192 + c / 64) ∷ (128 + c % 64) ∷ []
unfolding encode
encode_two c l h = rw (le-ltb c 128 l, lt-ltb c 2048 h) refl

encode_three : (c : ℕ) → 2048 ≤ c → c < 65536 → encode c ≡ (224 + c / 4096) ∷ (128 + (c / 64) % 64) ∷ (128 + c % 64) ∷ []
unfolding encode
encode_three c l h = let p : 128 ≤ c = omega arith in rw (le-ltb c 128 p, le-ltb c 2048 l, lt-ltb c 65536 h) refl

encode_four : (c : ℕ) → 65536 ≤ c → encode c ≡ (240 + c / 262144) ∷ (128 + (c / 4096) % 64) ∷ (128 + (c / 64) % 64) ∷ (128 + c % 64) ∷ []
unfolding encode
encode_four c l =
    let p : 128 ≤ c = omega arith in let q : 2048 ≤ c = omega arith in rw (le-ltb c 128 p, le-ltb c 2048 q, le-ltb c 65536 l) refl

-- the first n bytes are no ASCII
abbrev pub AllHigh : ℕ → List ℕ → Type 0
AllHigh zero s = Unit {0}
AllHigh (suc n) [] = Unit {0}
AllHigh (suc n) (b ∷ s) = (128 ≤ b) × AllHigh n s

-- what is read from a byte and those behind it
abbrev pub IsRead : ℕ → List ℕ → Option Character → Type 0
IsRead a s None = Unit {0}
IsRead a s (Some c) = (scalar c.code ≡ true) × (encode c.code ≡ a ∷ take c.more s) × AllHigh c.more s

checked_is : (a : ℕ) (s : List ℕ) (least c more : ℕ) → (least ≤ c → encode c ≡ a ∷ take more s) → AllHigh more s
    → IsRead a s (checked least c more)
checked_is a s least c more e h =
    if_either (IsRead a s) (nat_le least c && is_scalar c) (Some (record { code = c; more = more })) None
    (λ t. (
      sym (scalar_is c) ∙ and_right (nat_le least c) (is_scalar c) t,
      e (leb-true least c (and_left (nat_le least c) (is_scalar c) t)),
      h,
    ))
    (λ t. tt)

bits : (b x : ℕ) → bits_of b ≡ Some x → (b ≡ 128 + x) × (x < 64)
bits b x e =
    if_either (λ o. o ≡ Some x → (b ≡ 128 + x) × (x < 64)) (nat_le 128 b && nat_lt b 192) (Some (b - 128)) None
    (λ t p.
    let l = leb-true 128 b (and_left (nat_le 128 b) (nat_lt b 192) t) in
    let h = ltb-true b 192 (and_right (nat_le 128 b) (nat_lt b 192) t) in
    let q : b - 128 ≡ x = cc in
    (omega arith, omega arith))
    (λ t p. cc)
    e

two_bytes : (a b x : ℕ) → 192 ≤ a → a < 224 → b ≡ 128 + x → x < 64 → 128 ≤ (a - 192) * 64 + x → encode ((a - 192) * 64 + x) ≡ a ∷ b ∷ []
two_bytes a b x l h e v g =
    let p : 192 + ((a - 192) * 64 + x) / 64 ≡ a = omega arith in
    let q : 128 + ((a - 192) * 64 + x) % 64 ≡ b = omega arith in
    encode_two ((a - 192) * 64 + x) g (omega arith) ∙ ap (λ y. y ∷ (128 + ((a - 192) * 64 + x) % 64) ∷ []) p ∙ ap (λ y. a ∷ y ∷ []) q

three_bytes : (a b c x y : ℕ) → 224 ≤ a → a < 240 → b ≡ 128 + x → x < 64 → c ≡ 128 + y → y < 64
    → 2048 ≤ (a - 224) * 4096 + x * 64 + y → encode ((a - 224) * 4096 + x * 64 + y) ≡ a ∷ b ∷ c ∷ []
three_bytes a b c x y l h e v f w g =
    let n = (a - 224) * 4096 + x * 64 + y in
    let p : 224 + n / 4096 ≡ a = omega arith in
    let q : 128 + (n / 64) % 64 ≡ b = omega arith in
    let r : 128 + n % 64 ≡ c = omega arith in
    encode_three n g (omega arith)
    ∙ ap (λ z. z ∷ (128 + (n / 64) % 64) ∷ (128 + n % 64) ∷ []) p
    ∙ ap (λ z. a ∷ z ∷ (128 + n % 64) ∷ []) q
    ∙ ap (λ z. a ∷ b ∷ z ∷ []) r

four_bytes : (a b c d x y z : ℕ) → 240 ≤ a → a < 248 → b ≡ 128 + x → x < 64 → c ≡ 128 + y → y < 64 → d ≡ 128 + z → z < 64
    → 65536 ≤ (a - 240) * 262144 + x * 4096 + y * 64 + z → encode ((a - 240) * 262144 + x * 4096 + y * 64 + z) ≡ a ∷ b ∷ c ∷ d ∷ []
four_bytes a b c d x y z l h e v f w i k g =
    let n = (a - 240) * 262144 + x * 4096 + y * 64 + z in
    let p : 240 + n / 262144 ≡ a = omega arith in
    let q : 128 + (n / 4096) % 64 ≡ b = omega arith in
    let r : 128 + (n / 64) % 64 ≡ c = omega arith in
    let t : 128 + n % 64 ≡ d = omega arith in
    encode_four n g
    ∙ ap (λ m. m ∷ (128 + (n / 4096) % 64) ∷ (128 + (n / 64) % 64) ∷ (128 + n % 64) ∷ []) p
    ∙ ap (λ m. a ∷ m ∷ (128 + (n / 64) % 64) ∷ (128 + n % 64) ∷ []) q
    ∙ ap (λ m. a ∷ b ∷ m ∷ (128 + n % 64) ∷ []) r
    ∙ ap (λ m. a ∷ b ∷ c ∷ m ∷ []) t

two_is : (a : ℕ) (s : List ℕ) → 192 ≤ a → a < 224 → IsRead a s (two a s)
two_is a [] l h = tt
two_is a (b ∷ s) l h =
    then_either (IsRead a (b ∷ s)) (λ x. checked 128 ((a - 192) * 64 + x) 1) (bits_of b)
    (λ x e. let r = bits b x e in checked_is a (b ∷ s) 128 ((a - 192) * 64 + x) 1 (two_bytes a b x l h r.0 r.1) (omega (arith, r.0), tt))
    tt

three_is : (a : ℕ) (s : List ℕ) → 224 ≤ a → a < 240 → IsRead a s (three a s)
three_is a [] l h = tt
three_is a (b ∷ []) l h = then_either (IsRead a (b ∷ [])) (λ (x : ℕ). None) (bits_of b) (λ x e. tt) tt
three_is a (b ∷ c ∷ s) l h =
    then_either (IsRead a (b ∷ c ∷ s)) (λ x. option_and_then (λ y. checked 2048 ((a - 224) * 4096 + x * 64 + y) 2) (bits_of c)) (bits_of b)
    (λ x e. then_either (IsRead a (b ∷ c ∷ s)) (λ y. checked 2048 ((a - 224) * 4096 + x * 64 + y) 2) (bits_of c)
    (λ y f. let r = bits b x e in let t = bits c y f in
    checked_is a (b ∷ c ∷ s) 2048 ((a - 224) * 4096 + x * 64 + y) 2 (three_bytes a b c x y l h r.0 r.1 t.0 t.1)
    (omega (arith, r.0), (omega (arith, t.0), tt)))
    tt)
    tt

four_is : (a : ℕ) (s : List ℕ) → 240 ≤ a → a < 248 → IsRead a s (four a s)
four_is a [] l h = tt
four_is a (b ∷ []) l h = then_either (IsRead a (b ∷ [])) (λ (x : ℕ). None) (bits_of b) (λ x e. tt) tt
four_is a (b ∷ c ∷ []) l h =
    then_either (IsRead a (b ∷ c ∷ [])) (λ (x : ℕ). option_and_then (λ (y : ℕ). None) (bits_of c)) (bits_of b)
    (λ x e. then_either (IsRead a (b ∷ c ∷ [])) (λ (y : ℕ). None) (bits_of c) (λ y f. tt) tt) tt
four_is a (b ∷ c ∷ d ∷ s) l h =
    then_either (IsRead a (b ∷ c ∷ d ∷ s))
    (λ x.
    option_and_then (λ y. option_and_then (λ z. checked 65536 ((a - 240) * 262144 + x * 4096 + y * 64 + z) 3) (bits_of d))
    (bits_of c))
    (bits_of b)
    (λ x e.
    then_either (IsRead a (b ∷ c ∷ d ∷ s))
    (λ y. option_and_then (λ z. checked 65536 ((a - 240) * 262144 + x * 4096 + y * 64 + z) 3) (bits_of d)) (bits_of c)
    (λ y f. then_either (IsRead a (b ∷ c ∷ d ∷ s)) (λ z. checked 65536 ((a - 240) * 262144 + x * 4096 + y * 64 + z) 3) (bits_of d)
    (λ z g. let r = bits b x e in let t = bits c y f in let u = bits d z g in
    checked_is a (b ∷ c ∷ d ∷ s) 65536 ((a - 240) * 262144 + x * 4096 + y * 64 + z) 3
    (four_bytes a b c d x y z l h r.0 r.1 t.0 t.1 u.0 u.1) (omega (arith, r.0), (omega (arith, t.0), (omega (arith, u.0), tt))))
    tt)
    tt)
    tt

pub char_is : (a : ℕ) (s : List ℕ) → IsRead a s (char_at a s)
char_is a s =
    let P : Option Character → Type 0 = IsRead a s in
    if_either P (nat_lt a 128) (Some (record { code = a; more = 0 })) _
    (λ e. (low_scalar a (omega (arith, ltb-true a 128 e)), encode_ascii a (ltb-true a 128 e), tt))
    (λ e. if_either P (nat_lt a 192) None _ (λ e. tt)
    (λ e2. if_either P (nat_lt a 224) (two a s) _ (λ e. two_is a s (ltb-false a 192 e2) (ltb-true a 224 e))
    (λ e3. if_either P (nat_lt a 240) (three a s) _ (λ e. three_is a s (ltb-false a 224 e3) (ltb-true a 240 e))
    (λ e4. if_either P (nat_lt a 248) (four a s) None (λ e. four_is a s (ltb-false a 240 e4) (ltb-true a 248 e)) (λ e. tt)))))

-- each character in UTF-8 is read
bits_in : (y : ℕ) → y < 64 → bits_of (128 + y) ≡ Some y
bits_in y h =
    let p : 128 ≤ 128 + y = omega arith in
    let q : 128 + y < 192 = omega arith in
    let r : 128 + y - 128 ≡ y = omega arith in
    rw (le-leb 128 (128 + y) p, lt-ltb (128 + y) 192 q) (ap (λ n. Some n) r)

checked_gives : (least c more : ℕ) → least ≤ c → scalar c ≡ true → checked least c more ≡ Some (record { code = c; more = more })
checked_gives least c more l h = rw (le-leb least c l, scalar_is c, h) refl

is_two : (a : ℕ) (s : List ℕ) → 192 ≤ a → a < 224 → char_at a s ≡ two a s
is_two a s l h = let p : 128 ≤ a = omega arith in rw (le-ltb a 128 p, le-ltb a 192 l, lt-ltb a 224 h) refl

is_three : (a : ℕ) (s : List ℕ) → 224 ≤ a → a < 240 → char_at a s ≡ three a s
is_three a s l h =
    let p : 128 ≤ a = omega arith in
    let q : 192 ≤ a = omega arith in
    rw (le-ltb a 128 p, le-ltb a 192 q, le-ltb a 224 l, lt-ltb a 240 h) refl

is_four : (a : ℕ) (s : List ℕ) → 240 ≤ a → a < 248 → char_at a s ≡ four a s
is_four a s l h =
    let p : 128 ≤ a = omega arith in
    let q : 192 ≤ a = omega arith in
    let r : 224 ≤ a = omega arith in
    rw (le-ltb a 128 p, le-ltb a 192 q, le-ltb a 224 r, le-ltb a 240 l, lt-ltb a 248 h) refl

two_reads : (c : ℕ) (r : List ℕ) → scalar c ≡ true → 128 ≤ c → c < 2048
    → char_at (192 + c / 64) ((128 + c % 64) ∷ r) ≡ Some (record { code = c; more = 1 })
two_reads c r t l h =
    let a = 192 + c / 64 in
    let n : (a - 192) * 64 + c % 64 ≡ c = omega arith in
    is_two a ((128 + c % 64) ∷ r) (omega arith) (omega arith)
    ∙ ap (λ o. option_and_then (λ x. checked 128 ((a - 192) * 64 + x) 1) o) (bits_in (c % 64) (omega arith))
    ∙ ap (λ m. checked 128 m 1) n
    ∙ checked_gives 128 c 1 l t

three_reads : (c : ℕ) (r : List ℕ) → scalar c ≡ true → 2048 ≤ c → c < 65536
    → char_at (224 + c / 4096) ((128 + (c / 64) % 64) ∷ (128 + c % 64) ∷ r) ≡ Some (record { code = c; more = 2 })
three_reads c r t l h =
    let a = 224 + c / 4096 in
    let x = (c / 64) % 64 in
    let y = c % 64 in
    let n : (a - 224) * 4096 + x * 64 + y ≡ c = omega arith in
    is_three a ((128 + x) ∷ (128 + y) ∷ r) (omega arith) (omega arith)
    ∙ ap (λ o. option_and_then (λ x. option_and_then (λ y. checked 2048 ((a - 224) * 4096 + x * 64 + y) 2) (bits_of (128 + y))) o)
    (bits_in x (omega arith))
    ∙ ap (λ o. option_and_then (λ y. checked 2048 ((a - 224) * 4096 + x * 64 + y) 2) o) (bits_in y (omega arith))
    ∙ ap (λ m. checked 2048 m 2) n
    ∙ checked_gives 2048 c 2 l t

four_reads : (c : ℕ) (r : List ℕ) → scalar c ≡ true → 65536 ≤ c → c < 1114112
    → char_at (240 + c / 262144) ((128 + (c / 4096) % 64) ∷ (128 + (c / 64) % 64) ∷ (128 + c % 64) ∷ r)
    ≡ Some (record { code = c; more = 3 })
four_reads c r t l h =
    let a = 240 + c / 262144 in
    let x = (c / 4096) % 64 in
    let y = (c / 64) % 64 in
    let z = c % 64 in
    let n : (a - 240) * 262144 + x * 4096 + y * 64 + z ≡ c = omega arith in
    is_four a ((128 + x) ∷ (128 + y) ∷ (128 + z) ∷ r) (omega arith) (omega arith)
    ∙ ap (λ o.
    option_and_then
    (λ x.
    option_and_then
    (λ y. option_and_then (λ z. checked 65536 ((a - 240) * 262144 + x * 4096 + y * 64 + z) 3) (bits_of (128 + z)))
    (bits_of (128 + y)))
    o) (bits_in x (omega arith))
    ∙ ap (λ o.
    option_and_then
    (λ y. option_and_then (λ z. checked 65536 ((a - 240) * 262144 + x * 4096 + y * 64 + z) 3) (bits_of (128 + z))) o)
    (bits_in y (omega arith))
    ∙ ap (λ o. option_and_then (λ z. checked 65536 ((a - 240) * 262144 + x * 4096 + y * 64 + z) 3) o) (bits_in z (omega arith))
    ∙ ap (λ m. checked 65536 m 3) n
    ∙ checked_gives 65536 c 3 l t

pub char_reads : (c : ℕ) (r : List ℕ) → IsScalar c → first_char (encode c ++ r) ≡ Some (record { code = c; more = length (encode c) - 1 })
char_reads c r t = elim (cases_lt c 128) [
  | inl h ↦
      ap (λ e. first_char (e ++ r)) (encode_ascii c h)
      ∙ (rw (lt-ltb c 128 h) refl)
      ∙ ap (λ n. Some (record { code = c; more = n })) (zero_is (ap length (encode_ascii c h)))
  | inr l ↦ elim (cases_lt c 2048) [
    | inl h ↦
        ap (λ e. first_char (e ++ r)) (encode_two c l h)
        ∙ two_reads c r t l h
        ∙ ap (λ n. Some (record { code = c; more = n })) (one_is (ap length (encode_two c l h)))
    | inr l2 ↦ elim (cases_lt c 65536) [
      | inl h ↦
          ap (λ e. first_char (e ++ r)) (encode_three c l2 h)
          ∙ three_reads c r t l2 h
          ∙ ap (λ n. Some (record { code = c; more = n })) (two_more (ap length (encode_three c l2 h)))
      | inr l3 ↦
          ap (λ e. first_char (e ++ r)) (encode_four c l3)
          ∙ four_reads c r t l3 (scalar_below c t)
          ∙ ap (λ n. Some (record { code = c; more = n })) (three_more (ap length (encode_four c l3)))
    ]
  ]
]
  where
    zero_is : {n : ℕ} → n ≡ 1 → 0 ≡ n - 1
    zero_is e = omega arith

    one_is : {n : ℕ} → n ≡ 2 → 1 ≡ n - 1
    one_is e = omega arith

    two_more : {n : ℕ} → n ≡ 3 → 2 ≡ n - 1
    two_more e = omega arith

    three_more : {n : ℕ} → n ≡ 4 → 3 ≡ n - 1
    three_more e = omega arith

    scalar_below : (c : ℕ) → scalar c ≡ true → c < 1114112
    scalar_below c t = elim (scalar_cases c t) [ inl h ↦ omega arith | inr h ↦ h.1 ]

pub char_read : (a : ℕ) (s : List ℕ) (c : Character) → char_at a s ≡ Some c → IsScalar c.code × (encode c.code ≡ a ∷ take c.more s)
char_read a s c e = let r : IsRead a s (Some c) = subst (IsRead a s) e (char_is a s) in (r.0, r.1)
