-- The bytes of texts in UTF-8 stand in the order of their characters.
use Rattle.std.proofs.Common.{◌≡◌, ℕ, zero, suc, ◌+◌, ◌*◌, ◌/◌, ◌%◌, ◌<◌, ◌≤◌, Bool, true, false, ◌&&◌, List, [], ◌∷◌, ◌++◌, length, sym}
use Rattle.std.proofs.Common.{◌∙◌, ap}
use Rattle.std.proofs.Common.{refl, arith, ◌⊎◌, inl, inr, ⊎_elim, cond, ltb, append_assoc, length-append}
use Rattle.std.specs.declared.cmp.Ordering.{Ordering}
use Rattle.std.specs.declared.cmp.Ordering.TheVariants.{Less, Equal, Greater}
use Rattle.std.specs.Ordering.{ordering_then, ordering_reverse, nat_cmp}
use Rattle.std.specs.Cmp.Lexicographic.{slice_cmp}
use Rattle.std.specs.Str.{IsUtf8, chars, all_scalars, encode_utf8_all}
use Rattle.std.specs.Char.{encode_utf8}
use Rattle.std.proofs.lemmas.Bool.{lt-ltb, le-ltb}
use Rattle.std.proofs.lemmas.Bool.Decides.{nat_tests}
use Rattle.std.proofs.lemmas.Cmp.{nat_list_cmp_total, ranked, by_ranked}
use Rattle.std.proofs.lemmas.Str.{chars_from_encodes, length-encode, len_utf8_bounds}
use Rattle.op_logic.proofs.BoolCases.{if_true, if_false, by_order}
use Rattle.op_term.specs.Order.{name_order}

first-less : (x y : ℕ) (xs ys : List ℕ) → x < y → name_order (x ∷ xs) (y ∷ ys) ≡ Less
first-less x y xs ys h = let e : nat_cmp x y ≡ Less = grind (arith, nat_tests) in ap (λ o. ordering_then o (name_order xs ys)) e

first-same : (x y : ℕ) (xs ys : List ℕ) → x ≡ y → name_order (x ∷ xs) (y ∷ ys) ≡ name_order xs ys
first-same x y xs ys h = let e : nat_cmp x y ≡ Equal = grind (arith, nat_tests) in ap (λ o. ordering_then o (name_order xs ys)) e

-- the digits of a number in base 64
abbrev following : ℕ → ℕ
following c = 128 + c % 64

digits : (c d : ℕ) → c < d → (c / 64 < d / 64) ⊎ ((c / 64 ≡ d / 64) × (c % 64 < d % 64))
digits c d h = by_order (c / 64) (d / 64) (λ l. inl l) (λ l. inr (omega arith, omega arith))

two-less : (b c d : ℕ) (r s : List ℕ) → c < d
    → name_order ((b + c / 64) ∷ following c ∷ r) ((b + d / 64) ∷ following d ∷ s) ≡ Less
two-less b c d r s h =
    ⊎_elim
    (λ l. first-less (b + c / 64) (b + d / 64) (following c ∷ r) (following d ∷ s) (omega (arith, l)))
    (λ l. first-same (b + c / 64) (b + d / 64) (following c ∷ r) (following d ∷ s) (ap (λ k. b + k) l.0)
    ∙ first-less (following c) (following d) r s (omega (arith, l.1)))
    (digits c d h)

three-less : (b c d : ℕ) (r s : List ℕ) → c < d
    → name_order ((b + c / 64 / 64) ∷ following (c / 64) ∷ following c ∷ r) ((b + d / 64 / 64) ∷ following (d / 64) ∷ following d ∷ s)
    ≡ Less
three-less b c d r s h =
    ⊎_elim
    (λ l. two-less b (c / 64) (d / 64) (following c ∷ r) (following d ∷ s) l)
    (λ l. first-same (b + c / 64 / 64) (b + d / 64 / 64) (following (c / 64) ∷ following c ∷ r) (following (d / 64) ∷ following d ∷ s)
    (ap (λ k. b + k / 64) l.0)
    ∙ (first-same (following (c / 64)) (following (d / 64)) (following c ∷ r) (following d ∷ s) (ap following l.0)
    ∙ first-less (following c) (following d) r s (omega (arith, l.1))))
    (digits c d h)

four-less : (b c d : ℕ) (r s : List ℕ) → c < d
    → name_order ((b + c / 64 / 64 / 64) ∷ following (c / 64 / 64) ∷ following (c / 64) ∷ following c ∷ r)
    ((b + d / 64 / 64 / 64) ∷ following (d / 64 / 64) ∷ following (d / 64) ∷ following d ∷ s) ≡ Less
four-less b c d r s h =
    ⊎_elim
    (λ l. three-less b (c / 64) (d / 64) (following c ∷ r) (following d ∷ s) l)
    (λ l. first-same (b + c / 64 / 64 / 64) (b + d / 64 / 64 / 64) (following (c / 64 / 64) ∷ following (c / 64) ∷ following c ∷ r)
    (following (d / 64 / 64) ∷ following (d / 64) ∷ following d ∷ s) (ap (λ k. b + k / 64 / 64) l.0)
    ∙ (first-same (following (c / 64 / 64)) (following (d / 64 / 64)) (following (c / 64) ∷ following c ∷ r)
    (following (d / 64) ∷ following d ∷ s) (ap (λ k. following (k / 64)) l.0)
    ∙ (first-same (following (c / 64)) (following (d / 64)) (following c ∷ r) (following d ∷ s) (ap following l.0)
    ∙ first-less (following c) (following d) r s (omega (arith, l.1)))))
    (digits c d h)

-- the bytes of a character, by how many there are
abbrev two-bytes : ℕ → List ℕ
two-bytes c = (192 + c / 64) ∷ following c ∷ []

abbrev three-bytes : ℕ → List ℕ
three-bytes c = (224 + c / 64 / 64) ∷ following (c / 64) ∷ following c ∷ []

abbrev four-bytes : ℕ → List ℕ
four-bytes c = (240 + c / 64 / 64 / 64) ∷ following (c / 64 / 64) ∷ following (c / 64) ∷ following c ∷ []

twice : (c : ℕ) → c / 4096 ≡ c / 64 / 64
twice c = omega arith

thrice : (c : ℕ) → c / 262144 ≡ c / 64 / 64 / 64
thrice c = omega arith

encode-one : (c : ℕ) → c < 128 → encode_utf8 c ≡ c ∷ []
unfolding encode_utf8
encode-one c h = if_true (ltb c 128) _ _ (lt-ltb c 128 h)

encode-two : (c : ℕ) → 128 ≤ c → c < 2048 → encode_utf8 c ≡ two-bytes c
unfolding encode_utf8
encode-two c h k = if_false (ltb c 128) _ _ (le-ltb c 128 h) ∙ if_true (ltb c 2048) _ _ (lt-ltb c 2048 k)

encode-three : (c : ℕ) → 2048 ≤ c → c < 65536 → encode_utf8 c ≡ three-bytes c
unfolding encode_utf8
encode-three c h k =
    if_false (ltb c 128) _ _ (le-ltb c 128 (omega arith)) ∙ (if_false (ltb c 2048) _ _ (le-ltb c 2048 h)
    ∙ (if_true (ltb c 65536) _ _ (lt-ltb c 65536 k) ∙ ap (λ n. (224 + n) ∷ following (c / 64) ∷ following c ∷ []) (twice c)))

encode-four : (c : ℕ) → 65536 ≤ c → encode_utf8 c ≡ four-bytes c
unfolding encode_utf8
encode-four c h =
    if_false (ltb c 128) _ _ (le-ltb c 128 (omega arith)) ∙ (if_false (ltb c 2048) _ _ (le-ltb c 2048 (omega arith))
    ∙ (if_false (ltb c 65536) _ _ (le-ltb c 65536 h)
    ∙ (ap (λ n. (240 + n) ∷ following (c / 4096) ∷ following (c / 64) ∷ following c ∷ []) (thrice c)
    ∙ ap (λ n. (240 + c / 64 / 64 / 64) ∷ following n ∷ following (c / 64) ∷ following c ∷ []) (twice c))))

module _ (c d : ℕ) (r s : List ℕ) (h : c < d) where
  abbrev Goal : Type 0
  Goal = name_order (encode_utf8 c ++ r) (encode_utf8 d ++ s) ≡ Less

  spelled : (xs ys : List ℕ) → encode_utf8 c ≡ xs → encode_utf8 d ≡ ys → name_order (xs ++ r) (ys ++ s) ≡ Less → Goal
  spelled xs ys e f g = ap (λ bs. name_order (bs ++ r) (encode_utf8 d ++ s)) e ∙ (ap (λ bs. name_order (xs ++ r) (bs ++ s)) f ∙ g)

  -- a lesser first byte
  ahead : (x y : ℕ) (xs ys : List ℕ) → encode_utf8 c ≡ x ∷ xs → encode_utf8 d ≡ y ∷ ys → x < y → Goal
  ahead x y xs ys e f l = spelled (x ∷ xs) (y ∷ ys) e f (first-less x y (xs ++ r) (ys ++ s) l)

  behind-one : c < 128 → Goal
  behind-one l =
      by_order d 128
      (λ m. ahead c d [] [] (encode-one c l) (encode-one d m) h)
      (λ m. by_order d 2048
      (λ n. ahead c _ [] _ (encode-one c l) (encode-two d m n) (omega arith))
      (λ n. by_order d 65536
      (λ o. ahead c _ [] _ (encode-one c l) (encode-three d n o) (omega arith))
      (λ o. ahead c _ [] _ (encode-one c l) (encode-four d o) (omega arith))))

  behind-two : 128 ≤ c → c < 2048 → Goal
  behind-two l m =
      by_order d 2048
      (λ n. spelled _ _ (encode-two c l m) (encode-two d (omega arith) n) (two-less 192 c d r s h))
      (λ n. by_order d 65536
      (λ o. ahead _ _ _ _ (encode-two c l m) (encode-three d n o) (omega arith))
      (λ o. ahead _ _ _ _ (encode-two c l m) (encode-four d o) (omega arith)))

  behind-three : 2048 ≤ c → c < 65536 → Goal
  behind-three l m =
      by_order d 65536
      (λ o. spelled _ _ (encode-three c l m) (encode-three d (omega arith) o) (three-less 224 c d r s h))
      (λ o. ahead _ _ _ _ (encode-three c l m) (encode-four d o) (omega arith))

  behind-four : 65536 ≤ c → Goal
  behind-four l = spelled _ _ (encode-four c l) (encode-four d (omega arith)) (four-less 240 c d r s h)

  lesser-character : Goal
  lesser-character =
      by_order c 128 behind-one
      (λ l. by_order c 2048 (behind-two l) (λ m. by_order c 65536 (behind-three m) behind-four))

same-front : (xs ys zs : List ℕ) → name_order (xs ++ ys) (xs ++ zs) ≡ name_order ys zs
same-front [] ys zs = refl
same-front (x ∷ xs) ys zs = first-same x x (xs ++ ys) (xs ++ zs) refl ∙ same-front xs ys zs

before-some : (xs : List ℕ) → 0 < length xs → name_order [] xs ≡ Less
before-some [] h = absurd (omega arith)
before-some (x ∷ xs) h = refl

after-some : (xs : List ℕ) → 0 < length xs → name_order xs [] ≡ Greater
after-some [] h = absurd (omega arith)
after-some (x ∷ xs) h = refl

some-bytes : (c : ℕ) (cs : List ℕ) → 0 < length (encode_utf8_all (c ∷ cs))
some-bytes c cs = omega (arith, length-append (encode_utf8 c) (encode_utf8_all cs), length-encode c, (len_utf8_bounds c).0)

characters-order : (cs ds : List ℕ) → name_order (encode_utf8_all cs) (encode_utf8_all ds) ≡ slice_cmp nat_cmp cs ds
characters-order [] [] = refl
characters-order [] (d ∷ ds) = before-some (encode_utf8_all (d ∷ ds)) (some-bytes d ds)
characters-order (c ∷ cs) [] = after-some (encode_utf8_all (c ∷ cs)) (some-bytes c cs)
characters-order (c ∷ cs) (d ∷ ds) =
    let r = encode_utf8_all cs in
    let s = encode_utf8_all ds in
    let rest = slice_cmp nat_cmp cs ds in
    by_ranked (c < d) (c ≡ d) (d < c) (nat_cmp c d) (ranked c d (nat_cmp c d) refl)
    (λ e l. lesser-character c d r s l ∙ sym (ap (λ o. ordering_then o rest) e))
    (λ e l. ap (λ k. name_order (encode_utf8 c ++ r) (encode_utf8 k ++ s)) (sym l)
    ∙ (same-front (encode_utf8 c) r s ∙ (characters-order cs ds ∙ sym (ap (λ o. ordering_then o rest) e))))
    (λ e l. nat_list_cmp_total.antisymm (encode_utf8 c ++ r) (encode_utf8 d ++ s)
    ∙ (ap ordering_reverse (lesser-character d c s r l) ∙ sym (ap (λ o. ordering_then o rest) e)))

pub bytes-by-characters : (a b : List ℕ) → IsUtf8 a → IsUtf8 b → name_order a b ≡ slice_cmp nat_cmp (chars a) (chars b)
bytes-by-characters a b u v =
    let cs = u.0 in
    let ds = v.0 in
    let x : cs ≡ chars a = chars_from_encodes cs a u u.1.1 in
    let y : ds ≡ chars b = chars_from_encodes ds b v v.1.1 in
    ap (λ t. name_order t b) (sym u.1.1) ∙ (ap (name_order (encode_utf8_all cs)) (sym v.1.1) ∙ (characters-order cs ds
    ∙ (ap (λ t. slice_cmp nat_cmp t ds) x ∙ ap (slice_cmp nat_cmp (chars a)) y)))
