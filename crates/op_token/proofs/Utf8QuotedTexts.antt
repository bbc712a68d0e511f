-- The text of a quoted token is UTF-8.
use Rattle.std.proofs.Common.{◌≡◌, ℕ, zero, suc, ◌+◌, ◌<◌, ◌≤◌, Bool, true, false, ◌&&◌, ◌||◌, List, [], ◌∷◌, ◌++◌, Option, Some, None}
use Rattle.std.proofs.Common.{length, take, drop, refl, ap, sym, ◌∙◌, subst, cond, arith, length-drop}
use Rattle.std.specs.Prelude.{◌==◌, nat_lt, IsUtf8}
use Rattle.std.specs.Option.{option_map_or}
use Rattle.std.proofs.lemmas.Bool.{ne_eqb, eqb-true}
use Rattle.std.proofs.lemmas.Bool.Decides.{nat_tests}
use Rattle.std.proofs.lemmas.Str.{IsUtf8-encode, IsUtf8-append, IsUtf8-nil, encode_ascii}
use lib.Utf8.{encode, low_scalar}
use Rattle.op_token.specs.declared.character.Character.{Character}
use Rattle.op_token.specs.declared.escape.Escape.{Escape}
use Rattle.op_token.specs.declared.set.Set.{Set}
use Rattle.op_token.specs.declared.set.Set.TheVariants.{Hexadecimal, Octal, Word, Symbol}
use Rattle.op_token.specs.declared.spelling.Spelling.{Spelling}
use Rattle.op_token.specs.declared.spelling.Spelling.TheVariants.{Whole}
use Rattle.op_token.specs.declared.token.TokenKind.{TokenKind}
use Rattle.op_token.specs.declared.token.TokenFaultKind.TheVariants.{BadChar, OpenQuote, BadEscape}
use Rattle.op_token.specs.Set.{run, has, begins_with}
use Rattle.op_token.specs.Character.{is_scalar, char_at}
use Rattle.op_token.specs.Spelling.{fault, simple_escape, number_of, numbered, escape_at, quoted_from}
use Rattle.op_token.specs.Tokens.{escaped, text_from}
use Rattle.op_token.proofs.SpellingEnds.{if_either, map_either, and_right, char_within, escape_within, begins_length}
use Rattle.op_token.proofs.Utf8Characters.{AllHigh, IsRead, char_is, scalar_is}

-- an escape stands for a character
IsCode : Option Escape → Type 0
IsCode None = Unit {0}
IsCode (Some x) = IsUtf8 (escaped x.code)

ascii_code : (c len : ℕ) → c < 128 → IsCode (Some (record { code = Some c; len = len }))
unfolding IsCode
ascii_code c len h = IsUtf8-encode c (low_scalar c (omega arith))

numbered_code : (base : ℕ) (set : Set) (lead : ℕ) (s : List ℕ) → IsCode (numbered base set lead s)
unfolding IsCode
numbered_code base set lead s =
    let code = number_of base (take (run set s) s) in
    if_either IsCode (nat_lt 0 (run set s) && begins_with 92 (drop (run set s) s) && is_scalar code)
    (Some (record { code = Some code; len = lead + run set s + 1 })) None
    (λ e. IsUtf8-encode code (sym (scalar_is code) ∙ and_right (nat_lt 0 (run set s) && begins_with 92 (drop (run set s) s))
    (is_scalar code) e))
    (λ e. tt)

either : {P : Type 0} (x y : Bool) → (x ≡ true → P) → (y ≡ true → P) → (x || y) ≡ true → P
either true y f g h = f refl
either false y f g h = g h

simple_low : (b c : ℕ) → simple_escape b ≡ Some c → c < 128
simple_low b c h =
    let P : Option ℕ → Type 0 = λ o. o ≡ Some c → c < 128 in
    let at : (n : ℕ) → n < 128 → P (Some n) = λ n l e. let q : n ≡ c = cc in omega arith in
    if_either P (b == 110) _ _ (λ e. at 10 (omega arith))
    (λ e. if_either P (b == 116) _ _ (λ e. at 9 (omega arith))
    (λ e. if_either P (b == 97) _ _ (λ e. at 7 (omega arith))
    (λ e. if_either P (b == 98) _ _ (λ e. at 8 (omega arith))
    (λ e. if_either P (b == 102) _ _ (λ e. at 12 (omega arith))
    (λ e. if_either P (b == 118) _ _ (λ e. at 11 (omega arith))
    (λ e. if_either P (b == 114) _ _ (λ e. at 13 (omega arith))
    (λ e. if_either P (b == 92 || b == 39 || b == 34 || b == 96) _ _ (λ e. at b (own b e)) (λ e i. cc)))))))) h
  where
    own : (b : ℕ) → (b == 92 || b == 39 || b == 34 || b == 96) ≡ true → b < 128
    own b e =
        let or_either : (x y : Bool) → (x ≡ true → b < 128) → (y ≡ true → b < 128) → (x || y) ≡ true → b < 128 =
        λ x y f g h. either x y f g h in
        let is : (n : ℕ) → n < 128 → (b == n) ≡ true → b < 128 = λ n l t. let q = eqb-true b n t in omega arith in
        or_either (b == 92 || b == 39 || b == 34) (b == 96)
        (or_either (b == 92 || b == 39) (b == 34) (or_either (b == 92) (b == 39) (is 92 (omega arith)) (is 39 (omega arith)))
        (is 34 (omega arith)))
        (is 96 (omega arith)) e

escape_code : (s : List ℕ) → IsCode (escape_at s)
unfolding IsCode
escape_code [] = tt
escape_code (b ∷ s) =
    map_either IsCode (λ c. Some (record { code = Some c; len = 1 })) (simple_escape b) _ (λ c e. ascii_code c 1 (simple_low b c e))
    (λ e. if_either IsCode (b == 10) (Some (record { code = None; len = 1 })) _ (λ e. IsUtf8-nil)
    (λ e. if_either IsCode (b == 120) (numbered 16 Hexadecimal 1 s) _ (λ e. numbered_code 16 Hexadecimal 1 s)
    (λ e. if_either IsCode (has Octal b) (numbered 8 Octal 0 (b ∷ s)) None (λ e. numbered_code 8 Octal 0 (b ∷ s)) (λ e. tt))))

-- the bytes of a character behind its first stand for themselves
copies : (q n : ℕ) (s : List ℕ) → q < 128 → n ≤ length s → AllHigh n s → text_from q 0 s ≡ take n s ++ text_from q 0 (drop n s)
copies q zero s l h a = refl
copies q (suc n) [] l h a = absurd (omega arith)
copies q (suc n) (b ∷ s) l h a =
    let p : b == q ≡ false = ne_eqb b q (λ e. omega (arith, a.0)) in
    let r : b == 92 ≡ false = ne_eqb b 92 (λ e. omega (arith, a.0)) in
    (rw (p, r) refl) ∙ ap (λ t. b ∷ t) (copies q n s l (omega arith) a.1)

text_inside : (q n : ℕ) (s : List ℕ) → n ≤ length s → text_from q n s ≡ text_from q 0 (drop n s)
text_inside q zero s h = refl
text_inside q (suc n) [] h = absurd (omega arith)
text_inside q (suc n) (b ∷ s) h = text_inside q n s (omega arith)

-- what each part of quoted text stands for
escaped_is : (o : Option ℕ) → escaped o ≡ option_map_or encode o []
escaped_is None = refl
escaped_is (Some c) = refl

text_quote : (q b : ℕ) (s : List ℕ) → (b == q) ≡ true → begins_with q s ≡ true → text_from q 0 (b ∷ s) ≡ b ∷ text_from q 1 s
text_quote q b s u v = rw (u, v) refl

text_escape : (q b : ℕ) (s : List ℕ) (x : Escape) → (b == q) ≡ false → (b == 92) ≡ true → escape_at s ≡ Some x
    → text_from q 0 (b ∷ s) ≡ escaped x.code ++ text_from q x.len s
text_escape q b s x u v g = rw (u, v, g) refl

text_char : (q b : ℕ) (s : List ℕ) → (b == q) ≡ false → (b == 92) ≡ false → text_from q 0 (b ∷ s) ≡ b ∷ text_from q 0 s
text_char q b s u v = rw (u, v) refl

pub text_stop : (q b : ℕ) (s : List ℕ) → (b == q) ≡ true → begins_with q s ≡ false → text_from q 0 (b ∷ s) ≡ []
text_stop q b s u v = rw (u, v) refl

pub text_doubled : (q b : ℕ) (s : List ℕ) → (b == q) ≡ true → begins_with q s ≡ true
    → text_from q 0 (b ∷ s) ≡ (q ∷ []) ++ text_from q 0 (drop 1 s)
text_doubled q b s u v =
    text_quote q b s u v ∙ ap (λ i. i ∷ text_from q 1 s) (eqb-true b q u)
    ∙ ap (λ t. q ∷ t) (text_inside q 1 s (begins_length q s v))

pub text_escaped : (q b : ℕ) (s : List ℕ) (x : Escape) → (b == q) ≡ false → (b == 92) ≡ true → escape_at s ≡ Some x
    → text_from q 0 (b ∷ s) ≡ option_map_or encode x.code [] ++ text_from q 0 (drop x.len s)
text_escaped q b s x u v g =
    text_escape q b s x u v g ∙ ap (λ t. t ++ text_from q x.len s) (escaped_is x.code)
    ∙ ap (λ t. option_map_or encode x.code [] ++ t) (text_inside q x.len s (escape_within s x g))

pub text_plain : (q b : ℕ) (s : List ℕ) (c : Character) → q < 128 → (b == q) ≡ false → (b == 92) ≡ false → char_at b s ≡ Some c
    → text_from q 0 (b ∷ s) ≡ (b ∷ take c.more s) ++ text_from q 0 (drop c.more s)
text_plain q b s c l u v g =
    let r : IsRead b s (Some c) = subst (IsRead b s) g (char_is b s) in
    text_char q b s u v ∙ ap (λ t. b ∷ t) (copies q c.more s l (char_within b s c g) r.2)

pub quoted_inside : (kind : TokenKind) (q start at n : ℕ) (s : List ℕ) → n ≤ length s
    → quoted_from kind q start at n s ≡ quoted_from kind q start (at + n) 0 (drop n s)
quoted_inside kind q start at zero s h = let e : at + 0 ≡ at = omega arith in rw e refl
quoted_inside kind q start at (suc n) [] h = absurd (omega arith)
quoted_inside kind q start at (suc n) (b ∷ s) h = let e : at + suc n ≡ suc at + n = omega arith in
    rw e (quoted_inside kind q start (suc at) n s (omega arith))

abbrev pub IsWhole : Spelling → Type 0
IsWhole (Whole kind end) = Unit {0}
IsWhole x = ⊥

-- quoted text and what it stands for, case by case
by_cases : (b10 bq bw b92 : Bool) (oe : Option Escape) (oc : Option Character) (f1 f2 f3 q1 w : Spelling)
    (qe : Escape → Spelling) (qc : Character → Spelling) (t1 t0 tx tc : List ℕ) (te : Escape → List ℕ)
    → (IsWhole f1 → ⊥) → (IsWhole f2 → ⊥) → (IsWhole f3 → ⊥)
    → (bq ≡ true → bw ≡ true → IsWhole q1 → IsUtf8 t1) → IsUtf8 t0
    → ((x : Escape) → oe ≡ Some x → IsWhole (qe x) → IsUtf8 (te x))
    → (bq ≡ false → b92 ≡ false → (c : Character) → oc ≡ Some c → IsWhole (qc c) → IsUtf8 tc)
    → IsWhole (cond b10 f1 (cond bq (cond bw q1 w) (cond b92 (option_map_or qe oe f2) (option_map_or qc oc f3))))
    → IsUtf8 (cond bq (cond bw t1 t0) (cond b92 (option_map_or te oe tx) tc))
by_cases true bq bw b92 oe oc f1 f2 f3 q1 w qe qc t1 t0 tx tc te n1 n2 n3 g1 g0 ge gc h = absurd (n1 h)
by_cases false true true b92 oe oc f1 f2 f3 q1 w qe qc t1 t0 tx tc te n1 n2 n3 g1 g0 ge gc h = g1 refl refl h
by_cases false true false b92 oe oc f1 f2 f3 q1 w qe qc t1 t0 tx tc te n1 n2 n3 g1 g0 ge gc h = g0
by_cases false false bw true None oc f1 f2 f3 q1 w qe qc t1 t0 tx tc te n1 n2 n3 g1 g0 ge gc h = absurd (n2 h)
by_cases false false bw true (Some x) oc f1 f2 f3 q1 w qe qc t1 t0 tx tc te n1 n2 n3 g1 g0 ge gc h = ge x refl h
by_cases false false bw false oe None f1 f2 f3 q1 w qe qc t1 t0 tx tc te n1 n2 n3 g1 g0 ge gc h = absurd (n3 h)
by_cases false false bw false oe (Some c) f1 f2 f3 q1 w qe qc t1 t0 tx tc te n1 n2 n3 g1 g0 ge gc h = gc refl refl c refl h

pub one_ascii : (b : ℕ) (t : List ℕ) → b < 128 → IsUtf8 t → IsUtf8 (b ∷ t)
one_ascii b t h u = IsUtf8-append (b ∷ []) t (subst IsUtf8 (encode_ascii b h) (IsUtf8-encode b (low_scalar b (omega arith)))) u

pub quoted_utf8 : (f : ℕ) (kind : TokenKind) (q start at : ℕ) (s : List ℕ) → length s ≤ f → q < 128
    → IsWhole (quoted_from kind q start at 0 s) → IsUtf8 (text_from q 0 s)
unfolding IsCode
quoted_utf8 f kind q start at [] l h w = IsUtf8-nil
quoted_utf8 zero kind q start at (b ∷ s) l h w = absurd (omega arith)
quoted_utf8 (suc f) kind q start at (b ∷ s) l h w =
    let further : (n : ℕ) → n ≤ length s → IsWhole (quoted_from kind q start (suc at) n s) → IsUtf8 (text_from q 0 (drop n s)) =
    λ n m v. quoted_utf8 f kind q start (suc at + n) (drop n s) (omega (arith, length-drop n s)) h
    (subst IsWhole (quoted_inside kind q start (suc at) n s m) v) in
    by_cases (b == 10) (b == q) (begins_with q s) (b == 92) (escape_at s) (char_at b s)
    (fault start OpenQuote) (fault at BadEscape) (fault at BadChar) (quoted_from kind q start (suc at) 1 s) (Whole kind (suc at))
    (λ x. quoted_from kind q start (suc at) x.len s) (λ c. quoted_from kind q start (suc at) c.more s)
    (b ∷ text_from q 1 s) [] (text_from q 0 s) (b ∷ text_from q 0 s) (λ x. escaped x.code ++ text_from q x.len s)
    (λ n. n) (λ n. n) (λ n. n)
    (λ e t v.
    let m = begins_length q s t in
    one_ascii b (text_from q 1 s) (omega (arith, eqb-true b q e)) (subst IsUtf8 (sym (text_inside q 1 s m)) (further 1 m v)))
    IsUtf8-nil
    (λ x e v. let m = escape_within s x e in
    IsUtf8-append (escaped x.code) (text_from q x.len s) (subst IsCode e (escape_code s))
    (subst IsUtf8 (sym (text_inside q x.len s m)) (further x.len m v)))
    (λ n n2 c e v.
    let m = char_within b s c e in
    let r : IsRead b s (Some c) = subst (IsRead b s) e (char_is b s) in
    let u : IsUtf8 (b ∷ take c.more s) = subst IsUtf8 r.1 (IsUtf8-encode c.code r.0) in
    subst IsUtf8 (ap (λ t. b ∷ t) (sym (copies q c.more s h m r.2)))
    (IsUtf8-append (b ∷ take c.more s) (text_from q 0 (drop c.more s)) u (further c.more m v)))
    w

-- a byte of a set is ASCII
pub word_low : (b : ℕ) → has Word b ≡ true → b < 128
word_low b h = grind (arith, nat_tests)

pub symbol_low : (b : ℕ) → has Symbol b ≡ true → b < 128
symbol_low b h = grind (arith, nat_tests)
