-- How names are spelt in a text.
use Rattle.std.proofs.Common.{◌≡◌, ◌<◌, ◌+◌, ℕ, suc, Bool, true, false, ◌||◌, ◌&&◌, ◌==◌, List, [], ◌∷◌, ◌++◌, length, drop, refl, sym, ◌∙◌}
use Rattle.std.proofs.Common.{ap, subst, arith, length-append}
use Rattle.std.specs.Prelude.{codes, nat_le}
use Rattle.std.specs.List.{list_all, flat_map}
use Rattle.std.specs.Str.{chars, IsUtf8}
use Rattle.std.proofs.lemmas.Bool.{leb-true, lt-leb, eqb-true}
use Rattle.std.proofs.lemmas.List.{append_assoc}
use Rattle.std.proofs.lemmas.Str.{encodes-chars, chars-encodes}
use lib.Utf8.{encodes, scalars}
use Rattle.op_logic.proofs.BoolCases.{by_test, if_true, if_false}
use Rattle.op_token.specs.declared.token.TokenKind.TheVariants.{Name, QuotedName}
use Rattle.op_token.specs.declared.spelling.Spelling.TheVariants.{Whole}
use Rattle.op_token.specs.declared.class.Class.{Class}
use Rattle.op_token.specs.declared.class.Class.TheVariants.{Small, Symbol as ASymbol}
use Rattle.op_token.specs.declared.set.Set.{Set}
use Rattle.op_token.specs.declared.set.Set.TheVariants.{Word, Symbol}
use Rattle.op_token.specs.Set.{has, run, begins_with}
use Rattle.op_token.specs.Class.{class_of}
use Rattle.op_token.specs.Spelling.{begins, spelled, ends_clause}
use Rattle.op_token.specs.Tokens.{text_from}
use Rattle.op_base.specs.Characters.{is_symbol, is_word, is_small}
use Rattle.op_writer.specs.Spelling.{is_symbolic, is_word_name, is_other_token, escaped, quoted}
use Rattle.op_readback.proofs.QuotedNames.{quoted-chars, text-chars, and-parts}

pub or-either : {P : Type 0} (a b : Bool) → (a || b) ≡ true → (a ≡ true → P) → (b ≡ true → P) → P
or-either true b h f g = f refl
or-either false b h f g = g h

pub or-neither : (a b : Bool) → (a || b) ≡ false → (a ≡ false) × (b ≡ false)
or-neither true b h = absurd (let e : true ≡ false = h in cc)
or-neither false b h = (refl, h)

-- what doesn't begin with a byte of a set
abbrev pub Stops : (ℕ → Bool) → List ℕ → Type 0
Stops p [] = Unit {0}
Stops p (b ∷ bs) = p b ≡ false

run-stops : (set : Set) (s : List ℕ) → Stops (has set) s → run set s ≡ 0
run-stops set [] h = refl
run-stops set (b ∷ bs) h = if_false (has set b) _ _ h

pub run-all : (set : Set) (bs s : List ℕ) → list_all (has set) bs ≡ true → Stops (has set) s → run set (bs ++ s) ≡ length bs
run-all set [] s h g = run-stops set s g
run-all set (b ∷ bs) s h g =
    let k = and-parts (has set b) (list_all (has set) bs) h in
    if_true (has set b) _ _ k.0 ∙ ap suc (run-all set bs s k.1 g)

-- a small letter begins a name
small-class : (b : ℕ) → is_small b ≡ true → class_of b ≡ Small
small-class b h =
    let k = and-parts (nat_le 97 b) (nat_le b 122) h in
    let l = leb-true 97 b k.0 in
    if_false (b == 32 || (nat_le 9 b && nat_le b 13)) _ _ (both-false (b == 32) (nat_le 9 b && nat_le b 13)
    (not-is b 32 (omega (arith, l))) (and-false (nat_le 9 b) (nat_le b 13) (lt-leb b 13 (omega (arith, l)))))
    ∙ (if_false (b == 37) _ _ (not-is b 37 (omega (arith, l))) ∙ if_true (nat_le 97 b && nat_le b 122) _ _ h)
  where
    not-is : (a b : ℕ) → b < a → (a == b) ≡ false
    not-is a b h = by_test (a == b) (λ e. absurd (let q = eqb-true a b e in omega (arith, h, q))) (λ e. e)

    both-false : (a b : Bool) → a ≡ false → b ≡ false → (a || b) ≡ false
    both-false true b h g = absurd (let e : true ≡ false = h in cc)
    both-false false b h g = g

    and-false : (a b : Bool) → b ≡ false → (a && b) ≡ false
    and-false true b h = h
    and-false false b h = refl

pub word-spelled : (name rest : List ℕ) (at : ℕ) (minus : Bool) → is_word_name name ≡ true → Stops is_word rest
    → begins at minus (name ++ rest) ≡ Whole Name (at + length name)
word-spelled [] rest at minus h g = absurd (let e : false ≡ true = h in cc)
word-spelled (b ∷ bs) rest at minus h g =
    let k = and-parts (is_small b) (list_all is_word bs) h in
    ap (λ (c : Class). spelled c at minus b (bs ++ rest)) (small-class b k.0)
    ∙ ap (λ (n : ℕ). Whole Name n) (let r = run-all Word bs rest k.1 g in let q : at + 1 + run Word (bs ++ rest)
    ≡ at + length (b ∷ bs) = omega (arith, r) in q)

-- the symbol characters
pub by-symbol : (P : ℕ → Type 0) → P 43 → P 45 → P 42 → P 47 → P 92 → P 94 → P 60 → P 62 → P 61 → P 126 → P 58 → P 46 → P 63 → P 64 → P 35
    → P 38 → P 36 → (b : ℕ) → is_symbol b ≡ true → P b
by-symbol P p1 p2 p3 p4 p5 p6 p7 p8 p9 p10 p11 p12 p13 p14 p15 p16 p17 b h =
    let at : (n : ℕ) → P n → (b == n) ≡ true → P b = (λ n p e. subst P (sym (eqb-true b n e)) p) in
    or-either _ _ h (λ h. or-either _ _ h (λ h. or-either _ _ h
    (λ h. or-either _ _ h (λ h. or-either _ _ h (λ h. or-either _ _ h (λ h. or-either _ _ h (λ h. or-either _ _ h
    (λ h. or-either _ _ h (λ h. or-either _ _ h
    (λ h. or-either _ _ h (λ h. or-either _ _ h (λ h. or-either _ _ h (λ h. or-either _ _ h (λ h. or-either _ _ h (λ h. or-either _ _ h
    (at 43 p1) (at 45 p2)) (at 42 p3)) (at 47 p4)) (at 92 p5)) (at 94 p6)) (at 60 p7)) (at 62 p8)) (at 61 p9)) (at 126 p10)) (at 58 p11))
    (at 46 p12)) (at 63 p13)) (at 64 p14)) (at 35 p15)) (at 38 p16)) (at 36 p17)

-- what a symbol name is spelt as: a full stop by itself and what begins a comment are none
abbrev SymbolSpelled : ℕ → Type 0
SymbolSpelled b =
    (bs rest : List ℕ) (at : ℕ) (minus : Bool) → list_all is_symbol bs ≡ true → is_other_token (b ∷ bs) ≡ false → Stops is_symbol rest
    → begins at minus (b ∷ (bs ++ rest)) ≡ Whole Name (at + suc (length bs))

plain-symbol : (b : ℕ) → class_of b ≡ ASymbol → SymbolSpelled b
plain-symbol b c bs rest at minus h o g =
    ap (λ (k : Class). spelled k at minus b (bs ++ rest)) c
    ∙ ap (λ (n : ℕ). Whole Name n) (let r = run-all Symbol bs rest h g in let q : at + 1 + run Symbol (bs ++ rest)
    ≡ at + suc (length bs) = omega (arith, r) in q)

dot-spelled : SymbolSpelled 46
dot-spelled [] rest at minus h o g = absurd (let e : true ≡ false = o in cc)
dot-spelled (c ∷ bs) rest at minus h o g =
    let r = run-all Symbol (c ∷ bs) rest h g in
    let none : (run Symbol ((c ∷ bs) ++ rest) == 0 && ends_clause ((c ∷ bs) ++ rest)) ≡ false =
    and-no (run Symbol ((c ∷ bs) ++ rest) == 0) (ends_clause ((c ∷ bs) ++ rest)) (by_test (run Symbol ((c ∷ bs) ++ rest) == 0)
    (λ e. absurd (let q = eqb-true (run Symbol ((c ∷ bs) ++ rest)) 0 e in let z : length (c ∷ bs) ≡ suc (length bs) = refl in omega
    (arith, r, q, z))) (λ e. e)) in
    if_false _ _ _ none ∙ ap (λ (n : ℕ). Whole Name n) (let z : length (c ∷ bs) ≡ suc (length bs) = refl in let q : at + 1 + run Symbol
    ((c ∷ bs) ++ rest) ≡ at + suc (length (c ∷ bs)) = omega (arith, r) in q)
  where
    and-no : (a b : Bool) → a ≡ false → (a && b) ≡ false
    and-no true b h = absurd (let e : true ≡ false = h in cc)
    and-no false b h = refl

slash-spelled : SymbolSpelled 47
slash-spelled bs rest at minus h o g =
    if_false (begins_with 42 (bs ++ rest)) _ _ (no-star bs rest o g)
    ∙ ap (λ (n : ℕ). Whole Name n) (let r = run-all Symbol bs rest h g in let q : at + 1 + run Symbol (bs ++ rest)
    ≡ at + suc (length bs) = omega (arith, r) in q)
  where
    star-stops : (rest : List ℕ) → Stops is_symbol rest → begins_with 42 rest ≡ false
    star-stops [] g = refl
    star-stops (c ∷ rest) g =
        by_test (c == 42) (λ e. absurd (let q : is_symbol c ≡ is_symbol 42 = ap is_symbol (eqb-true c 42 e) in let z : false
        ≡ true = sym g ∙ q in cc)) (λ e. e)

    no-star : (bs rest : List ℕ) → is_other_token (47 ∷ bs) ≡ false → Stops is_symbol rest → begins_with 42 (bs ++ rest) ≡ false
    no-star [] rest o g = star-stops rest g
    no-star (c ∷ bs) rest o g = by_test (c == 42)
        (λ e. absurd (let q : is_other_token (47 ∷ c ∷ bs) ≡ is_other_token (47 ∷ 42 ∷ bs) = ap (λ (x : ℕ). is_other_token
        (47 ∷ x ∷ bs)) (eqb-true c 42 e) in
        let z : true ≡ false = sym q ∙ o in cc))
        (λ e. e)

pub symbol-spelled : (name rest : List ℕ) (at : ℕ) (minus : Bool) → is_symbolic name ≡ true → is_other_token name ≡ false
    → Stops is_symbol rest → begins at minus (name ++ rest) ≡ Whole Name (at + length name)
symbol-spelled [] rest at minus h o g = absurd (let e : false ≡ true = h in cc)
symbol-spelled (b ∷ bs) rest at minus h o g =
    let k = and-parts (is_symbol b) (list_all is_symbol bs) h in
    by-symbol SymbolSpelled (plain-symbol 43 refl) (plain-symbol 45 refl) (plain-symbol 42 refl) slash-spelled (plain-symbol 92 refl)
    (plain-symbol 94 refl) (plain-symbol 60 refl) (plain-symbol 62 refl)
    (plain-symbol 61 refl) (plain-symbol 126 refl) (plain-symbol 58 refl) dot-spelled (plain-symbol 63 refl) (plain-symbol 64 refl)
    (plain-symbol 35 refl) (plain-symbol 38 refl) (plain-symbol 36 refl)
    b k.0 bs rest at minus k.1 o g

-- a quoted name
utf8-scalars : (name : List ℕ) → IsUtf8 name → (scalars (chars name) ≡ true) × (encodes (chars name) ≡ name)
utf8-scalars name u =
    (ap scalars (sym (ap chars u.1.1) ∙ chars-encodes u.0 u.1.0) ∙ u.1.0, encodes-chars name u)

assoc-quotes : (xs rest : List ℕ) → (codes "'" ++ xs ++ codes "'") ++ rest ≡ 39 ∷ (xs ++ 39 ∷ rest)
assoc-quotes xs rest = ap (λ (x : List ℕ). 39 ∷ x) (append_assoc xs (39 ∷ []) rest)

pub quoted-spelled : (name rest : List ℕ) (at : ℕ) (minus : Bool) → IsUtf8 name → begins_with 39 rest ≡ false
    → begins at minus (quoted name ++ rest) ≡ Whole QuotedName (at + length (quoted name))
quoted-spelled name rest at minus u stop =
    let k = utf8-scalars name u in
    let xs = flat_map escaped (chars name) in
    ap (begins at minus) (assoc-quotes xs rest)
    ∙ (quoted-chars (chars name) at (at + 1) rest k.0 stop
    ∙ ap (λ (n : ℕ). Whole QuotedName n) (let e = length-append xs (39 ∷ []) in let q : at + 1 + length xs + 1
    ≡ at + length (quoted name) = omega (arith, e) in q))

pub quoted-text : (name rest : List ℕ) → IsUtf8 name → begins_with 39 rest ≡ false → text_from 39 0 (drop 1 (quoted name ++ rest)) ≡ name
quoted-text name rest u stop =
    let xs = flat_map escaped (chars name) in
    ap (λ (x : List ℕ). text_from 39 0 (drop 1 x)) (assoc-quotes xs rest) ∙ (text-chars (chars name) rest stop ∙ (utf8-scalars name u).1)
