-- What is taken as a token is spelt as one.
use Rattle.std.proofs.Common.{◌≡◌, ℕ, zero, suc, ◌+◌, ◌-◌, ◌<◌, ◌≤◌, Bool, true, false, ◌&&◌, ◌||◌, List, [], ◌∷◌, ◌++◌, Option, Some}
use Rattle.std.proofs.Common.{None, length, map, take, drop, refl, ap, sym, ◌∙◌, subst, cond, arith, length-drop, append_assoc, inl}
use Rattle.std.proofs.Common.{inr}
use Rattle.std.specs.Prelude.{◌==◌, not, nat_lt, unwrap_or, codes}
use Rattle.std.specs.Option.{option_map_or}
use Rattle.std.specs.Char.{IsScalar}
use Rattle.std.proofs.lemmas.Bool.{eqb-true, eq-eqb, ne_eqb, ltb-true, cases_lt, or_from}
use Rattle.std.proofs.lemmas.Bool.Decides.{nat_tests}
use Rattle.std.proofs.lemmas.Str.{encode_ascii}
use Rattle.std.proofs.Math.Seq.{take-add}
use lib.Utf8.{encode}
use Rattle.op_token.specs.declared.character.Character.{Character}
use Rattle.op_token.specs.declared.escape.Escape.{Escape}
use Rattle.op_token.specs.declared.class.Class.{Class}
use Rattle.op_token.specs.declared.class.Class.TheVariants.{Layout, Percent, Small, Capital, Digit, SingleQuote, DoubleQuote, Slash}
use Rattle.op_token.specs.declared.class.Class.TheVariants.{Dot, Symbol, Solo, Punctuation, Bad}
use Rattle.op_token.specs.declared.set.Set.{Set}
use Rattle.op_token.specs.declared.set.Set.TheVariants.{Word, Symbol as symbols, Decimal, Hexadecimal, Octal, Binary}
use Rattle.op_token.specs.declared.spelling.Spelling.{Spelling}
use Rattle.op_token.specs.declared.spelling.Spelling.TheVariants.{Gap, Whole, Fault}
use Rattle.op_token.specs.declared.token.TokenFault.{TokenFault}
use Rattle.op_token.specs.declared.token.TokenKind.{TokenKind}
use Rattle.op_token.specs.declared.token.TokenKind.TheVariants.{Name, QuotedName, Variable, Integer, Text, OpenRound, CloseRound}
use Rattle.op_token.specs.declared.token.TokenKind.TheVariants.{OpenSquare, CloseSquare, OpenCurly, CloseCurly, Comma, Bar, End}
use Rattle.op_token.specs.declared.token.TokenFaultKind.TheVariants.{BadChar, OpenQuote, BadEscape, BadNumber, NumberRange}
use Rattle.op_token.specs.Set.{run, has, begins_with}
use Rattle.op_token.specs.Character.{is_scalar, char_at}
use Rattle.op_token.specs.Class.{class_of}
use Rattle.op_token.specs.Spelling.{fault, simple_escape, number_of, numbered, escape_at, quoted_from, ranged, least_magnitude, based}
use Rattle.op_token.specs.Spelling.{is_fraction, decimal, escaped_code_at, code_at, number_at, ends_clause, dot_at, block_from, spelled}
use Rattle.op_token.specs.Spelling.{begins}
use Rattle.op_token.specs.Spellings.{small_letters, variable_starts, alphanumeric, symbol_characters, layout_characters, is_one_of}
use Rattle.op_token.specs.Spellings.{are_of, opens_comment, is_word_from, IsName, word_name, symbol_name, cut_name, semicolon_name}
use Rattle.op_token.specs.Spellings.{IsNumber, decimal_digits, hexadecimal_digits, signs, sign_value, IsEscape, sign, newline}
use Rattle.op_token.specs.Spellings.{octal_code, hexadecimal_code, IsQuotedCharacter, plain, doubled, escaped, AreQuoted}
use Rattle.op_token.specs.Spellings.{no_characters, one_more, IsQuoted}
use Rattle.op_token.specs.Spellings.{IsCharacterCode, character, quote_twice, escape, IsInRange, within, least, binary, octal}
use Rattle.op_token.specs.Spellings.{hexadecimal, IsInteger, number, code, IsToken, follows_end, IsBefore}
use Rattle.op_token.specs.Spellings as spellings
use Rattle.op_token.proofs.SpellingEnds.{if_either, map_either, and_left, and_right, begins_length, escape_within, char_within}
use Rattle.op_token.proofs.Utf8Characters.{scalar_is, char_read}
use Rattle.op_token.proofs.CommentsAndQuotes.{and_false}
use Rattle.op_token.specs.Tokens.{text_from}
use Rattle.op_token.proofs.Utf8QuotedTexts.{quoted_inside, text_stop, text_doubled, text_escaped, text_plain}
use Rattle.op_token.proofs.LongestTokens.{line_never, block_never, quoted_kind}
use Rattle.op_token.proofs.CharacterClasses.{same_on, all_below, below, characters, set_has, punctuation_fits, fits}
use Rattle.op_token.proofs.CharacterClasses.{class_fits, are_set, are_within}
use Rattle.op_token.proofs.CharacterClasses.{values_same}

whole_kind : {a b : TokenKind} {i j : ℕ} → Whole a i ≡ Whole b j → a ≡ b
whole_kind h = cc

whole_end : {a b : TokenKind} {i j : ℕ} → Whole a i ≡ Whole b j → i ≡ j
whole_end h = cc

fault_not : {f : TokenFault} {kind : TokenKind} {e : ℕ} → Fault f ≡ Whole kind e → ⊥
fault_not h = cc

gap_not : {i : ℕ} {kind : TokenKind} {e : ℕ} → Gap i ≡ Whole kind e → ⊥
gap_not h = cc

none_not : {x : Escape} → None ≡ Some x → ⊥
none_not h = cc

some_same : {x y : Escape} → Some x ≡ Some y → x ≡ y
some_same h = cc

pub first_same : {x y : ℕ} {xs ys : List ℕ} → x ∷ xs ≡ y ∷ ys → x ≡ y
first_same h = cc

pub both : (a b : Bool) → (a ≡ true → b ≡ true) → (b ≡ true → a ≡ true) → a ≡ b
both true b f g = sym (f refl)
both false true f g = g refl
both false false f g = refl

pub front_is : (c : ℕ) (s : List ℕ) → begins_with c s ≡ true → s ≡ c ∷ drop 1 s
front_is c [] h = cc
front_is c (b ∷ s) h = ap (λ i. i ∷ s) (eqb-true b c h)

positive : (n : ℕ) → (n == 0) ≡ false → 0 < n
positive zero h = cc
positive (suc n) h = omega arith

-- a byte is another than one that a test refuses
pub not_byte : (xs : List ℕ) (b n : ℕ) → is_one_of xs n ≡ false → is_one_of xs b ≡ true → b ≡ n → ⊥
not_byte xs b n f h q =
    let z : is_one_of xs n ≡ true = subst (λ i. is_one_of xs i ≡ true) q h in
    let c : true ≡ false = sym z ∙ f in
    cc

-- a full stop ends a clause
pub ends_same : (s : List ℕ) → ends_clause s ≡ follows_end s
ends_same [] = refl
ends_same (b ∷ s) = both (ends_clause (b ∷ s)) (is_one_of layout_characters b || b == 37) (go (class_of b) (class_fits b)) back
  where
    go : (k : Class) → fits k b ≡ true → (elim k [ Layout ↦ true | Percent ↦ true | k ↦ false ]) ≡ true
        → (is_one_of layout_characters b || b == 37) ≡ true
    go Layout f h = ap (λ t. t || b == 37) f
    go Percent f h = let q = eqb-true b 37 f in subst (λ i. (is_one_of layout_characters i || i == 37) ≡ true) (sym q) refl
    go Small f h = cc
    go Capital f h = cc
    go Digit f h = cc
    go SingleQuote f h = cc
    go DoubleQuote f h = cc
    go Slash f h = cc
    go Dot f h = cc
    go Symbol f h = cc
    go Solo f h = cc
    go (Punctuation kind) f h = cc
    go Bad f h = cc

    is_class : (k : Class) → class_of b ≡ k → (elim k [ Layout ↦ true | Percent ↦ true | k ↦ false ]) ≡ true → ends_clause (b ∷ s) ≡ true
    is_class k e h = subst (λ k. (elim k [ Layout ↦ true | Percent ↦ true | k ↦ false ]) ≡ true) (sym e) h

    by_test : (t : Bool) → is_one_of layout_characters b ≡ t → (t || b == 37) ≡ true → ends_clause (b ∷ s) ≡ true
    by_test true q h = is_class Layout (same_on class_of (λ b. Layout) layout_characters b refl q) refl
    by_test false q h = is_class Percent (ap class_of (eqb-true b 37 h)) refl

    back : (is_one_of layout_characters b || b == 37) ≡ true → ends_clause (b ∷ s) ≡ true
    back h = by_test (is_one_of layout_characters b) refl h

-- what a token is, of its bytes and those behind it
abbrev pub Stands : Bool → TokenKind → List ℕ → List ℕ → Type 0
Stands minus kind s behind = IsToken minus kind s × IsBefore kind s behind

cut_stands : (minus : Bool) (k kind : TokenKind) (at e b n : ℕ) (s : List ℕ) → Whole k (at + 1 + n) ≡ Whole kind e
    → Stands minus k (b ∷ take n s) (drop n s) → Stands minus kind (take (e - at) (b ∷ s)) (drop (e - at) (b ∷ s))
cut_stands minus k kind at e b n s h w =
    let q : at + 1 + n ≡ e = whole_end h in
    let m : suc n ≡ e - at = omega arith in
    let v : Stands minus k (take (e - at) (b ∷ s)) (drop (e - at) (b ∷ s)) = subst
    (λ i. Stands minus k (take i (b ∷ s)) (drop i (b ∷ s))) m w in
    subst (λ k. Stands minus k (take (e - at) (b ∷ s)) (drop (e - at) (b ∷ s))) (whole_kind h) v

one_stands : (minus : Bool) (k kind : TokenKind) (at e b : ℕ) (s : List ℕ) → Whole k (at + 1) ≡ Whole kind e
    → Stands minus k (b ∷ []) s → Stands minus kind (take (e - at) (b ∷ s)) (drop (e - at) (b ∷ s))
one_stands minus k kind at e b s h w = let m : at + 1 + 0 ≡ at + 1 = omega arith in
    cut_stands minus k kind at e b 0 s (ap (λ i. Whole k i) m ∙ h) w

-- names and variables
word_token : (first : List ℕ) (b : ℕ) (s : List ℕ) → is_one_of first b ≡ true → is_word_from first (b ∷ take (run Word s) s) ≡ true
word_token first b s h = ap (λ t. t && are_of alphanumeric (take (run Word s) s)) h ∙ are_set Word s

symbol_token : (b : ℕ) (s : List ℕ) → is_one_of symbol_characters b ≡ true → opens_comment (b ∷ take (run symbols s) s) ≡ false
    → IsName (b ∷ take (run symbols s) s)
symbol_token b s h n =
    symbol_name (ap (λ t. (t && are_of symbol_characters (take (run symbols s) s)) && not (opens_comment (b ∷ take (run symbols s) s))) h
    ∙ ap (λ t. t && not (opens_comment (b ∷ take (run symbols s) s))) (are_set symbols s)
    ∙ ap not n)

no_slash : (b : ℕ) (t : List ℕ) → (b == 47) ≡ false → opens_comment (b ∷ t) ≡ false
no_slash b [] h = refl
no_slash b (c ∷ t) h = ap (λ u. u && c == 42) h

slash_alone : (b n : ℕ) (s : List ℕ) → begins_with 42 s ≡ false → opens_comment (b ∷ take n s) ≡ false
slash_alone b zero s h = refl
slash_alone b (suc n) [] h = refl
slash_alone b (suc n) (c ∷ s) h = and_false (b == 47) (c == 42) h

no_dot : (b : ℕ) (t behind : List ℕ) → (b ≡ 46 → ⊥) → IsBefore Name (b ∷ t) behind
no_dot b t behind n = λ e. let q : b ∷ t ≡ 46 ∷ [] = e in absurd (n (first_same q))

symbol_stands : (minus : Bool) (b : ℕ) (s : List ℕ) → fits Symbol b ≡ true
    → Stands minus Name (b ∷ take (run symbols s) s) (drop (run symbols s) s)
symbol_stands minus b s f =
    let one = and_left (is_one_of symbol_characters b) (not (b == 46) && not (b == 47)) f in
    let two = and_right (is_one_of symbol_characters b) (not (b == 46) && not (b == 47)) f in (
      symbol_token b s one (no_slash b (take (run symbols s) s) (not_is (b == 47) (and_right (not (b == 46)) (not (b == 47)) two))),
      no_dot b (take (run symbols s) s) (drop (run symbols s) s)
          (λ q. is_not b 46 (not_is (b == 46) (and_left (not (b == 46)) (not (b == 47)) two)) q),
    )
  where
    not_is : (t : Bool) → not t ≡ true → t ≡ false
    not_is true h = cc
    not_is false h = refl

    is_not : (b n : ℕ) → (b == n) ≡ false → b ≡ n → ⊥
    is_not b n h q = let z : true ≡ false = sym (eq-eqb b n q) ∙ h in cc

-- the full stop
dot_before : (b : ℕ) (s : List ℕ) → (run symbols s == 0 && ends_clause s) ≡ false → take (run symbols s) s ≡ []
    → follows_end (drop (run symbols s) s) ≡ false
dot_before b [] t q = cc
dot_before b (c ∷ s) t q = go (has symbols c) t q
  where
    go : (u : Bool) → (cond u (suc (run symbols s)) 0 == 0 && ends_clause (c ∷ s)) ≡ false
        → take (cond u (suc (run symbols s)) 0) (c ∷ s) ≡ [] → follows_end (drop (cond u (suc (run symbols s)) 0) (c ∷ s)) ≡ false
    go true t q = cc
    go false t q = sym (ends_same (c ∷ s)) ∙ t

pub rest_same : {x y : ℕ} {xs ys : List ℕ} → x ∷ xs ≡ y ∷ ys → xs ≡ ys
rest_same h = cc

dot_stands : (at : ℕ) (minus : Bool) (b : ℕ) (s : List ℕ) (kind : TokenKind) (e : ℕ) → (b == 46) ≡ true
    → dot_at at s ≡ Whole kind e → Stands minus kind (take (e - at) (b ∷ s)) (drop (e - at) (b ∷ s))
dot_stands at minus b s kind e f =
    let q : b ≡ 46 = eqb-true b 46 f in
    let r = run symbols s in
    if_either (λ x. x ≡ Whole kind e → Stands minus kind (take (e - at) (b ∷ s)) (drop (e - at) (b ∷ s)))
    (r == 0 && ends_clause s) (Whole End (at + 1)) (Whole Name (at + 1 + r))
    (λ t h. one_stands minus End kind at e b s h (ap (λ i. i ∷ []) q, sym (ends_same s) ∙ and_right (r == 0) (ends_clause s) t))
    (λ t h. cut_stands minus Name kind at e b r s h (
      symbol_token b s (subst (λ i. is_one_of symbol_characters i ≡ true) (sym q) refl)
          (no_slash b (take r s) (subst (λ i. (i == 47) ≡ false) (sym q) refl)),
      (λ z. let y : b ∷ take r s ≡ 46 ∷ [] = z in dot_before b s t (rest_same y)),
    ))

-- escapes
abbrev pub the_escape : Option ℕ → ℕ → Escape
the_escape c l = record { code = c; len = l }

sign_test : Option ℕ → ℕ → Bool
sign_test None b = true
sign_test (Some c) b = is_one_of signs b && c == sign_value b

sign_checked : all_below (λ b. sign_test (simple_escape b) b) 128 ≡ true
unfolding sign_test
sign_checked = refl

pub simple_low : (b c : ℕ) → simple_escape b ≡ Some c → b < 128
simple_low b c h = elim (cases_lt b 128) [ inl l ↦ l | inr l ↦ (let z = simple_none b l in absurd (no z h)) ]
  where
    no : {o : Option ℕ} → o ≡ None → o ≡ Some c → ⊥
    no e h = cc

    simple_none : (b : ℕ) → 128 ≤ b → simple_escape b ≡ None
    simple_none b l = grind (arith, nat_tests)

simple_is : (b c : ℕ) → simple_escape b ≡ Some c → (is_one_of signs b ≡ true) × (c ≡ sign_value b)
unfolding sign_test
simple_is b c h =
    let t : sign_test (simple_escape b) b ≡ true = below (λ b. sign_test (simple_escape b) b) 128 b sign_checked (simple_low b c h) in
    let u : (is_one_of signs b && c == sign_value b) ≡ true = subst (λ o. sign_test o b ≡ true) h t in
    (and_left (is_one_of signs b) (c == sign_value b) u, eqb-true c (sign_value b) (and_right (is_one_of signs b) (c == sign_value b) u))

pub run_taken : (set : Set) (s : List ℕ) → 0 < run set s → 0 < length (take (run set s) s)
run_taken set [] h = absurd (omega arith)
run_taken set (b ∷ s) h = go (has set b) h
  where
    go : (t : Bool) → 0 < cond t (suc (run set s)) 0 → 0 < length (take (cond t (suc (run set s)) 0) (b ∷ s))
    go true l = omega arith
    go false l = absurd (omega arith)

abbrev pub AreHexadecimal : Set → Type 0
AreHexadecimal set = map (is_one_of hexadecimal_digits) (characters set) ≡ map (λ b. true) (characters set)

pub run_number : (base : ℕ) (set : Set) (s : List ℕ) → AreHexadecimal set → 0 < run set s
    → IsNumber base (characters set) (take (run set s) s) (number_of base (take (run set s) s))
run_number base set s c l =
    record {
      some = run_taken set s l;
      each = are_set set s;
      value = values_same base (take (run set s) s)
          (are_within (characters set) hexadecimal_digits (take (run set s) s) c (are_set set s));
    }

abbrev pub Numbered : ℕ → Set → ℕ → List ℕ → Escape → Type 0
Numbered base set lead s x =
    IsNumber base (characters set) (take (run set s) s) (number_of base (take (run set s) s))
    × IsScalar (number_of base (take (run set s) s))
    × (the_escape (Some (number_of base (take (run set s) s))) (lead + run set s + 1) ≡ x)
    × (take (run set s + 1) s ≡ take (run set s) s ++ 92 ∷ [])

numbered_sound : (base : ℕ) (set : Set) (lead : ℕ) (s : List ℕ) (x : Escape) → AreHexadecimal set
    → numbered base set lead s ≡ Some x → Numbered base set lead s x
numbered_sound base set lead s x c =
    let r = run set s in
    let n = number_of base (take r s) in
    if_either (λ o. o ≡ Some x → Numbered base set lead s x) (nat_lt 0 r && begins_with 92 (drop r s) && is_scalar n)
    (Some (the_escape (Some n) (lead + r + 1))) None
    (λ t h.
    let t2 = and_left (nat_lt 0 r && begins_with 92 (drop r s)) (is_scalar n) t in (
      run_number base set s c (ltb-true 0 r (and_left (nat_lt 0 r) (begins_with 92 (drop r s)) t2)),
      sym (scalar_is n) ∙ and_right (nat_lt 0 r && begins_with 92 (drop r s)) (is_scalar n) t,
      some_same h,
      take-add r 1 s ∙ ap (λ u. take r s ++ take 1 u) (front_is 92 (drop r s) (and_right (nat_lt 0 r) (begins_with 92 (drop r s)) t2)),
    ))
    (λ t h. absurd (none_not h))

pub escape_sound : (s : List ℕ) (x : Escape) → escape_at s ≡ Some x → IsEscape (take x.len s) x.code
escape_sound [] x h = absurd (none_not h)
escape_sound (b ∷ s) x h =
    let P : Option Escape → Type 0 = λ o. o ≡ Some x → IsEscape (take x.len (b ∷ s)) x.code in
    let on : (y : Escape) → y ≡ x → IsEscape (take y.len (b ∷ s)) y.code
    → IsEscape (take x.len (b ∷ s)) x.code = λ y q v. subst (λ (y : Escape). IsEscape (take y.len (b ∷ s)) y.code) q v in
    map_either P (λ c. Some (the_escape (Some c) 1)) (simple_escape b) _
    (λ c g h. on (the_escape (Some c) 1) (some_same h) (sign b (simple_is b c g).0 refl (ap (λ v. Some v) (simple_is b c g).1)))
    (λ g. if_either P (b == 10) (Some (the_escape None 1)) _
    (λ t h. on (the_escape None 1) (some_same h) (newline (ap (λ i. i ∷ []) (eqb-true b 10 t)) refl))
    (λ t. if_either P (b == 120) (numbered 16 Hexadecimal 1 s) _
    (λ u h.
    let w = numbered_sound 16 Hexadecimal 1 s x refl h in
    let r = run Hexadecimal s in
    let m : 1 + r + 1 ≡ suc (r + 1) = omega arith in
    on (the_escape (Some (number_of 16 (take r s))) (1 + r + 1)) w.2
    (hexadecimal_code (take r s) (number_of 16 (take r s)) w.0 w.1
    (ap (λ n. take n (b ∷ s)) m ∙ ap (λ i. i ∷ take (r + 1) s) (eqb-true b 120 u) ∙ ap (λ t. 120 ∷ t) w.3) refl))
    (λ u. if_either P (has Octal b) (numbered 8 Octal 0 (b ∷ s)) None
    (λ v h.
    let w = numbered_sound 8 Octal 0 (b ∷ s) x refl h in
    let r = run Octal (b ∷ s) in
    let m : 0 + r + 1 ≡ r + 1 = omega arith in
    on (the_escape (Some (number_of 8 (take r (b ∷ s)))) (0 + r + 1)) w.2
    (octal_code (take r (b ∷ s)) (number_of 8 (take r (b ∷ s))) w.0 w.1 (ap (λ n. take n (b ∷ s)) m ∙ w.3) refl))
    (λ v h. absurd (none_not h))))) h

-- quoted text
pub other : (b q : ℕ) (t : List ℕ) (c : ℕ) → q < 128 → (b == q) ≡ false → encode c ≡ b ∷ t → c ≡ q → ⊥
other b q t c l h e p =
    let f : q ∷ [] ≡ b ∷ t = sym (encode_ascii q l) ∙ ap encode (sym p) ∙ e in
    let z : true ≡ false = sym (eq-eqb b q (sym (first_same f))) ∙ h in
    cc

-- a character that is none of the three that don't stand for themselves
pub plain_is : (q c : ℕ) → (c ≡ q → ⊥) → (c ≡ 92 → ⊥) → (c ≡ 10 → ⊥) → is_one_of (q ∷ codes "\\\n") c ≡ false
plain_is q c nq n92 n10 =
    or_from (c == q) (c == 92 || (c == 10 || false)) (ne_eqb c q nq)
    (or_from (c == 92) (c == 10 || false) (ne_eqb c 92 n92) (or_from (c == 10) false (ne_eqb c 10 n10) refl))

-- the quoted text that stands here to its closing quote, which ends at a place, and what it stands for
abbrev pub Inside : ℕ → ℕ → ℕ → List ℕ → Type 0
Inside q at e s = (inside : List ℕ) × (n : ℕ) × AreQuoted q inside (text_from q 0 s) × (at + n ≡ e) × (take n s ≡ inside ++ q ∷ [])

inside_more : (q at e b j : ℕ) (one s : List ℕ) → IsQuotedCharacter q (b ∷ take j s) one
    → text_from q 0 (b ∷ s) ≡ one ++ text_from q 0 (drop j s) → Inside q (suc at + j) e (drop j s) → Inside q at e (b ∷ s)
inside_more q at e b j one s c t w =
    let p : suc at + j + w.1 ≡ e = w.3 in
    let m : suc j + w.1 ≡ suc (j + w.1) = omega arith in (
      (b ∷ take j s) ++ w.0,
      suc j + w.1,
      subst (AreQuoted q ((b ∷ take j s) ++ w.0)) (sym t) (one_more (b ∷ take j s) one w.0 (text_from q 0 (drop j s)) c w.2),
      omega arith,
      ap (λ i. take i (b ∷ s)) m ∙ ap (λ t. b ∷ t) (take-add j w.1 s ∙ ap (λ t. take j s ++ t) w.4)
          ∙ sym (append_assoc (b ∷ take j s) w.0 (q ∷ [])),
    )

quoted_sound : (f : ℕ) (k : TokenKind) (q start at : ℕ) (s : List ℕ) (kind : TokenKind) (e : ℕ) → length s ≤ f → q < 128
    → quoted_from k q start at 0 s ≡ Whole kind e → Inside q at e s
quoted_sound f k q start at [] kind e l low h = absurd (fault_not h)
quoted_sound zero k q start at (b ∷ s) kind e l low h = absurd (omega arith)
quoted_sound (suc f) k q start at (b ∷ s) kind e l low h =
    let P : Spelling → Type 0 = λ x. x ≡ Whole kind e → Inside q at e (b ∷ s) in
    let on : (j : ℕ) (one : List ℕ) → j ≤ length s → IsQuotedCharacter q (b ∷ take j s) one
    → text_from q 0 (b ∷ s) ≡ one ++ text_from q 0 (drop j s) → P (quoted_from k q start (suc at) j s) =
    λ j one m c t g. inside_more q at e b j one s c t (quoted_sound f k q start (suc at + j) (drop j s) kind e
    (omega (arith, length-drop j s)) low (sym (quoted_inside k q start (suc at) j s m) ∙ g)) in
    if_either P (b == 10) (fault start OpenQuote) _ (λ t g. absurd (fault_not g))
    (λ t. if_either P (b == q) _ _
    (λ u. if_either P (begins_with q s) _ (Whole k (suc at))
    (λ v. on 1 (q ∷ []) (begins_length q s v)
    (doubled (ap (λ i. i ∷ take 1 s) (eqb-true b q u) ∙ ap (λ t. q ∷ take 1 t) (front_is q s v)) refl) (text_doubled q b s u v))
    (λ v g. let p : suc at ≡ e = whole_end g in let w : at + 1 ≡ e = omega arith in
    ([], 1, subst (AreQuoted q []) (sym (text_stop q b s u v)) no_characters, w, ap (λ i. i ∷ []) (eqb-true b q u))))
    (λ u. if_either P (b == 92) _ _
    (λ v. map_either P (λ (x : Escape). quoted_from k q start (suc at) x.len s) (escape_at s) (fault at BadEscape)
    (λ x g. on x.len (option_map_or encode x.code []) (escape_within s x g) (escaped (take x.len s) x.code (escape_sound s x g)
    (ap (λ i. i ∷ take x.len s) (eqb-true b 92 v)) refl) (text_escaped q b s x u v g))
    (λ g r. absurd (fault_not r)))
    (λ v. map_either P (λ (c : Character). quoted_from k q start (suc at) c.more s) (char_at b s) (fault at BadChar)
    (λ c g. let r = char_read b s c g in on c.more (b ∷ take c.more s) (char_within b s c g)
    (plain c.code r.0 (plain_is q c.code (other b q (take c.more s) c.code low u r.1)
    (other b 92 (take c.more s) c.code (omega arith) v r.1) (other b 10 (take c.more s) c.code (omega arith) t r.1))
    (sym r.1) refl) (text_plain q b s c low u v g))
    (λ g r. absurd (fault_not r))))) h

pub quoted_token : (k : TokenKind) (q at b : ℕ) (s : List ℕ) (kind : TokenKind) (e : ℕ) → q < 128 → (b == q) ≡ true
    → quoted_from k q at (at + 1) 0 s ≡ Whole kind e → IsQuoted q (take (e - at) (b ∷ s)) (text_from q 0 s)
quoted_token k q at b s kind e low f h =
    let w = quoted_sound (length s) k q at (at + 1) s kind e (omega arith) low h in
    let p : at + 1 + w.1 ≡ e = w.3 in
    let m : e - at ≡ suc w.1 = omega arith in
    record {
      inside = w.0;
      are = w.2;
      whole = ap (λ i. take i (b ∷ s)) m ∙ ap (λ i. i ∷ take w.1 s) (eqb-true b q f)
          ∙ ap (λ t. q ∷ t) w.4;
    }

-- integers
abbrev pub Ranged : Bool → ℕ → ℕ → TokenKind → ℕ → Type 0
Ranged minus v end kind e = (Integer v ≡ kind) × (end ≡ e) × IsInRange minus v

pub in_range : (minus : Bool) (v : ℕ) → (nat_lt v least_magnitude || (minus && v == least_magnitude)) ≡ true → IsInRange minus v
in_range minus v t = go (nat_lt v least_magnitude) refl t
  where
    go : (u : Bool) → nat_lt v least_magnitude ≡ u → (u || (minus && v == least_magnitude)) ≡ true → IsInRange minus v
    go true q k = let l : v < 9223372036854775808 = ltb-true v least_magnitude q in within (omega arith)
    go false q k = least (and_left minus (v == least_magnitude) k) (eqb-true v least_magnitude (and_right minus (v == least_magnitude) k))

ranged_sound : (at : ℕ) (minus : Bool) (v end : ℕ) (kind : TokenKind) (e : ℕ) → ranged at minus v end ≡ Whole kind e
    → Ranged minus v end kind e
ranged_sound at minus v end kind e =
    if_either (λ x. x ≡ Whole kind e → Ranged minus v end kind e) (nat_lt v least_magnitude || (minus && v == least_magnitude))
    (Whole (Integer v) end) (fault at NumberRange)
    (λ t h. (whole_kind h, whole_end h, in_range minus v t)) (λ t h. absurd (fault_not h))

abbrev pub Counted : Bool → TokenKind → List ℕ → Type 0
Counted minus kind t = (n : ℕ) × (Integer n ≡ kind) × IsInteger minus t n

decimal_sound : (at : ℕ) (minus : Bool) (b : ℕ) (s : List ℕ) (kind : TokenKind) (e : ℕ) → has Decimal b ≡ true
    → decimal at minus (b ∷ s) ≡ Whole kind e → Counted minus kind (take (e - at) (b ∷ s))
decimal_sound at minus b s kind e f =
    let r = run Decimal (b ∷ s) in
    let v = number_of 10 (take r (b ∷ s)) in
    let one : r ≡ suc (run Decimal s) = rw f refl in
    if_either (λ x. x ≡ Whole kind e → Counted minus kind (take (e - at) (b ∷ s))) (is_fraction (drop r (b ∷ s)))
    (fault at BadNumber) (ranged at minus v (at + r))
    (λ t h. absurd (fault_not h))
    (λ t h.
    let w = ranged_sound at minus v (at + r) kind e h in
    let p : at + r ≡ e = w.1 in
    let m : r ≡ e - at = omega arith in
    let d : IsNumber 10 decimal_digits (take r (b ∷ s)) v = run_number 10 Decimal (b ∷ s) refl (omega arith) in
    (v, w.0, subst (λ i. IsInteger minus (take i (b ∷ s)) v) m (number (spellings.decimal d) w.2)))

abbrev pub Based : ℕ → Set → ℕ → Bool → List ℕ → TokenKind → ℕ → Type 0
Based base set at minus s kind e =
    (n : ℕ) × (Integer n ≡ kind) × (at + 2 + run set s ≡ e) × IsNumber base (characters set) (take (run set s) s) n × IsInRange minus n

based_sound : (base : ℕ) (set : Set) (at : ℕ) (minus : Bool) (s : List ℕ) (kind : TokenKind) (e : ℕ) → AreHexadecimal set
    → based base set at minus s ≡ Whole kind e → Based base set at minus s kind e
based_sound base set at minus s kind e c =
    let r = run set s in
    let v = number_of base (take r s) in
    if_either (λ x. x ≡ Whole kind e → Based base set at minus s kind e) (r == 0) (fault at BadNumber) (ranged at minus v (at + 2 + r))
    (λ t h. absurd (fault_not h))
    (λ t h. let w = ranged_sound at minus v (at + 2 + r) kind e h in (v, w.0, w.1, run_number base set s c (positive r t), w.2))

not_newline : (k : ℕ) (s : List ℕ) → begins_with 10 s ≡ false → take k s ≡ 10 ∷ [] → ⊥
not_newline zero s h e = cc
not_newline (suc k) [] h e = cc
not_newline (suc k) (c ∷ s) h e = let z : true ≡ false = sym (eq-eqb c 10 (first_same e)) ∙ h in cc

code_some : (t : List ℕ) (v : Option ℕ) → IsEscape t v → (t ≡ 10 ∷ [] → ⊥) → v ≡ Some (unwrap_or v 0)
code_some t v (sign b h e q) n = q ∙ ap (λ o. Some (unwrap_or o 0)) (sym q)
code_some t v (newline e q) n = absurd (n e)
code_some t v (octal_code ds m h g e q) n = q ∙ ap (λ o. Some (unwrap_or o 0)) (sym q)
code_some t v (hexadecimal_code ds m h g e q) n = q ∙ ap (λ o. Some (unwrap_or o 0)) (sym q)

code_escape : (b : ℕ) (s : List ℕ) (x : Escape) → (b == 92) ≡ true → begins_with 10 s ≡ false → escape_at s ≡ Some x
    → IsCharacterCode (b ∷ take x.len s) (unwrap_or x.code 0)
code_escape b s x t u g =
    let w : IsEscape (take x.len s) x.code = escape_sound s x g in
    let v : x.code ≡ Some (unwrap_or x.code 0) = code_some (take x.len s) x.code w (not_newline x.len s u) in
    escape (take x.len s) (subst (IsEscape (take x.len s)) v w) (ap (λ i. i ∷ take x.len s) (eqb-true b 92 t))

code_doubled : (b : ℕ) (s : List ℕ) → (b == 39) ≡ true → begins_with 39 s ≡ true → IsCharacterCode (b ∷ take 1 s) 39
code_doubled b s h g = quote_twice (ap (λ i. i ∷ take 1 s) (eqb-true b 39 h) ∙ ap (λ t. 39 ∷ take 1 t) (front_is 39 s g)) refl

pub code_plain : (b : ℕ) (s : List ℕ) (c : Character) → (b == 92) ≡ false → (b == 39) ≡ false → char_at b s ≡ Some c
    → IsCharacterCode (b ∷ take c.more s) c.code
code_plain b s c t u g =
    let r = char_read b s c g in
    character r.0 (other b 39 (take c.more s) c.code (omega arith) u r.1)
    (other b 92 (take c.more s) c.code (omega arith) t r.1) (sym r.1)

abbrev pub Coded : ℕ → List ℕ → TokenKind → ℕ → Type 0
Coded at s kind e = (n : ℕ) × (k : ℕ) × (Integer n ≡ kind) × (at + 2 + k ≡ e) × IsCharacterCode (take k s) n

code_sound : (at : ℕ) (s : List ℕ) (kind : TokenKind) (e : ℕ) → code_at at s ≡ Whole kind e → Coded at s kind e
code_sound at [] kind e h = absurd (fault_not h)
code_sound at (b ∷ s) kind e h =
    let P : Spelling → Type 0 = λ x. x ≡ Whole kind e → Coded at (b ∷ s) kind e in
    if_either P (b == 92) (escaped_code_at at s) _
    (λ t. if_either P (begins_with 10 s) (fault at BadNumber) _ (λ u g. absurd (fault_not g))
    (λ u. map_either P (λ (x : Escape). Whole (Integer (unwrap_or x.code 0)) (at + 3 + x.len)) (escape_at s) (fault (at + 2) BadEscape)
    (λ x v g. let p : at + 3 + x.len ≡ e = whole_end g in
    (unwrap_or x.code 0, suc x.len, whole_kind g, omega arith, code_escape b s x t u v))
    (λ v g. absurd (fault_not g))))
    (λ t. if_either P (b == 39) _ _
    (λ u. if_either P (begins_with 39 s) (Whole (Integer 39) (at + 4)) (fault at BadNumber)
    (λ v g. let p : at + 4 ≡ e = whole_end g in (39, 2, whole_kind g, omega arith, code_doubled b s u v))
    (λ v g. absurd (fault_not g)))
    (λ u. map_either P (λ (c : Character). Whole (Integer c.code) (at + 3 + c.more)) (char_at b s) (fault at BadNumber)
    (λ c v g. let p : at + 3 + c.more ≡ e = whole_end g in (c.code, suc c.more, whole_kind g, omega arith, code_plain b s c t u v))
    (λ v g. absurd (fault_not g)))) h

take_two : (at e b c k : ℕ) (s : List ℕ) → (b == 48 && begins_with c s) ≡ true → at + 2 + k ≡ e
    → take (e - at) (b ∷ s) ≡ 48 ∷ c ∷ take k (drop 1 s)
take_two at e b c k s h q =
    let m : e - at ≡ suc (suc k) = omega arith in
    ap (λ i. take i (b ∷ s)) m ∙ ap (λ i. i ∷ take (suc k) s) (eqb-true b 48 (and_left (b == 48) (begins_with c s) h))
    ∙ ap (λ t. 48 ∷ take (suc k) t) (front_is c s (and_right (b == 48) (begins_with c s) h))

number_sound : (at : ℕ) (minus : Bool) (b : ℕ) (s : List ℕ) (kind : TokenKind) (e : ℕ) → has Decimal b ≡ true
    → number_at at minus (b ∷ s) ≡ Whole kind e → Counted minus kind (take (e - at) (b ∷ s))
number_sound at minus b s kind e f =
    let P : Spelling → Type 0 = λ x. x ≡ Whole kind e → Counted minus kind (take (e - at) (b ∷ s)) in
    let made : (c k n : ℕ) → (b == 48 && begins_with c s) ≡ true → at + 2 + k ≡ e
    → IsInteger minus (48 ∷ c ∷ take k (drop 1 s)) n → IsInteger minus (take (e - at) (b ∷ s)) n =
    λ c k n t q v. subst (λ u. IsInteger minus u n) (sym (take_two at e b c k s t q)) v in
    if_either P (b == 48 && begins_with 39 s) (code_at at (drop 1 s)) _
    (λ t h. let w = code_sound at (drop 1 s) kind e h in (w.0, w.2, made 39 w.1 w.0 t w.3 (code (take w.1 (drop 1 s)) w.4 refl)))
    (λ t. if_either P (b == 48 && begins_with 120 s) (based 16 Hexadecimal at minus (drop 1 s)) _
    (λ u h. let w = based_sound 16 Hexadecimal at minus (drop 1 s) kind e refl h in (
      w.0,
      w.1,
      made 120 (run Hexadecimal (drop 1 s)) w.0 u w.2
          (number (hexadecimal (take (run Hexadecimal (drop 1 s)) (drop 1 s)) w.3 refl) w.4),
    ))
    (λ u. if_either P (b == 48 && begins_with 111 s) (based 8 Octal at minus (drop 1 s)) _
    (λ v h. let w = based_sound 8 Octal at minus (drop 1 s) kind e refl h in
    (w.0, w.1, made 111 (run Octal (drop 1 s)) w.0 v w.2 (number (octal (take (run Octal (drop 1 s)) (drop 1 s)) w.3 refl) w.4)))
    (λ v. if_either P (b == 48 && begins_with 98 s) (based 2 Binary at minus (drop 1 s)) _
    (λ x h. let w = based_sound 2 Binary at minus (drop 1 s) kind e refl h in
    (w.0, w.1, made 98 (run Binary (drop 1 s)) w.0 x w.2 (number (binary (take (run Binary (drop 1 s)) (drop 1 s)) w.3 refl) w.4)))
    (λ x. decimal_sound at minus b s kind e f))))

-- what a byte of a class begins
never : false ≡ true → ⊥
never h = cc

punctuation_stands : (minus : Bool) (k : TokenKind) (b : ℕ) (behind : List ℕ) → punctuation_fits k b ≡ true → Stands minus k (b ∷ []) behind
punctuation_stands minus OpenRound b behind h = (ap (λ i. i ∷ []) (eqb-true b 40 h), tt)
punctuation_stands minus CloseRound b behind h = (ap (λ i. i ∷ []) (eqb-true b 41 h), tt)
punctuation_stands minus OpenSquare b behind h = (ap (λ i. i ∷ []) (eqb-true b 91 h), tt)
punctuation_stands minus CloseSquare b behind h = (ap (λ i. i ∷ []) (eqb-true b 93 h), tt)
punctuation_stands minus OpenCurly b behind h = (ap (λ i. i ∷ []) (eqb-true b 123 h), tt)
punctuation_stands minus CloseCurly b behind h = (ap (λ i. i ∷ []) (eqb-true b 125 h), tt)
punctuation_stands minus Comma b behind h = (ap (λ i. i ∷ []) (eqb-true b 44 h), tt)
punctuation_stands minus Bar b behind h = (ap (λ i. i ∷ []) (eqb-true b 124 h), tt)
punctuation_stands minus Name b behind h = absurd (never h)
punctuation_stands minus QuotedName b behind h = absurd (never h)
punctuation_stands minus Variable b behind h = absurd (never h)
punctuation_stands minus (Integer n) b behind h = absurd (never h)
punctuation_stands minus Text b behind h = absurd (never h)
punctuation_stands minus End b behind h = absurd (never h)

solo_stands : (minus : Bool) (b : ℕ) (behind : List ℕ) → (b == 33 || b == 59) ≡ true → Stands minus Name (b ∷ []) behind
solo_stands minus b behind h = go (b == 33) refl h
  where
    go : (t : Bool) → (b == 33) ≡ t → (t || b == 59) ≡ true → Stands minus Name (b ∷ []) behind
    go true q k = let e = eqb-true b 33 q in (cut_name (ap (λ i. i ∷ []) e), no_dot b [] behind (λ z. omega arith))
    go false q k = let e = eqb-true b 59 k in (semicolon_name (ap (λ i. i ∷ []) e), no_dot b [] behind (λ z. omega arith))

spelled_sound : (k : Class) (at : ℕ) (minus : Bool) (b : ℕ) (s : List ℕ) (kind : TokenKind) (e : ℕ) → fits k b ≡ true
    → spelled k at minus b s ≡ Whole kind e → Stands minus kind (take (e - at) (b ∷ s)) (drop (e - at) (b ∷ s))
spelled_sound Layout at minus b s kind e f h = absurd (gap_not h)
spelled_sound Percent at minus b s kind e f h = absurd (line_never (at + 1) 0 s kind e h)
spelled_sound Small at minus b s kind e f h =
    cut_stands minus Name kind at e b (run Word s) s h (
      word_name (word_token small_letters b s f),
      no_dot b
          (take (run Word s) s) (drop (run Word s) s) (not_byte small_letters b 46 refl f),
    )
spelled_sound Capital at minus b s kind e f h = cut_stands minus Variable kind at e b (run Word s) s h
    (word_token variable_starts b s f, tt)
spelled_sound Digit at minus b s kind e f h =
    let w = number_sound at minus b s kind e (set_has Decimal b f) h in
    subst (λ k. Stands minus k (take (e - at) (b ∷ s)) (drop (e - at) (b ∷ s))) w.1 (w.2, tt)
spelled_sound SingleQuote at minus b s kind e f h =
    subst (λ k. Stands minus k (take (e - at) (b ∷ s)) (drop (e - at) (b ∷ s)))
    (quoted_kind QuotedName 39 at (at + 1) 0 s kind e h)
    ((text_from 39 0 s, quoted_token QuotedName 39 at b s kind e (omega arith) f h), tt)
spelled_sound DoubleQuote at minus b s kind e f h =
    subst (λ k. Stands minus k (take (e - at) (b ∷ s)) (drop (e - at) (b ∷ s))) (quoted_kind Text 34 at (at + 1) 0 s kind e h)
    ((text_from 34 0 s, quoted_token Text 34 at b s kind e (omega arith) f h), tt)
spelled_sound Slash at minus b s kind e f h =
    if_either (λ x. x ≡ Whole kind e → Stands minus kind (take (e - at) (b ∷ s)) (drop (e - at) (b ∷ s))) (begins_with 42 s)
    (block_from at (at + 2) 0 (drop 1 s)) (Whole Name (at + 1 + run symbols s))
    (λ t g. absurd (block_never at (at + 2) 0 (drop 1 s) kind e g))
    (λ t g. let q = eqb-true b 47 f in cut_stands minus Name kind at e b (run symbols s) s g (
      symbol_token b s (subst (λ i. is_one_of symbol_characters i ≡ true) (sym q) refl)
          (slash_alone b (run symbols s) s t),
      no_dot b (take (run symbols s) s) (drop (run symbols s) s) (λ z. omega arith),
    )) h
spelled_sound Dot at minus b s kind e f h = dot_stands at minus b s kind e f h
spelled_sound Symbol at minus b s kind e f h = cut_stands minus Name kind at e b (run symbols s) s h (symbol_stands minus b s f)
spelled_sound Solo at minus b s kind e f h = one_stands minus Name kind at e b s h (solo_stands minus b s f)
spelled_sound (Punctuation k) at minus b s kind e f h = one_stands minus k kind at e b s h (punctuation_stands minus k b s f)
spelled_sound Bad at minus b s kind e f h = absurd (fault_not h)

pub begins_sound : (at : ℕ) (minus : Bool) (s : List ℕ) (kind : TokenKind) (e : ℕ) → begins at minus s ≡ Whole kind e
    → IsToken minus kind (take (e - at) s) × IsBefore kind (take (e - at) s) (drop (e - at) s)
begins_sound at minus [] kind e h = absurd (gap_not h)
begins_sound at minus (b ∷ s) kind e h = spelled_sound (class_of b) at minus b s kind e (class_fits b) h
