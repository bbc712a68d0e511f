-- How the texts of lexemes begin and end.
use Rattle.std.proofs.Common.{◌≡◌, ◌<◌, ◌^◌, ℕ, suc, pos, negsuc, Bool, true, false, not, ◌||◌, ◌==◌, List, [], ◌∷◌, ◌++◌, refl, sym, ◌∙◌}
use Rattle.std.proofs.Common.{ap, subst, arith}
use Rattle.std.specs.Prelude.{codes, nat_le, decimal}
use Rattle.std.specs.List.{list_all, flat_map}
use Rattle.std.specs.Str.{chars, IsUtf8}
use Rattle.std.proofs.lemmas.Bool.{leb-true, eqb-true}
use Rattle.std.proofs.lemmas.Slice.Eq.{bytes_eq-Decides}
use Rattle.op_logic.proofs.BoolCases.{by_test, if_true, if_false}
use Rattle.op_token.specs.declared.set.Set.TheVariants.{Decimal}
use Rattle.op_token.specs.Set.{has}
use Rattle.op_token.specs.Spelling.{is_fraction}
use Rattle.op_writer.specs.declared.style.Style.TheVariants.{Quoted}
use Rattle.op_base.specs.Characters.{is_symbol, is_word, is_small}
use Rattle.op_writer.specs.Spelling.{is_symbolic, is_word_name, is_other_token, is_unquoted, name_text, quoted, escaped}
use Rattle.op_writer.specs.Fragments.{text_of}
use Rattle.op_readback.specs.ReadBack.{IsSmall}
use Rattle.op_readback.proofs.Lexemes.{Lexeme, sign, name, prefix_name, number, lexeme_fragment}
use Rattle.op_readback.proofs.QuotedNames.{and-parts}
use Rattle.op_readback.proofs.NameSpellings.{or-either, by-symbol}
use Rattle.op_readback.proofs.IntegerSpellings.{IsDigits, decimal-digits, not-is, and-left, and-right}

-- the names that are written without quotes
pub by-name : {P : Type 0} (f : List ℕ) → (f ≡ codes "[]" → P) → (f ≡ codes "{}" → P) → (f ≡ codes "!" → P) → (f ≡ codes ";" → P)
    → (is_word_name f ≡ true → P)
    → (is_symbolic f ≡ true → is_other_token f ≡ false → P) → is_unquoted f ≡ true → P
by-name f p1 p2 p3 p4 p5 p6 h =
    or-either _ _ h
    (λ h. or-either _ _ h p5
    (λ h. or-either _ _ h
    (λ h. or-either _ _ h (λ h. or-either _ _ h (λ e. p1 ((bytes_eq-Decides f (codes "[]")).0 e))
    (λ e. p2 ((bytes_eq-Decides f (codes "{}")).0 e))) (λ e. p3 ((bytes_eq-Decides f (codes "!")).0 e)))
    (λ e. p4 ((bytes_eq-Decides f (codes ";")).0 e))))
    (λ h. let k = and-parts (is_symbolic f) (not (is_other_token f)) h in p6 k.0 (not-true (is_other_token f) k.1))
  where
    not-true : (b : Bool) → not b ≡ true → b ≡ false
    not-true true h = absurd (let e : false ≡ true = h in cc)
    not-true false h = refl

abbrev pub lexeme_text : Lexeme → List ℕ
lexeme_text m = text_of (lexeme_fragment m)

abbrev pub is_sign : ℕ → Bool
is_sign b = b == 32 || b == 40 || b == 41 || b == 91 || b == 93 || b == 123 || b == 125 || b == 44 || b == 124

pub by-sign : (P : ℕ → Type 0) → P 32 → P 40 → P 41 → P 91 → P 93 → P 123 → P 125 → P 44 → P 124 → (b : ℕ) → is_sign b ≡ true → P b
by-sign P p1 p2 p3 p4 p5 p6 p7 p8 p9 b h =
    let at : (n : ℕ) → P n → (b == n) ≡ true → P b = (λ n p e. subst P (sym (eqb-true b n e)) p) in
    or-either _ _ h (λ h. or-either _ _ h (λ h. or-either _ _ h
    (λ h. or-either _ _ h (λ h. or-either _ _ h (λ h. or-either _ _ h (λ h. or-either _ _ h (λ h. or-either _ _ h
    (at 32 p1) (at 40 p2)) (at 41 p3)) (at 91 p4)) (at 93 p5)) (at 123 p6)) (at 125 p7)) (at 44 p8)) (at 124 p9)

-- a lexeme that is written
abbrev pub IsLexeme : Lexeme → Type 0
IsLexeme (sign b) = is_sign b ≡ true
IsLexeme (name f) = IsUtf8 f
IsLexeme (prefix_name f) = (is_unquoted f ≡ true) × (is_symbolic f ≡ true) × (is_other_token f ≡ false)
IsLexeme (number i) = IsSmall i

-- whether a lexeme begins with a quote, and whether a quote behind it would be read with it
abbrev pub starts_quote : Lexeme → Bool
starts_quote (name f) = not (is_unquoted f)
starts_quote m = false

abbrev pub is_risky : Lexeme → Bool
is_risky (name f) = not (is_unquoted f)
is_risky (number i) = true
is_risky m = false

-- no quote stands where it would be read with what is before it
abbrev pub IsClean : Bool → List Lexeme → Type 0
IsClean q [] = Unit {0}
IsClean q (m ∷ ms) = (starts_quote m ≡ true → q ≡ false) × IsClean (is_risky m) ms

-- how a text begins
pub record Begun (m : Lexeme) (t : List ℕ) : Type 0 where
  pub first : ℕ
  pub more : List ℕ
  pub bytes : t ≡ first ∷ more
  pub quote : starts_quote m ≡ false → (first == 39) ≡ false
  pub fraction : (s : List ℕ) → is_fraction (first ∷ (more ++ s)) ≡ false

no-dot : (b : ℕ) (bs s : List ℕ) → (b == 46) ≡ false → is_fraction (b ∷ (bs ++ s)) ≡ false
no-dot b [] [] h = refl
no-dot b [] (c ∷ s) h = and-left (b == 46) (has Decimal c) h
no-dot b (c ∷ bs) s h = and-left (b == 46) (has Decimal c) h

symbol-digit : (b : ℕ) → is_symbol b ≡ true → has Decimal b ≡ false
symbol-digit = by-symbol (λ b. has Decimal b ≡ false) refl refl refl refl refl refl refl refl refl refl refl refl refl refl refl refl refl

symbol-dot : (b : ℕ) (bs s : List ℕ) → list_all is_symbol bs ≡ true → is_other_token (b ∷ bs) ≡ false → is_fraction (b ∷ (bs ++ s)) ≡ false
symbol-dot b [] s h o = by_test (b == 46)
    (λ e. absurd (let q : is_other_token (b ∷ []) ≡ is_other_token (46 ∷ []) = ap (λ (x : ℕ). is_other_token (x ∷ []))
    (eqb-true b 46 e) in let z : false ≡ true = sym o ∙ q in cc))
    (λ e. no-dot b [] s e)
symbol-dot b (c ∷ bs) s h o = and-right (b == 46) (has Decimal c) (symbol-digit c (and-parts (is_symbol c) (list_all is_symbol bs) h).0)

symbol-quote : (b : ℕ) → is_symbol b ≡ true → (b == 39) ≡ false
symbol-quote = by-symbol (λ b. (b == 39) ≡ false) refl refl refl refl refl refl refl refl refl refl refl refl refl refl refl refl refl

symbolic-begun : (m : Lexeme) (t : List ℕ) → is_symbolic t ≡ true → is_other_token t ≡ false → Begun m t
symbolic-begun m [] h o = absurd (let e : false ≡ true = h in cc)
symbolic-begun m (b ∷ bs) h o =
    let k = and-parts (is_symbol b) (list_all is_symbol bs) h in
    record { first = b; more = bs; bytes = refl; quote = λ _. symbol-quote b k.0; fraction = λ s. symbol-dot b bs s k.1 o }

word-begun : (m : Lexeme) (t : List ℕ) → is_word_name t ≡ true → Begun m t
word-begun m [] h = absurd (let e : false ≡ true = h in cc)
word-begun m (b ∷ bs) h =
    let k = and-parts (is_small b) (list_all is_word bs) h in
    let l = leb-true 97 b (and-parts (nat_le 97 b) (nat_le b 122) k.0).0 in
    record {
      first = b;
      more = bs;
      bytes = refl;
      quote = λ _. not-is b 39 (omega (arith, l));
      fraction = λ s. no-dot b bs s
          (not-is b 46 (omega (arith, l)));
    }

literal-begun : (m : Lexeme) (t : List ℕ) (b : ℕ) (bs : List ℕ) → t ≡ b ∷ bs → (b == 39) ≡ false → (b == 46) ≡ false → Begun m t
literal-begun m t b bs e q d = record { first = b; more = bs; bytes = e; quote = λ _. q; fraction = λ s. no-dot b bs s d }

digits-begun : (m : Lexeme) (n : ℕ) (ds : List ℕ) → IsDigits n ds → Begun m ds
digits-begun m n [] d = absurd (omega (arith, d.some))
digits-begun m n (b ∷ bs) d =
    let k = and-parts (has Decimal b) (list_all (has Decimal) bs) d.digits in
    let l = leb-true 48 b (and-parts (nat_le 48 b) (nat_le b 57) k.0).0 in
    record {
      first = b;
      more = bs;
      bytes = refl;
      quote = λ _. not-is b 39 (omega (arith, l));
      fraction = λ s. no-dot b bs s
          (not-is b 46 (omega (arith, l)));
    }

pub unquoted-text : (f : List ℕ) → is_unquoted f ≡ true → name_text Quoted f ≡ f
unquoted-text f h = if_true (is_unquoted f) f (quoted f) h

pub quoted-name-text : (f : List ℕ) → is_unquoted f ≡ false → name_text Quoted f ≡ quoted f
quoted-name-text f h = if_false (is_unquoted f) f (quoted f) h

unquoted-begun : (m : Lexeme) (f : List ℕ) → is_unquoted f ≡ true → Begun m f
unquoted-begun m f h = by-name f
    (λ e. literal-begun m f 91 (93 ∷ []) e refl refl)
    (λ e. literal-begun m f 123 (125 ∷ []) e refl refl)
    (λ e. literal-begun m f 33 [] e refl refl)
    (λ e. literal-begun m f 59 [] e refl refl)
    (λ w. word-begun m f w)
    (λ s o. symbolic-begun m f s o)
    h

pub begun : (m : Lexeme) → IsLexeme m → Begun m (lexeme_text m)
begun (sign b) h =
    by-sign (λ b. Begun (sign b) (b ∷ [])) (literal-begun _ _ 32 [] refl refl refl) (literal-begun _ _ 40 [] refl refl refl)
    (literal-begun _ _ 41 [] refl refl refl)
    (literal-begun _ _ 91 [] refl refl refl) (literal-begun _ _ 93 [] refl refl refl) (literal-begun _ _ 123 [] refl refl refl)
    (literal-begun _ _ 125 [] refl refl refl)
    (literal-begun _ _ 44 [] refl refl refl) (literal-begun _ _ 124 [] refl refl refl) b h
begun (name f) h = by_test (is_unquoted f)
    (λ e. subst (Begun (name f)) (sym (unquoted-text f e)) (unquoted-begun (name f) f e))
    (λ e. subst (Begun (name f)) (sym (quoted-name-text f e)) (record {
      first = 39;
      more = flat_map escaped (chars f) ++ codes "'";
      bytes = refl;
      quote = λ q. absurd (let z : not (is_unquoted f) ≡ true = ap not e in let y : true ≡ false = sym z ∙ q in cc);
      fraction = λ s. no-dot 39 (flat_map escaped (chars f) ++ codes "'") s refl;
    }))
begun (prefix_name f) h = subst (Begun (prefix_name f)) (sym (unquoted-text f h.0)) (symbolic-begun (prefix_name f) f h.1 h.2)
begun (number (pos n)) h = digits-begun (number (pos n)) n (decimal n) (decimal-digits n (let l : n < 2 ^ 63 = h in omega (arith, l)))
begun (number (negsuc n)) h = literal-begun _ _ 45 (decimal (suc n)) refl refl refl
