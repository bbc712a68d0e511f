-- Where a fault of a token is told, it stands; what is passed over is layout or a comment.
use Rattle.std.proofs.Common.{◌≡◌, ℕ, zero, suc, ◌+◌, ◌-◌, ◌<◌, ◌≤◌, Bool, true, false, ◌&&◌, ◌||◌, List, [], ◌∷◌, ◌++◌, Option, Some}
use Rattle.std.proofs.Common.{None, length, take, drop, refl, ap, sym, ◌∙◌, subst, cond, arith, append_assoc, take-append-drop}
use Rattle.std.proofs.Common.{length-drop, inl, inr, ◌⊎◌}
use Rattle.std.specs.Prelude.{◌==◌, nat_lt, codes, unwrap_or, if◌then◌else◌}
use Rattle.std.specs.Option.{option_map_or}
use Rattle.std.specs.Char.{IsScalar}
use Rattle.std.proofs.lemmas.Bool.{eqb-true, eq-eqb, ne_eqb, lt-ltb}
use Rattle.std.proofs.lemmas.List.Elements.{All-nil, All-cons}
use Rattle.std.proofs.Math.Seq.{take-append-add, drop-append-add}
use lib.Utf8.{encode}
use Rattle.op_token.specs.declared.character.Character.{Character}
use Rattle.op_token.specs.declared.escape.Escape.{Escape}
use Rattle.op_token.specs.declared.class.Class.{Class}
use Rattle.op_token.specs.declared.class.Class.TheVariants.{Layout, Percent, Small, Capital, Digit, SingleQuote, DoubleQuote, Slash}
use Rattle.op_token.specs.declared.class.Class.TheVariants.{Dot, Symbol, Solo, Punctuation, Bad}
use Rattle.op_token.specs.declared.set.Set.{Set}
use Rattle.op_token.specs.declared.set.Set.TheVariants.{Symbol as symbols, Decimal, Hexadecimal, Octal, Binary}
use Rattle.op_token.specs.declared.spelling.Spelling.{Spelling}
use Rattle.op_token.specs.declared.spelling.Spelling.TheVariants.{Gap, Whole, Fault}
use Rattle.op_token.specs.declared.token.TokenFault.{TokenFault}
use Rattle.op_token.specs.declared.token.TokenKind.{TokenKind}
use Rattle.op_token.specs.declared.token.TokenKind.TheVariants.{Name, QuotedName, Text, Integer, End}
use Rattle.op_token.specs.declared.token.TokenFaultKind.{TokenFaultKind}
use Rattle.op_token.specs.declared.token.TokenFaultKind.TheVariants.{BadChar, OpenQuote, OpenComment, BadEscape, BadNumber, NumberRange}
use Rattle.op_token.specs.Set.{run, has, begins_with}
use Rattle.op_token.specs.Character.{char_at, first_char}
use Rattle.op_token.specs.Class.{class_of}
use Rattle.op_token.specs.Spelling.{fault, number_of, escape_at, quoted_from, ranged, least_magnitude, based, is_fraction, decimal}
use Rattle.op_token.specs.Spelling.{escaped_code_at, code_at, number_at, ends_clause, line_from, block_from, spelled, begins}
use Rattle.op_token.specs.Spellings.{is_one_of, are_of, octal_digits, decimal_digits, signs, IsNumber, IsEscape, sign, newline}
use Rattle.op_token.specs.Spellings.{octal_code, hexadecimal_code, IsQuotedCharacter, plain, doubled, escaped, AreQuoted}
use Rattle.op_token.specs.Spellings.{no_characters, one_more}
use Rattle.op_token.specs.Spellings.{IsCharacterCode, character, quote_twice, escape, IsInRange, within, least}
use Rattle.op_token.specs.SpellingFaults.{AreCharacters, HasNoCharacter, HasNoEscape, closes_comment, LineUpTo, BlockUpTo, QuotedUpTo}
use Rattle.op_token.specs.SpellingFaults.{beginners, begins_nothing, in_line, in_block, in_quotes, ends_line, escape_in_quotes}
use Rattle.op_token.specs.SpellingFaults.{escape_in_code, starts_with, no_binary, no_octal, no_hexadecimal, fraction, no_code}
use Rattle.op_token.specs.SpellingFaults.{newline_code, great_decimal, great_binary, great_octal, great_hexadecimal, IsFault, IsGap}
use Rattle.op_token.specs.SpellingFaults.{layout, line_comment, last_comment, block_comment}
use Rattle.op_token.proofs.SpellingEnds.{if_either, map_either, and_left, and_right}
use Rattle.op_token.proofs.Utf8Characters.{AllHigh, IsRead, char_is, char_reads}
use Rattle.op_token.proofs.CharacterClasses.{same_on, characters, set_has, fits, class_fits}
use Rattle.op_token.proofs.SpellingSoundness.{front_is, escape_sound, other, plain_is, AreHexadecimal, run_number}
use Rattle.op_token.proofs.SpellingCompleteness.{shape, escape_whole, joined}
use Rattle.op_token.proofs.FaultCompleteness.{quoting, quoted_reach, quoted_bad, quoted_open, quoted_no_escape, no_escape, line_reach}
use Rattle.op_token.proofs.FaultCompleteness.{block_reach, line_bad, block_bad, fraction_same, or_left, or_right, starts_one}

-- a fault, with the bytes from the place on where it begins
abbrev pub Told : Bool → ℕ → List ℕ → TokenFault → Type 0
Told minus at s x = (place : ℕ) × (x.place ≡ at + place) × IsFault minus x.kind s place

fault_same : {x y : TokenFault} → Fault x ≡ Fault y → x ≡ y
fault_same h = cc

told : (minus : Bool) (at n : ℕ) (kind : TokenFaultKind) (s : List ℕ) (x : TokenFault) (place : ℕ) → fault n kind ≡ Fault x
    → n ≡ at + place → IsFault minus kind s place → Told minus at s x
told minus at n kind s x place h e w = subst (Told minus at s) (fault_same h) (place, e, w)

gap_fault : {i : ℕ} {x : TokenFault} → Gap i ≡ Fault x → ⊥
gap_fault h = cc

whole_fault : {kind : TokenKind} {i : ℕ} {x : TokenFault} → Whole kind i ≡ Fault x → ⊥
whole_fault h = cc

flip : (a b : ℕ) → (a == b) ≡ false → (b == a) ≡ false
flip a b h = ne_eqb b a (λ e. no (sym (eq-eqb a b (sym e)) ∙ h))
  where
    no : true ≡ false → ⊥
    no z = cc

-- nothing begins here
none_here : (b : ℕ) (t : List ℕ) → char_at b t ≡ None → HasNoCharacter (b ∷ t)
none_here b t h = record { some = omega arith; none = λ c behind sc e. no (sym h ∙ ap first_char e ∙ char_reads c behind sc) }
  where
    no : {c : Character} → None ≡ Some c → ⊥
    no z = cc

no_escape_here : (s : List ℕ) → escape_at s ≡ None → HasNoEscape s
no_escape_here s h = λ e behind v w p. no (sym h ∙ ap escape_at p ∙ escape_whole e v behind w)
  where
    no : {x : Escape} → None ≡ Some x → ⊥
    no z = cc

-- characters
characters_none : AreCharacters []
characters_none = record { characters = []; each = All-nil IsScalar; joined = refl }

characters_more : (c : ℕ) (t : List ℕ) → IsScalar c → AreCharacters t → AreCharacters (encode c ++ t)
characters_more c t sc w = record {
  characters = c ∷ w.characters;
  each = All-cons IsScalar c w.characters sc w.each;
  joined =
      ap (λ u. encode c ++ u) w.joined;
}

member_high : (q n : ℕ) (t y : List ℕ) → q < 128 → AllHigh n t → is_one_of (take n t ++ y) q ≡ is_one_of y q
member_high q zero t y l h = refl
member_high q (suc n) [] y l h = refl
member_high q (suc n) (x ∷ t) y l h = let p : 128 ≤ x = h.0 in ap (λ u. u || is_one_of (take n t ++ y) q)
    (ne_eqb q x (λ e. omega arith)) ∙ member_high q n t y l h.1

closes_high : (n : ℕ) (t y : List ℕ) → AllHigh n t → closes_comment (take n t ++ y) ≡ closes_comment y
closes_high zero t y h = refl
closes_high (suc n) [] y h = refl
closes_high (suc n) (x ∷ t) y h = let p : 128 ≤ x = h.0 in ap
    (λ u. (u && starts_with (codes "/") (take n t ++ y)) || closes_comment (take n t ++ y)) (ne_eqb x 42 (λ e. omega arith))
    ∙ closes_high n t y h.1

-- the bytes here and those behind them, split
resplit : (b n : ℕ) (t body rest : List ℕ) → drop n t ≡ body ++ rest → b ∷ t ≡ ((b ∷ take n t) ++ body) ++ rest
resplit b n t body rest e = ap (λ x. b ∷ x) (sym (take-append-drop n t) ∙ ap (λ x. take n t ++ x) e
    ∙ sym (append_assoc (take n t) body rest))

-- a comment to the end of its line
record LineSplit (s : List ℕ) : Type 0 where
  pub body : List ℕ
  pub rest : List ℕ
  pub are : AreCharacters body
  pub still : is_one_of body 10 ≡ false
  pub split : s ≡ body ++ rest
  pub stop : (rest ≡ []) ⊎ ((begins_with 10 rest ≡ true) ⊎ HasNoCharacter rest)

or_both : (a b : Bool) → a ≡ false → b ≡ false → (a || b) ≡ false
or_both false b h g = g
or_both true b h g = cc

line_split : (f : ℕ) (s : List ℕ) → length s ≤ f → LineSplit s
line_split f [] l = record { body = []; rest = []; are = characters_none; still = refl; split = refl; stop = inl refl }
line_split zero (b ∷ t) l = absurd (omega arith)
line_split (suc f) (b ∷ t) l = go (b == 10) refl (char_at b t) refl (λ n. line_split f (drop n t) (omega (arith, length-drop n t)))
  where
    go : (z : Bool) → (b == 10) ≡ z → (o : Option Character) → char_at b t ≡ o → ((n : ℕ) → LineSplit (drop n t)) → LineSplit (b ∷ t)
    go true e o h r = record { body = []; rest = b ∷ t; are = characters_none; still = refl; split = refl; stop = inr (inl e) }
    go false e None h r = record {
      body = [];
      rest = b ∷ t;
      are = characters_none;
      still = refl;
      split = refl;
      stop = inr
          (inr (none_here b t h));
    }
    go false e (Some c) h r =
        let w = r c.more in
        let k : IsRead b t (Some c) = subst (IsRead b t) h (char_is b t) in
        record {
          body = (b ∷ take c.more t) ++ w.body;
          rest = w.rest;
          are = subst (λ x. AreCharacters (x ++ w.body)) k.1
              (characters_more c.code w.body k.0 w.are);
          still = or_both (10 == b) (is_one_of (take c.more t ++ w.body) 10)
              (flip b 10 e) (member_high 10 c.more t w.body (omega arith) k.2 ∙ w.still);
          split =
              resplit b c.more t w.body w.rest w.split;
          stop = w.stop;
        }

line_told : (at : ℕ) (minus : Bool) (s : List ℕ) (x : TokenFault) → begins at minus (37 ∷ s) ≡ Fault x → Told minus at (37 ∷ s) x
line_told at minus s x h =
    let w = line_split (length s) s (omega arith) in
    let u : LineUpTo (37 ∷ s) w.rest = record { body = w.body; are = w.are; open_still = w.still; split = ap (λ y. 37 ∷ y) w.split } in
    let a = at + 1 + length w.body in
    let g : line_from a 0 w.rest ≡ Fault x = sym (line_reach at minus (37 ∷ s) w.rest u) ∙ h in
    elim w.stop [
      | inl e ↦ absurd (gap_fault (ap (line_from a 0) (sym e) ∙ g))
      | inr v ↦ elim v [
        | inl e ↦ absurd (gap_fault (ap (line_from a 0) (sym (front_is 10 w.rest e)) ∙ g))
        | inr n ↦ told minus at a BadChar (37 ∷ s) x (1 + length w.body) (sym (line_bad a w.rest n) ∙ g) (omega arith)
            (in_line w.rest u n refl)
      ]
    ]

-- a comment between /* and */
record BlockSplit (s : List ℕ) : Type 0 where
  pub body : List ℕ
  pub rest : List ℕ
  pub are : AreCharacters body
  pub still : closes_comment body ≡ false
  pub split : s ≡ body ++ rest
  pub stop : (rest ≡ []) ⊎ (((r : List ℕ) × (rest ≡ 42 ∷ 47 ∷ r)) ⊎ HasNoCharacter rest)

front_shrinks : (b : ℕ) (ys r : List ℕ) → (b == 42 && begins_with 47 (ys ++ r)) ≡ false → (b == 42 && starts_with (codes "/") ys) ≡ false
front_shrinks b [] r h = and_no (b == 42)
  where
    and_no : (a : Bool) → (a && false) ≡ false
    and_no true = refl
    and_no false = refl
front_shrinks b (y ∷ ys) r h = ap (λ t. b == 42 && t) (sym (starts_one 47 (y ∷ ys))) ∙ h

block_split : (f : ℕ) (s : List ℕ) → length s ≤ f → BlockSplit s
block_split f [] l = record { body = []; rest = []; are = characters_none; still = refl; split = refl; stop = inl refl }
block_split zero (b ∷ t) l = absurd (omega arith)
block_split (suc f) (b ∷ t) l = go (b == 42 && begins_with 47 t) refl (char_at b t) refl
    (λ n. block_split f (drop n t) (omega (arith, length-drop n t)))
  where
    go : (z : Bool) → (b == 42 && begins_with 47 t) ≡ z → (o : Option Character) → char_at b t ≡ o
        → ((n : ℕ) → BlockSplit (drop n t)) → BlockSplit (b ∷ t)
    go true e o h r = record {
      body = [];
      rest = b ∷ t;
      are = characters_none;
      still = refl;
      split = refl;
      stop = inr
          (inl (
            drop 1 t,
            ap (λ i. i ∷ t) (eqb-true b 42 (and_left (b == 42) (begins_with 47 t) e))
                ∙ ap (λ y. 42 ∷ y) (front_is 47 t (and_right (b == 42) (begins_with 47 t) e)),
          ));
    }
    go false e None h r = record {
      body = [];
      rest = b ∷ t;
      are = characters_none;
      still = refl;
      split = refl;
      stop = inr
          (inr (none_here b t h));
    }
    go false e (Some c) h r =
        let w = r c.more in
        let k : IsRead b t (Some c) = subst (IsRead b t) h (char_is b t) in
        let p : t ≡ (take c.more t ++ w.body) ++ w.rest = sym (take-append-drop c.more t) ∙ ap (λ x. take c.more t ++ x) w.split
        ∙ sym (append_assoc (take c.more t) w.body w.rest) in
        record {
          body = (b ∷ take c.more t) ++ w.body;
          rest = w.rest;
          are = subst (λ x. AreCharacters (x ++ w.body)) k.1
              (characters_more c.code w.body k.0 w.are);
          still = or_both (b == 42 && starts_with (codes "/") (take c.more t ++ w.body))
              (closes_comment (take c.more t ++ w.body)) (front_shrinks b (take c.more t ++ w.body) w.rest
              (ap (λ x. b == 42 && begins_with 47 x) (sym p) ∙ e)) (closes_high c.more t w.body k.2 ∙ w.still);
          split =
              resplit b c.more t w.body w.rest w.split;
          stop = w.stop;
        }

block_told : (at : ℕ) (minus : Bool) (s : List ℕ) (x : TokenFault) → begins at minus (47 ∷ 42 ∷ s) ≡ Fault x
    → Told minus at (47 ∷ 42 ∷ s) x
block_told at minus s x h =
    let w = block_split (length s) s (omega arith) in
    let u : BlockUpTo (47 ∷ 42 ∷ s) w.rest = record {
      body = w.body;
      are = w.are;
      open_still = w.still;
      split = ap
          (λ y. 47 ∷ 42 ∷ y) w.split;
    } in
    let a = at + 2 + length w.body in
    let g : begins_with 47 w.rest ≡ false → block_from at a 0 w.rest ≡ Fault x = λ z. sym
    (block_reach at minus (47 ∷ 42 ∷ s) w.rest u z) ∙ h in
    elim w.stop [
      | inl e ↦ told minus at at OpenComment (47 ∷ 42 ∷ s) x 0 (ap (block_from at a 0) (sym e) ∙ g (ap (begins_with 47) e))
          (omega arith) (subst (BlockUpTo (47 ∷ 42 ∷ s)) e u, refl)
      | inr v ↦ elim v [
        | inl r ↦ absurd (gap_fault (ap (block_from at a 0) (sym r.1) ∙ g (ap (begins_with 47) r.1)))
        | inr n ↦ (let c = block_bad at a w.rest n in told minus at a BadChar (47 ∷ 42 ∷ s) x (2 + length w.body)
            (sym c.1 ∙ g c.0) (omega arith) (in_block w.rest u n refl))
      ]
    ]

-- quoted text
abbrev pub QuotedStop : ℕ → List ℕ → Type 0
QuotedStop q rest = (ends_line rest ≡ true) ⊎ (((r : List ℕ) × (rest ≡ q ∷ r) × (begins_with q r ≡ false))
    ⊎ (((r : List ℕ) × (rest ≡ 92 ∷ r) × HasNoEscape r) ⊎ HasNoCharacter rest))

record QuotedSplit (q : ℕ) (s : List ℕ) : Type 0 where
  pub body : List ℕ
  pub meant : List ℕ
  pub rest : List ℕ
  pub are : AreQuoted q body meant
  pub split : s ≡ body ++ rest
  pub stop : QuotedStop q rest

quoted_stop : (q : ℕ) (s : List ℕ) → QuotedStop q s → QuotedSplit q s
quoted_stop q s h = record { body = []; meant = []; rest = s; are = no_characters; split = refl; stop = h }

quoted_on : (q b n : ℕ) (t one : List ℕ) → IsQuotedCharacter q (b ∷ take n t) one → QuotedSplit q (drop n t) → QuotedSplit q (b ∷ t)
quoted_on q b n t one h w = record {
  body = (b ∷ take n t) ++ w.body;
  meant = one ++ w.meant;
  rest = w.rest;
  are = one_more (b ∷ take n t) one w.body w.meant h w.are;
  split = resplit b n t w.body w.rest w.split;
  stop = w.stop;
}

quoted_split : (q f : ℕ) (s : List ℕ) → q < 128 → length s ≤ f → QuotedSplit q s
quoted_split q f [] low l = quoted_stop q [] (inl refl)
quoted_split q zero (b ∷ t) low l = absurd (omega arith)
quoted_split q (suc f) (b ∷ t) low l = go (b == 10) refl (b == q) refl (begins_with q t) refl (b == 92) refl (escape_at t) refl
    (char_at b t) refl (λ n. quoted_split q f (drop n t) low (omega (arith, length-drop n t)))
  where
    go : (x : Bool) → (b == 10) ≡ x → (y : Bool) → (b == q) ≡ y → (z : Bool) → begins_with q t ≡ z → (v : Bool) → (b == 92) ≡ v
        → (oe : Option Escape) → escape_at t ≡ oe → (oc : Option Character) → char_at b t ≡ oc
        → ((n : ℕ) → QuotedSplit q (drop n t)) → QuotedSplit q (b ∷ t)
    go true e y e2 z e3 v e4 oe e5 oc e6 r = quoted_stop q (b ∷ t) (inl e)
    go false e true e2 true e3 v e4 oe e5 oc e6 r = quoted_on q b 1 t (q ∷ [])
        (doubled (ap (λ i. i ∷ take 1 t) (eqb-true b q e2) ∙ ap (λ y. q ∷ take 1 y) (front_is q t e3)) refl) (r 1)
    go false e true e2 false e3 v e4 oe e5 oc e6 r = quoted_stop q (b ∷ t) (inr (inl (t, ap (λ i. i ∷ t) (eqb-true b q e2), e3)))
    go false e false e2 z e3 true e4 None e5 oc e6 r = quoted_stop q (b ∷ t)
        (inr (inr (inl (t, ap (λ i. i ∷ t) (eqb-true b 92 e4), no_escape_here t e5))))
    go false e false e2 z e3 true e4 (Some x) e5 oc e6 r = quoted_on q b x.len t (option_map_or encode x.code [])
        (escaped (take x.len t) x.code (escape_sound t x e5) (ap (λ i. i ∷ take x.len t) (eqb-true b 92 e4)) refl) (r x.len)
    go false e false e2 z e3 false e4 oe e5 None e6 r = quoted_stop q (b ∷ t) (inr (inr (inr (none_here b t e6))))
    go false e false e2 z e3 false e4 oe e5 (Some c) e6 r =
        let k : IsRead b t (Some c) = subst (IsRead b t) e6 (char_is b t) in
        quoted_on q b c.more t (b ∷ take c.more t) (plain c.code k.0
        (plain_is q c.code (other b q (take c.more t) c.code low e2 k.1) (other b 92 (take c.more t) c.code (omega arith) e4 k.1)
        (other b 10 (take c.more t) c.code (omega arith) e k.1)) (sym k.1) refl) (r c.more)

quoted_closed : (kind : TokenKind) (q start at : ℕ) (r : List ℕ) → (q ≡ 10 → ⊥) → begins_with q r ≡ false
    → quoted_from kind q start at 0 (q ∷ r) ≡ Whole kind (suc at)
quoted_closed kind q start at r n f = rw (ne_eqb q 10 n, eq-eqb q q refl, f) refl

quoted_told : (q at : ℕ) (minus : Bool) (s : List ℕ) (x : TokenFault) → is_one_of (codes "'\"") q ≡ true
    → begins at minus (q ∷ s) ≡ Fault x → Told minus at (q ∷ s) x
quoted_told q at minus s x f h =
    let z = quoting q f in
    let w = quoted_split q (length s) s z.2 (omega arith) in
    let u : QuotedUpTo (q ∷ s) w.rest =
    record { quote = q; body = w.body; meant = w.meant; is_quote = f; are = w.are; split = ap (λ y. q ∷ y) w.split } in
    let a = at + 1 + length w.body in
    let g : quoted_from z.0 q at a 0 w.rest ≡ Fault x = sym (quoted_reach at minus (q ∷ s) w.rest u) ∙ h in
    elim w.stop [
      | inl e ↦ told minus at at OpenQuote (q ∷ s) x 0 (sym (quoted_open z.0 q at a w.rest e) ∙ g) (omega arith) (w.rest, u, e, refl)
      | inr v ↦ elim v [
        | inl r ↦ absurd (whole_fault (sym (quoted_closed z.0 q at a r.0 z.3 r.2) ∙ ap (quoted_from z.0 q at a 0) (sym r.1) ∙ g))
        | inr y ↦ elim y [
          | inl r ↦ (let u2 : QuotedUpTo (q ∷ s) (92 ∷ r.0) =
              record {
                quote = q;
                body = w.body;
                meant = w.meant;
                is_quote = f;
                are = w.are;
                split = ap (λ y. q ∷ y) w.split
                    ∙ ap (λ y. q ∷ (w.body ++ y)) r.1;
              } in
              told minus at a BadEscape (q ∷ s) x (1 + length w.body)
              (sym (quoted_no_escape z.0 q at a r.0 z.4 (no_escape r.0 r.2)) ∙ ap (quoted_from z.0 q at a 0) (sym r.1) ∙ g)
              (omega arith) (escape_in_quotes r.0 u2 r.2 refl))
          | inr n ↦ told minus at a BadChar (q ∷ s) x (1 + length w.body) (sym (quoted_bad z.0 q at a w.rest z.2 n) ∙ g)
              (omega arith) (in_quotes w.rest u n refl)
        ]
      ]
    ]

-- digits
out_of : (set : Set) (b : ℕ) → has set b ≡ false → is_one_of (characters set) b ≡ false
out_of set b n = go (is_one_of (characters set) b) refl
  where
    no : true ≡ false → ⊥
    no h = cc

    go : (t : Bool) → is_one_of (characters set) b ≡ t → is_one_of (characters set) b ≡ false
    go false e = e
    go true e = absurd (no (sym (set_has set b e) ∙ n))

starts_after : (set : Set) (t : List ℕ) → starts_with (characters set) (drop (run set t) t) ≡ false
starts_after set [] = refl
starts_after set (b ∷ t) = go (has set b) refl (starts_after set t)
  where
    go : (z : Bool) → has set b ≡ z → starts_with (characters set) (drop (run set t) t) ≡ false
        → starts_with (characters set) (drop (cond z (suc (run set t)) 0) (b ∷ t)) ≡ false
    go true e h = h
    go false e h = out_of set b e

starts_none : (set : Set) (t : List ℕ) → run set t ≡ 0 → starts_with (characters set) t ≡ false
starts_none set t e = sym (ap (λ n. starts_with (characters set) (drop n t)) e) ∙ starts_after set t

out_of_range : (minus : Bool) (n : ℕ) → IsInRange minus n → (nat_lt n least_magnitude || (minus && n == least_magnitude)) ≡ false → ⊥
out_of_range minus n (within h) t = let l : n < 9223372036854775808 = omega arith in
    no (sym (lt-ltb n 9223372036854775808 l) ∙ or_left (nat_lt n least_magnitude) (minus && n == least_magnitude) t)
  where
    no : true ≡ false → ⊥
    no z = cc
out_of_range minus n (least h e) t = go minus (n == least_magnitude) h (eq-eqb n least_magnitude e)
    (or_right (nat_lt n least_magnitude) (minus && n == least_magnitude) t)
  where
    go : (a b : Bool) → a ≡ true → b ≡ true → (a && b) ≡ false → ⊥
    go true true h e t = cc
    go true false h e t = cc
    go false b h e t = cc

abbrev pub NotRanged : ℕ → Bool → ℕ → TokenFault → Type 0
NotRanged at minus n x = (fault at NumberRange ≡ Fault x) × (IsInRange minus n → ⊥)

not_ranged : (at : ℕ) (minus : Bool) (n end : ℕ) (x : TokenFault) → ranged at minus n end ≡ Fault x → NotRanged at minus n x
not_ranged at minus n end x =
    if_either (λ y. y ≡ Fault x → NotRanged at minus n x) (nat_lt n least_magnitude || (minus && n == least_magnitude))
    (Whole (Integer n) end) (fault at NumberRange)
    (λ t h. absurd (whole_fault h)) (λ t h. (h, λ r. out_of_range minus n r t))

abbrev pub BasedFault : ℕ → Set → ℕ → Bool → List ℕ → TokenFault → Type 0
BasedFault base set at minus t x =
    ((fault at BadNumber ≡ Fault x) × (starts_with (characters set) t ≡ false))
    ⊎ ((n : ℕ) × (fault at NumberRange ≡ Fault x) × IsNumber base (characters set) (take (run set t) t) n
    × (IsInRange minus n → ⊥) × (starts_with (characters set) (drop (run set t) t) ≡ false))

positive : (n : ℕ) → (n == 0) ≡ false → 0 < n
positive zero h = cc
positive (suc n) h = omega arith

based_told : (base : ℕ) (set : Set) (at : ℕ) (minus : Bool) (t : List ℕ) (x : TokenFault) → AreHexadecimal set
    → based base set at minus t ≡ Fault x → BasedFault base set at minus t x
based_told base set at minus t x c =
    let r = run set t in
    let n = number_of base (take r t) in
    if_either (λ y. y ≡ Fault x → BasedFault base set at minus t x) (r == 0) (fault at BadNumber) (ranged at minus n (at + 2 + r))
    (λ e h. inl (h, starts_none set t (eqb-true r 0 e)))
    (λ e h. let w = not_ranged at minus n (at + 2 + r) x h in
    inr (n, w.0, run_number base set t c (positive r e), w.1, starts_after set t))

decimal_told : (at : ℕ) (minus : Bool) (b : ℕ) (s : List ℕ) (x : TokenFault) → has Decimal b ≡ true
    → decimal at minus (b ∷ s) ≡ Fault x → Told minus at (b ∷ s) x
decimal_told at minus b s x f =
    let r = run Decimal (b ∷ s) in
    let n = number_of 10 (take r (b ∷ s)) in
    let one : r ≡ suc (run Decimal s) = rw f refl in
    let w : IsNumber 10 decimal_digits (take r (b ∷ s)) n = run_number 10 Decimal (b ∷ s) refl (omega arith) in
    let p : b ∷ s ≡ take r (b ∷ s) ++ drop r (b ∷ s) = sym (take-append-drop r (b ∷ s)) in
    if_either (λ y. y ≡ Fault x → Told minus at (b ∷ s) x) (is_fraction (drop r (b ∷ s))) (fault at BadNumber)
    (ranged at minus n (at + r))
    (λ t h. told minus at at BadNumber (b ∷ s) x 0 h (omega arith)
    (fraction (take r (b ∷ s)) (drop r (b ∷ s)) n w (sym (fraction_same (drop r (b ∷ s))) ∙ t) p, refl))
    (λ t h. let v = not_ranged at minus n (at + r) x h in
    told minus at at NumberRange (b ∷ s) x 0 v.0 (omega arith) (
      great_decimal (take r (b ∷ s)) (drop r (b ∷ s)) n w v.1 (starts_after Decimal (b ∷ s))
          (sym (fraction_same (drop r (b ∷ s))) ∙ t) p,
      refl,
    ))

escape_no_newline : (e : List ℕ) (n : ℕ) (r : List ℕ) → IsEscape e (Some n) → begins_with 10 (e ++ r) ≡ false
escape_no_newline e n r (sign b h q p) = ap (λ t. begins_with 10 (t ++ r)) q ∙ same_on (λ b. b == 10) (λ b. false) signs b refl h
escape_no_newline e n r (newline q p) = cc
escape_no_newline e n r (octal_code ds m w sc q p) = ap (λ t. begins_with 10 (t ++ r)) q ∙ ap (begins_with 10) (joined ds r)
    ∙ go ds w.each
  where
    go : (ds : List ℕ) → are_of octal_digits ds ≡ true → begins_with 10 (ds ++ 92 ∷ r) ≡ false
    go [] h = refl
    go (b ∷ ds) h = same_on (λ b. b == 10) (λ b. false) octal_digits b refl
        (and_left (is_one_of octal_digits b) (are_of octal_digits ds) h)
escape_no_newline e n r (hexadecimal_code ds m w sc q p) = ap (λ t. begins_with 10 (t ++ r)) q

code_front : (at : ℕ) (c r : List ℕ) (n : ℕ) → IsCharacterCode c n → (e : ℕ) × (code_at at (c ++ r) ≡ Whole (Integer n) e)
code_front at c r n (character sc n39 n92 e) =
    let w = shape n r sc in
    let p : c ≡ w.0 ∷ w.1 = e ∙ w.2 in (
      at + 3 + length w.1,
      ap (λ t. code_at at (t ++ r)) p
          ∙ by (w.0 == 92) (w.0 == 39) (escaped_code_at at (w.1 ++ r))
          (if begins_with 39 (w.1 ++ r) then Whole (Integer 39) (at + 4) else fault at BadNumber) (char_at w.0 (w.1 ++ r))
          (record { code = n; more = length w.1 }) (ne_eqb w.0 92 (w.4 92 (omega arith) n92))
          (ne_eqb w.0 39 (w.4 39 (omega arith) n39)) w.3,
    )
  where
    by : (t u : Bool) (x y : Spelling) (o : Option Character) (c : Character) → t ≡ false → u ≡ false → o ≡ Some c
        → cond t x (cond u y (option_map_or (λ (c : Character). Whole (Integer c.code) (at + 3 + c.more)) o
        (fault at BadNumber))) ≡ Whole (Integer c.code) (at + 3 + c.more)
    by false false x y o c h g f = ap (λ o. option_map_or (λ (c : Character). Whole (Integer c.code) (at + 3 + c.more)) o
        (fault at BadNumber)) f
    by true u x y o c h g f = cc
    by false true x y o c h g f = cc
code_front at c r n (quote_twice e p) = (at + 4, ap (λ t. code_at at (t ++ r)) e ∙ ap (λ v. Whole (Integer v) (at + 4)) (sym p))
code_front at c r n (escape e w p) = (
  at + 3 + length e,
  ap (λ t. code_at at (t ++ r)) p
      ∙ ap (λ t. cond t (fault at BadNumber) (option_map_or (λ (x : Escape). Whole (Integer (unwrap_or x.code 0))
      (at + 3 + x.len)) (escape_at (e ++ r)) (fault (at + 2) BadEscape))) (escape_no_newline e n r w)
      ∙ ap (λ o. option_map_or (λ (x : Escape). Whole (Integer (unwrap_or x.code 0)) (at + 3 + x.len)) o
      (fault (at + 2) BadEscape)) (escape_whole e (Some n) r w),
)

abbrev pub NoCode : List ℕ → Type 0
NoCode s = (c behind : List ℕ) (n : ℕ) → IsCharacterCode c n → s ≡ c ++ behind → ⊥

no_code_here : (at : ℕ) (s : List ℕ) (x : TokenFault) → code_at at s ≡ Fault x → NoCode s
no_code_here at s x h = λ c behind n w e. let z = code_front at c behind n w in whole_fault (sym z.1 ∙ ap (code_at at) (sym e) ∙ h)

code_told : (at : ℕ) (minus : Bool) (s : List ℕ) (x : TokenFault) → code_at at s ≡ Fault x → Told minus at (48 ∷ 39 ∷ s) x
code_told at minus [] x h = told minus at at BadNumber (48 ∷ 39 ∷ []) x 0 h (omega arith)
    (no_code [] refl refl (no_code_here at [] x h), refl)
code_told at minus (b ∷ t) x h =
    let P : Spelling → Type 0 = λ y. y ≡ Fault x → Told minus at (48 ∷ 39 ∷ b ∷ t) x in
    if_either P (b == 92) (escaped_code_at at t) _
    (λ e. if_either P (begins_with 10 t) (fault at BadNumber) _
    (λ u g. told minus at at BadNumber (48 ∷ 39 ∷ b ∷ t) x 0 g (omega arith)
    (newline_code (drop 1 t) (ap (λ i. 48 ∷ 39 ∷ i ∷ t) (eqb-true b 92 e) ∙ ap (λ y. 48 ∷ 39 ∷ 92 ∷ y) (front_is 10 t u)), refl))
    (λ u. map_either P (λ (x : Escape). Whole (Integer (unwrap_or x.code 0)) (at + 3 + x.len)) (escape_at t) (fault (at + 2) BadEscape)
    (λ y v g. absurd (whole_fault g))
    (λ v g. told minus at (at + 2) BadEscape (48 ∷ 39 ∷ b ∷ t) x 2 g refl
    (escape_in_code t (ap (λ i. 48 ∷ 39 ∷ i ∷ t) (eqb-true b 92 e)) (no_escape_here t v) refl))))
    (λ e.
    let bad : fault at BadNumber ≡ Fault x → Told minus at (48 ∷ 39 ∷ b ∷ t) x = λ g. told minus at at BadNumber
    (48 ∷ 39 ∷ b ∷ t) x 0 g (omega arith) (no_code (b ∷ t) refl (sym (starts_one 92 (b ∷ t)) ∙ e) (no_code_here at (b ∷ t) x h), refl) in
    if_either P (b == 39) _ _
    (λ u. if_either P (begins_with 39 t) (Whole (Integer 39) (at + 4)) (fault at BadNumber) (λ v g. absurd (whole_fault g))
    (λ v g. bad g))
    (λ u. map_either P (λ (c : Character). Whole (Integer c.code) (at + 3 + c.more)) (char_at b t) (fault at BadNumber)
    (λ c v g. absurd (whole_fault g)) (λ v g. bad g))) h

two_front : (b c : ℕ) (s : List ℕ) → (b == 48 && begins_with c s) ≡ true → b ∷ s ≡ 48 ∷ c ∷ drop 1 s
two_front b c s h = ap (λ i. i ∷ s) (eqb-true b 48 (and_left (b == 48) (begins_with c s) h))
    ∙ ap (λ t. 48 ∷ t) (front_is c s (and_right (b == 48) (begins_with c s) h))

number_told : (at : ℕ) (minus : Bool) (b : ℕ) (s : List ℕ) (x : TokenFault) → has Decimal b ≡ true
    → number_at at minus (b ∷ s) ≡ Fault x → Told minus at (b ∷ s) x
number_told at minus b s x f =
    let P : Spelling → Type 0 = λ y. y ≡ Fault x → Told minus at (b ∷ s) x in
    let t = drop 1 s in
    let made : (c : ℕ) → (b == 48 && begins_with c s) ≡ true → Told minus at (48 ∷ c ∷ t) x
    → Told minus at (b ∷ s) x = λ c e w. subst (λ y. Told minus at y x) (sym (two_front b c s e)) w in
    if_either P (b == 48 && begins_with 39 s) (code_at at t) _ (λ e h. made 39 e (code_told at minus t x h))
    (λ e. if_either P (b == 48 && begins_with 120 s) (based 16 Hexadecimal at minus t) _
    (λ u h. made 120 u (elim (based_told 16 Hexadecimal at minus t x refl h) [
      | inl w ↦ told minus at at BadNumber (48 ∷ 120 ∷ t) x 0 w.0 (omega arith) (no_hexadecimal t refl w.1, refl)
      | inr w ↦ told minus at at NumberRange (48 ∷ 120 ∷ t) x 0 w.1 (omega arith) (
        great_hexadecimal (take (run Hexadecimal t) t) (drop (run Hexadecimal t) t) w.0 w.2 w.3 w.4
            (ap (λ y. 48 ∷ 120 ∷ y) (sym (take-append-drop (run Hexadecimal t) t))),
        refl,
      )
    ]))
    (λ u. if_either P (b == 48 && begins_with 111 s) (based 8 Octal at minus t) _
    (λ v h. made 111 v (elim (based_told 8 Octal at minus t x refl h) [
      | inl w ↦ told minus at at BadNumber (48 ∷ 111 ∷ t) x 0 w.0 (omega arith) (no_octal t refl w.1, refl)
      | inr w ↦ told minus at at NumberRange (48 ∷ 111 ∷ t) x 0 w.1 (omega arith) (
        great_octal (take (run Octal t) t) (drop (run Octal t) t) w.0 w.2 w.3 w.4
            (ap (λ y. 48 ∷ 111 ∷ y) (sym (take-append-drop (run Octal t) t))),
        refl,
      )
    ]))
    (λ v. if_either P (b == 48 && begins_with 98 s) (based 2 Binary at minus t) _
    (λ y h. made 98 y (elim (based_told 2 Binary at minus t x refl h) [
      | inl w ↦ told minus at at BadNumber (48 ∷ 98 ∷ t) x 0 w.0 (omega arith) (no_binary t refl w.1, refl)
      | inr w ↦ told minus at at NumberRange (48 ∷ 98 ∷ t) x 0 w.1 (omega arith) (
        great_binary (take (run Binary t) t) (drop (run Binary t) t) w.0 w.2 w.3 w.4
            (ap (λ y. 48 ∷ 98 ∷ y) (sym (take-append-drop (run Binary t) t))),
        refl,
      )
    ]))
    (λ y. decimal_told at minus b s x f))))

-- a byte that begins nothing
abbrev pub is_none : Class → Bool
is_none Bad = true
is_none k = false

not_beginner : (b : ℕ) → class_of b ≡ Bad → is_one_of beginners b ≡ false
not_beginner b e = go (is_one_of beginners b) refl
  where
    no : true ≡ false → ⊥
    no z = cc

    go : (t : Bool) → is_one_of beginners b ≡ t → is_one_of beginners b ≡ false
    go false q = q
    go true q = absurd (no (ap is_none (sym e) ∙ same_on (λ b. is_none (class_of b)) (λ b. false) beginners b refl q))

found : (k : Class) (at : ℕ) (minus : Bool) (b : ℕ) (s : List ℕ) (x : TokenFault) → class_of b ≡ k → fits k b ≡ true
    → spelled k at minus b s ≡ Fault x → Told minus at (b ∷ s) x
found Layout at minus b s x e f h = absurd (gap_fault h)
found Percent at minus b s x e f h = subst (λ i. Told minus at (i ∷ s) x) (sym (eqb-true b 37 f)) (line_told at minus s x h)
found Small at minus b s x e f h = absurd (whole_fault h)
found Capital at minus b s x e f h = absurd (whole_fault h)
found Digit at minus b s x e f h = number_told at minus b s x (set_has Decimal b f) h
found SingleQuote at minus b s x e f h = subst (λ i. Told minus at (i ∷ s) x) (sym (eqb-true b 39 f)) (quoted_told 39 at minus s x refl h)
found DoubleQuote at minus b s x e f h = subst (λ i. Told minus at (i ∷ s) x) (sym (eqb-true b 34 f)) (quoted_told 34 at minus s x refl h)
found Slash at minus b s x e f h =
    if_either (λ y. y ≡ Fault x → Told minus at (b ∷ s) x) (begins_with 42 s) (block_from at (at + 2) 0 (drop 1 s))
    (Whole Name (at + 1 + run symbols s))
    (λ t g. subst (λ y. Told minus at y x) (sym (ap (λ i. i ∷ s) (eqb-true b 47 f) ∙ ap (λ y. 47 ∷ y) (front_is 42 s t)))
    (block_told at minus (drop 1 s) x g))
    (λ t g. absurd (whole_fault g)) h
found Dot at minus b s x e f h =
    if_either (λ y. y ≡ Fault x → Told minus at (b ∷ s) x) (run symbols s == 0 && ends_clause s) (Whole End (at + 1))
    (Whole Name (at + 1 + run symbols s)) (λ t g. absurd (whole_fault g)) (λ t g. absurd (whole_fault g)) h
found Symbol at minus b s x e f h = absurd (whole_fault h)
found Solo at minus b s x e f h = absurd (whole_fault h)
found (Punctuation k) at minus b s x e f h = absurd (whole_fault h)
found Bad at minus b s x e f h = told minus at at BadChar (b ∷ s) x 0 h (omega arith) (begins_nothing b s (not_beginner b e) refl refl)

pub fault_found : (at : ℕ) (minus : Bool) (s : List ℕ) (x : TokenFault) → begins at minus s ≡ Fault x
    → (place : ℕ) × (x.place ≡ at + place) × IsFault minus x.kind s place
fault_found at minus [] x h = absurd (gap_fault h)
fault_found at minus (b ∷ s) x h = found (class_of b) at minus b s x refl (class_fits b) h

-- layout and comments
abbrev pub Passed : ℕ → List ℕ → ℕ → Type 0
Passed at s e = IsGap (take (e - at) s) (drop (e - at) s)

gap_end : {i j : ℕ} → Gap i ≡ Gap j → i ≡ j
gap_end h = cc

-- no gap
abbrev pub NoGap : Spelling → Type 0
NoGap (Gap e) = ⊥
NoGap x = Unit {0}

quoted_no_gap : (kind : TokenKind) (q start at inside : ℕ) (s : List ℕ) → NoGap (quoted_from kind q start at inside s)
quoted_no_gap kind q start at inside [] = tt
quoted_no_gap kind q start at (suc m) (b ∷ s) = quoted_no_gap kind q start (suc at) m s
quoted_no_gap kind q start at zero (b ∷ s) =
    if_either NoGap (b == 10) _ _ (λ e. tt)
    (λ e. if_either NoGap (b == q) _ _
    (λ e. if_either NoGap (begins_with q s) _ _ (λ e. quoted_no_gap kind q start (suc at) 1 s) (λ e. tt))
    (λ e. if_either NoGap (b == 92) _ _
    (λ e. map_either NoGap (λ (x : Escape). quoted_from kind q start (suc at) x.len s) (escape_at s) (fault at BadEscape)
    (λ x e. quoted_no_gap kind q start (suc at) x.len s) (λ e. tt))
    (λ e. map_either NoGap (λ (c : Character). quoted_from kind q start (suc at) c.more s) (char_at b s) (fault at BadChar)
    (λ c e. quoted_no_gap kind q start (suc at) c.more s) (λ e. tt))))

ranged_no_gap : (at : ℕ) (minus : Bool) (n end : ℕ) → NoGap (ranged at minus n end)
ranged_no_gap at minus n end = if_either NoGap (nat_lt n least_magnitude || (minus && n == least_magnitude))
    (Whole (Integer n) end) (fault at NumberRange) (λ e. tt) (λ e. tt)

based_no_gap : (base : ℕ) (set : Set) (at : ℕ) (minus : Bool) (s : List ℕ) → NoGap (based base set at minus s)
based_no_gap base set at minus s = if_either NoGap (run set s == 0) (fault at BadNumber) _ (λ e. tt)
    (λ e. ranged_no_gap at minus (number_of base (take (run set s) s)) (at + 2 + run set s))

decimal_no_gap : (at : ℕ) (minus : Bool) (s : List ℕ) → NoGap (decimal at minus s)
decimal_no_gap at minus s = if_either NoGap (is_fraction (drop (run Decimal s) s)) (fault at BadNumber) _ (λ e. tt)
    (λ e. ranged_no_gap at minus (number_of 10 (take (run Decimal s) s)) (at + run Decimal s))

code_no_gap : (at : ℕ) (s : List ℕ) → NoGap (code_at at s)
code_no_gap at [] = tt
code_no_gap at (b ∷ s) =
    if_either NoGap (b == 92) (escaped_code_at at s) _
    (λ e. if_either NoGap (begins_with 10 s) (fault at BadNumber) _ (λ e. tt)
    (λ e. map_either NoGap (λ (x : Escape). Whole (Integer (unwrap_or x.code 0)) (at + 3 + x.len)) (escape_at s)
    (fault (at + 2) BadEscape) (λ x h. tt) (λ e. tt)))
    (λ e. if_either NoGap (b == 39) _ _
    (λ e. if_either NoGap (begins_with 39 s) (Whole (Integer 39) (at + 4)) (fault at BadNumber) (λ e. tt) (λ e. tt))
    (λ e. map_either NoGap (λ (c : Character). Whole (Integer c.code) (at + 3 + c.more)) (char_at b s) (fault at BadNumber)
    (λ c h. tt) (λ e. tt)))

number_no_gap : (at : ℕ) (minus : Bool) (b : ℕ) (s : List ℕ) → NoGap (number_at at minus (b ∷ s))
number_no_gap at minus b s =
    if_either NoGap (b == 48 && begins_with 39 s) (code_at at (drop 1 s)) _ (λ e. code_no_gap at (drop 1 s))
    (λ e. if_either NoGap (b == 48 && begins_with 120 s) (based 16 Hexadecimal at minus (drop 1 s)) _
    (λ e. based_no_gap 16 Hexadecimal at minus (drop 1 s))
    (λ e. if_either NoGap (b == 48 && begins_with 111 s) (based 8 Octal at minus (drop 1 s)) _
    (λ e. based_no_gap 8 Octal at minus (drop 1 s))
    (λ e. if_either NoGap (b == 48 && begins_with 98 s) (based 2 Binary at minus (drop 1 s)) _
    (λ e. based_no_gap 2 Binary at minus (drop 1 s))
    (λ e. decimal_no_gap at minus (b ∷ s)))))

fault_gap : {x : TokenFault} {e : ℕ} → Fault x ≡ Gap e → ⊥
fault_gap h = cc

whole_gap : {kind : TokenKind} {i e : ℕ} → Whole kind i ≡ Gap e → ⊥
whole_gap h = cc

-- the front of a list that is split
split_take : (k : ℕ) (s body r last : List ℕ) → s ≡ body ++ r → take k r ≡ last → take (length body + k) s ≡ body ++ last
split_take k s body r last e h = ap (take (length body + k)) e ∙ take-append-add body r k ∙ ap (λ y. body ++ y) h

line_passed : (at : ℕ) (minus : Bool) (s : List ℕ) (e : ℕ) → begins at minus (37 ∷ s) ≡ Gap e → Passed at (37 ∷ s) e
line_passed at minus s e h =
    let w = line_split (length s) s (omega arith) in
    let u : LineUpTo (37 ∷ s) w.rest = record { body = w.body; are = w.are; open_still = w.still; split = ap (λ y. 37 ∷ y) w.split } in
    let a = at + 1 + length w.body in
    let g : line_from a 0 w.rest ≡ Gap e = sym (line_reach at minus (37 ∷ s) w.rest u) ∙ h in
    elim w.stop [
      | inl z ↦ (let p : a ≡ e = gap_end (ap (line_from a 0) (sym z) ∙ g) in
          let m : suc (length w.body + 0) ≡ e - at = omega arith in
          subst (λ i. IsGap (take i (37 ∷ s)) (drop i (37 ∷ s))) m
          (last_comment (record {
            body = w.body;
            are = w.are;
            open_still = w.still;
            split = ap (λ y. 37 ∷ y)
                (split_take 0 s w.body w.rest [] w.split refl);
          })
          (ap (drop (length w.body + 0)) w.split ∙ drop-append-add w.body w.rest 0 ∙ z)))
      | inr v ↦ elim v [
        | inl z ↦ (let f : w.rest ≡ 10 ∷ drop 1 w.rest = front_is 10 w.rest z in
            let p : suc a ≡ e = gap_end (ap (line_from a 0) (sym f) ∙ g) in
            let m : suc (length w.body + 1) ≡ e - at = omega arith in
            subst (λ i. IsGap (take i (37 ∷ s)) (drop i (37 ∷ s))) m
            (line_comment (record {
              body = w.body;
              are = w.are;
              open_still = w.still;
              split = ap (λ y. 37 ∷ y)
                  (split_take 1 s w.body w.rest (10 ∷ []) w.split (ap (take 1) f));
            })))
        | inr n ↦ absurd (fault_gap (sym (line_bad a w.rest n) ∙ g))
      ]
    ]

block_passed : (at : ℕ) (minus : Bool) (s : List ℕ) (e : ℕ) → begins at minus (47 ∷ 42 ∷ s) ≡ Gap e → Passed at (47 ∷ 42 ∷ s) e
block_passed at minus s e h =
    let w = block_split (length s) s (omega arith) in
    let u : BlockUpTo (47 ∷ 42 ∷ s) w.rest = record {
      body = w.body;
      are = w.are;
      open_still = w.still;
      split = ap
          (λ y. 47 ∷ 42 ∷ y) w.split;
    } in
    let a = at + 2 + length w.body in
    let g : begins_with 47 w.rest ≡ false → block_from at a 0 w.rest ≡ Gap e = λ z. sym
    (block_reach at minus (47 ∷ 42 ∷ s) w.rest u z) ∙ h in
    elim w.stop [
      | inl z ↦ absurd (fault_gap (ap (block_from at a 0) (sym z) ∙ g (ap (begins_with 47) z)))
      | inr v ↦ elim v [
        | inl r ↦ (let p : suc (suc a) ≡ e = gap_end (ap (block_from at a 0) (sym r.1) ∙ g (ap (begins_with 47) r.1)) in
            let m : suc (suc (length w.body + 2)) ≡ e - at = omega arith in
            subst (λ i. IsGap (take i (47 ∷ 42 ∷ s)) (drop i (47 ∷ 42 ∷ s))) m
            (block_comment (record {
              body = w.body;
              are = w.are;
              open_still = w.still;
              split = ap (λ y. 47 ∷ 42 ∷ y)
                  (split_take 2 s w.body w.rest (42 ∷ 47 ∷ []) w.split (ap (take 2) r.1));
            })))
        | inr n ↦ (let c = block_bad at a w.rest n in absurd (fault_gap (sym c.1 ∙ g c.0)))
      ]
    ]

passed : (k : Class) (at : ℕ) (minus : Bool) (b : ℕ) (s : List ℕ) (e : ℕ) → fits k b ≡ true → spelled k at minus b s ≡ Gap e
    → Passed at (b ∷ s) e
passed Layout at minus b s e f h = let p : at + 1 ≡ e = gap_end h in let m : suc zero ≡ e - at = omega arith in
    subst (λ i. IsGap (take i (b ∷ s)) (drop i (b ∷ s))) m (layout b f refl)
passed Percent at minus b s e f h = subst (λ i. Passed at (i ∷ s) e) (sym (eqb-true b 37 f)) (line_passed at minus s e h)
passed Small at minus b s e f h = absurd (whole_gap h)
passed Capital at minus b s e f h = absurd (whole_gap h)
passed Digit at minus b s e f h = absurd (subst NoGap h (number_no_gap at minus b s))
passed SingleQuote at minus b s e f h = absurd (subst NoGap h (quoted_no_gap QuotedName 39 at (at + 1) 0 s))
passed DoubleQuote at minus b s e f h = absurd (subst NoGap h (quoted_no_gap Text 34 at (at + 1) 0 s))
passed Slash at minus b s e f h =
    if_either (λ y. y ≡ Gap e → Passed at (b ∷ s) e) (begins_with 42 s) (block_from at (at + 2) 0 (drop 1 s))
    (Whole Name (at + 1 + run symbols s))
    (λ t g. subst (λ y. Passed at y e) (sym (ap (λ i. i ∷ s) (eqb-true b 47 f) ∙ ap (λ y. 47 ∷ y) (front_is 42 s t)))
    (block_passed at minus (drop 1 s) e g))
    (λ t g. absurd (whole_gap g)) h
passed Dot at minus b s e f h =
    if_either (λ y. y ≡ Gap e → Passed at (b ∷ s) e) (run symbols s == 0 && ends_clause s) (Whole End (at + 1))
    (Whole Name (at + 1 + run symbols s)) (λ t g. absurd (whole_gap g)) (λ t g. absurd (whole_gap g)) h
passed Symbol at minus b s e f h = absurd (whole_gap h)
passed Solo at minus b s e f h = absurd (whole_gap h)
passed (Punctuation k) at minus b s e f h = absurd (whole_gap h)
passed Bad at minus b s e f h = absurd (fault_gap h)

pub gap_found : (at : ℕ) (minus : Bool) (b : ℕ) (s : List ℕ) (e : ℕ) → begins at minus (b ∷ s) ≡ Gap e
    → IsGap (take (e - at) (b ∷ s)) (drop (e - at) (b ∷ s))
gap_found at minus b s e h = passed (class_of b) at minus b s e (class_fits b) h
