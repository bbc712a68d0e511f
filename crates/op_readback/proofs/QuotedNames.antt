-- A name in quotes is read as that name.
use Rattle.std.proofs.Common.{◌≡◌, ◌<◌, ◌≤◌, ◌-◌, ◌+◌, ◌*◌, ◌/◌, ◌%◌, ℕ, suc, Bool, true, false, cond, ◌||◌, ◌&&◌, List, [], ◌∷◌, ◌++◌}
use Rattle.std.proofs.Common.{Option, Some, None, length, take, drop, refl, sym, ◌∙◌, ap, subst, arith, leb, ltb, ◌==◌, length-append}
use Rattle.std.specs.Prelude.{codes, nat_lt, nat_le}
use Rattle.std.specs.Option.{option_map_or}
use Rattle.std.specs.List.{flat_map}
use Rattle.std.proofs.lemmas.Bool.{ltb-true, ltb-false, lt-ltb, le-leb, lt-leb, le-ltb, eqb-true}
use Rattle.std.proofs.lemmas.List.{append_assoc}
use lib.Utf8.{encode, encodes, scalar, scalars}
use Rattle.op_logic.proofs.BoolCases.{by_test, by_order, if_true, if_false}
use Rattle.op_token.specs.declared.token.TokenKind.TheVariants.{QuotedName}
use Rattle.op_token.specs.declared.token.TokenFaultKind.TheVariants.{BadEscape, BadChar}
use Rattle.op_token.specs.declared.spelling.Spelling.{Spelling}
use Rattle.op_token.specs.declared.spelling.Spelling.TheVariants.{Whole}
use Rattle.op_token.specs.declared.character.Character.{Character}
use Rattle.op_token.proofs.Utf8Characters.{char_reads}
use Rattle.std.specs.Char.{IsScalar}
use Rattle.op_token.specs.declared.set.Set.TheVariants.{Hexadecimal}
use Rattle.op_token.specs.declared.escape.Escape.{Escape}
use Rattle.op_token.specs.Set.{has, run, begins_with}
use Rattle.op_token.specs.Character.{char_at, first_char, is_scalar}
use Rattle.op_token.specs.Spelling.{digit_value, number_of, numbered, escape_at, quoted_from, fault}
use Rattle.op_token.specs.Tokens.{escaped as unescaped, text_from}
use Rattle.op_writer.specs.Spelling.{is_control, digit, hexadecimal, escaped}

-- the digits of an escape
digit-value : (d : ℕ) → d < 16 → digit_value (digit d) ≡ d
digit-value d h = by_test (nat_lt d 10)
    (λ e. let l = ltb-true d 10 e in
    ap digit_value (if_true (nat_lt d 10) (48 + d) (87 + d) e)
    ∙ (if_true (leb (48 + d) 57) _ _ (le-leb (48 + d) 57 (omega (arith, l))) ∙ (let q : 48 + d - 48 ≡ d = omega arith in q)))
    (λ e. let l = ltb-false d 10 e in
    ap digit_value (if_false (nat_lt d 10) (48 + d) (87 + d) e)
    ∙ (if_false (leb (87 + d) 57) _ _ (lt-leb (87 + d) 57 (omega (arith, l)))
    ∙ (if_false (leb (87 + d) 90) _ _ (lt-leb (87 + d) 90 (omega (arith, l))) ∙ (let q : 87 + d - 87 ≡ d = omega arith in q))))

or-first : (a b : Bool) → a ≡ true → (a || b) ≡ true
or-first true b h = refl
or-first false b h = absurd (let e : false ≡ true = h in cc)

or-second : (a b : Bool) → b ≡ true → (a || b) ≡ true
or-second true b h = refl
or-second false b h = h

and-both : (a b : Bool) → a ≡ true → b ≡ true → (a && b) ≡ true
and-both true b h g = g
and-both false b h g = absurd (let e : false ≡ true = h in cc)

digit-is : (d : ℕ) → d < 16 → has Hexadecimal (digit d) ≡ true
digit-is d h = by_test (nat_lt d 10)
    (λ e. let l = ltb-true d 10 e in
    ap (has Hexadecimal) (if_true (nat_lt d 10) (48 + d) (87 + d) e)
    ∙ or-first _ _ (or-first _ _ (and-both _ _ (le-leb 48 (48 + d) (omega arith)) (le-leb (48 + d) 57 (omega (arith, l))))))
    (λ e. let l = ltb-false d 10 e in
    ap (has Hexadecimal) (if_false (nat_lt d 10) (48 + d) (87 + d) e)
    ∙ or-first _ _ (or-second _ _ (and-both _ _ (le-leb 97 (87 + d) (omega (arith, l))) (le-leb (87 + d) 102 (omega (arith, h))))))

-- the escape that digits of a scalar value and a backslash are
abbrev escape-of : List ℕ → ℕ → Option Escape
escape-of s n =
    cond (nat_lt 0 n && begins_with 92 (drop n s) && is_scalar (number_of 16 (take n s)))
    (Some (record { code = Some (number_of 16 (take n s)); len = 1 + n + 1 })) None

numbered-is : (s : List ℕ) (n c : ℕ) → run Hexadecimal s ≡ n → nat_lt 0 n ≡ true → begins_with 92 (drop n s) ≡ true
    → number_of 16 (take n s) ≡ c → is_scalar c ≡ true
    → numbered 16 Hexadecimal 1 s ≡ Some (record { code = Some c; len = 1 + n + 1 })
numbered-is s n c r some stop value scalar =
    ap (escape-of s) r
    ∙ (if_true _ _ _ (and-both _ _ (and-both _ _ some stop) (ap is_scalar value ∙ scalar))
    ∙ ap (λ (x : ℕ). Some (record { code = Some x; len = 1 + n + 1 })) value)

small-scalar : (c : ℕ) → c < 160 → is_scalar c ≡ true
small-scalar c h = or-first _ _ (lt-ltb c 0xd800 (omega (arith, h)))

hexadecimal-escape : (c : ℕ) → c < 160 → (more : List ℕ) → numbered 16 Hexadecimal 1 (hexadecimal c ++ 92 ∷ more)
    ≡ Some (record { code = Some c; len = 1 + length (hexadecimal c) + 1 })
hexadecimal-escape c h more = by_test (nat_lt c 16) short long
  where
    short : nat_lt c 16 ≡ true → numbered 16 Hexadecimal 1 (hexadecimal c ++ 92 ∷ more)
        ≡ Some (record { code = Some c; len = 1 + length (hexadecimal c) + 1 })
    short e =
        let l = ltb-true c 16 e in
        let d = digit c in
        let is : hexadecimal c ≡ d ∷ [] = if_true (nat_lt c 16) (d ∷ []) (digit (c / 16) ∷ digit (c % 16) ∷ []) e in
        let s : List ℕ = d ∷ 92 ∷ more in
        let r : run Hexadecimal s ≡ 1 = if_true (has Hexadecimal d) (suc (run Hexadecimal (92 ∷ more))) 0 (digit-is c l) in
        let v : number_of 16 (d ∷ []) ≡ c = (let w : digit_value d ≡ c = digit-value c l in let u : number_of 16 (d ∷ [])
        ≡ 0 * 16 + digit_value d = refl in omega (arith, w, u)) in
        subst (λ (x : List ℕ). numbered 16 Hexadecimal 1 (x ++ 92 ∷ more) ≡ Some (record { code = Some c; len = 1 + length x + 1 }))
        (sym is)
        (numbered-is s 1 c r refl refl v (small-scalar c h))

    long : nat_lt c 16 ≡ false → numbered 16 Hexadecimal 1 (hexadecimal c ++ 92 ∷ more)
        ≡ Some (record { code = Some c; len = 1 + length (hexadecimal c) + 1 })
    long e =
        let a = digit (c / 16) in
        let b = digit (c % 16) in
        let la : c / 16 < 16 = omega (arith, h) in
        let lb : c % 16 < 16 = omega arith in
        let is : hexadecimal c ≡ a ∷ b ∷ [] = if_false (nat_lt c 16) (digit c ∷ []) (a ∷ b ∷ []) e in
        let s : List ℕ = a ∷ b ∷ 92 ∷ more in
        let r2 : run Hexadecimal (b ∷ 92 ∷ more) ≡ 1 = if_true (has Hexadecimal b) (suc (run Hexadecimal (92 ∷ more))) 0
        (digit-is (c % 16) lb) in
        let r : run Hexadecimal s ≡ 2 = if_true (has Hexadecimal a) (suc (run Hexadecimal (b ∷ 92 ∷ more))) 0 (digit-is (c / 16) la)
        ∙ ap suc r2 in
        let v : number_of 16 (a ∷ b ∷ []) ≡ c = (let wa : digit_value a ≡ c / 16 = digit-value (c / 16) la in let wb : digit_value b
        ≡ c % 16 = digit-value (c % 16) lb in
        let u : number_of 16 (a ∷ b ∷ []) ≡ (0 * 16 + digit_value a) * 16 + digit_value b = refl in omega (arith, wa, wb, u)) in
        subst (λ (x : List ℕ). numbered 16 Hexadecimal 1 (x ++ 92 ∷ more) ≡ Some (record { code = Some c; len = 1 + length x + 1 }))
        (sym is)
        (numbered-is s 2 c r refl refl v (small-scalar c h))

-- quoted text at a place, and what it stands for
abbrev Q : ℕ → ℕ → List ℕ → Spelling
Q start at s = quoted_from QuotedName 39 start at 0 s

abbrev T : List ℕ → List ℕ
T s = text_from 39 0 s

-- bytes that belong to a character or an escape are passed
skipped : (start at : ℕ) (xs s : List ℕ) → quoted_from QuotedName 39 start at (length xs) (xs ++ s) ≡ Q start (at + length xs) s
skipped start at [] s = ap (λ (n : ℕ). Q start n s) (let e : at ≡ at + 0 = omega arith in e)
skipped start at (x ∷ xs) s =
    skipped start (suc at) xs s ∙ ap (λ (n : ℕ). Q start n s) (let e : suc at + length xs ≡ at + length (x ∷ xs) = omega arith in e)

passed : (xs s : List ℕ) → text_from 39 (length xs) (xs ++ s) ≡ T s
passed [] s = refl
passed (x ∷ xs) s = passed xs s

-- an escape
escape-quoted : (start at c : ℕ) (xs s : List ℕ) (n : ℕ) → n ≡ length xs → escape_at (xs ++ s) ≡ Some (record { code = Some c; len = n })
    → Q start at (92 ∷ (xs ++ s)) ≡ Q start (at + suc (length xs)) s
escape-quoted start at c xs s n size e =
    ap (λ (o : Option Escape). option_map_or (λ x. quoted_from QuotedName 39 start (suc at) x.len (xs ++ s)) o (fault at BadEscape)) e
    ∙ (ap (λ (k : ℕ). quoted_from QuotedName 39 start (suc at) k (xs ++ s)) size
    ∙ (skipped start (suc at) xs s ∙ ap (λ (k : ℕ). Q start k s) (let q : suc at + length xs ≡ at + suc (length xs) = omega arith in q)))

escape-text : (c : ℕ) (xs s : List ℕ) (n : ℕ) → n ≡ length xs → escape_at (xs ++ s) ≡ Some (record { code = Some c; len = n })
    → T (92 ∷ (xs ++ s)) ≡ encode c ++ T s
escape-text c xs s n size e =
    ap (λ (o : Option Escape). option_map_or (λ x. unescaped x.code ++ text_from 39 x.len (xs ++ s)) o (T (xs ++ s))) e
    ∙ (ap (λ (k : ℕ). encode c ++ text_from 39 k (xs ++ s)) size ∙ ap (λ (x : List ℕ). encode c ++ x) (passed xs s))

-- the bytes of a character that is written as it is
abbrev AllHigh : List ℕ → Type 0
AllHigh [] = Unit {0}
AllHigh (b ∷ bs) = (128 ≤ b) × AllHigh bs

abbrev IsNot : ℕ → ℕ → Type 0
IsNot a b = (a == b) ≡ false

record Encoded (c : ℕ) : Type 0 where
  first : ℕ
  more : List ℕ
  bytes : encode c ≡ first ∷ more
  no-newline : IsNot first 10
  no-quote : IsNot first 39
  no-backslash : IsNot first 92
  high : AllHigh more

above : (a b : ℕ) → b < a → IsNot a b
above a b h = by_test (a == b) (λ e. absurd (let q = eqb-true a b e in omega (arith, h, q))) (λ e. e)

encoded : (c : ℕ) → IsNot c 10 → IsNot c 39 → IsNot c 92 → Encoded c
unfolding encode
encoded c n q b = by_order c 128
    (λ l. record {
      first = c;
      more = [];
      bytes = if_true (ltb c 128) _ _
          (lt-ltb c 128 l);
      no-newline = n;
      no-quote = q;
      no-backslash = b;
      high = tt;
    })
    (λ l1. by_order c 2048
    (λ l. record {
      first = 192 + c / 64;
      more = (128 + c % 64) ∷ [];
      bytes = if_false (ltb c 128) _ _ (le-ltb c 128 l1) ∙ if_true (ltb c 2048) _ _ (lt-ltb c 2048 l);
      no-newline = above (192 + c / 64) 10 (omega arith);
      no-quote = above (192 + c / 64) 39 (omega arith);
      no-backslash = above (192 + c / 64) 92 (omega arith);
      high = (omega arith, tt);
    })
    (λ l2. by_order c 65536
    (λ l. record {
      first = 224 + c / 4096;
      more = (128 + (c / 64) % 64) ∷ (128 + c % 64) ∷ [];
      bytes = if_false (ltb c 128) _ _ (le-ltb c 128 l1) ∙ (if_false (ltb c 2048) _ _ (le-ltb c 2048 l2)
          ∙ if_true (ltb c 65536) _ _ (lt-ltb c 65536 l));
      no-newline = above (224 + c / 4096) 10 (omega arith);
      no-quote = above (224 + c / 4096) 39 (omega arith);
      no-backslash = above (224 + c / 4096) 92 (omega arith);
      high = (omega arith, (omega arith, tt));
    })
    (λ l3. record {
      first = 240 + c / 262144;
      more = (128 + (c / 4096) % 64) ∷ (128 + (c / 64) % 64) ∷ (128 + c % 64) ∷ [];
      bytes = if_false (ltb c 128) _ _ (le-ltb c 128 l1) ∙ (if_false (ltb c 2048) _ _ (le-ltb c 2048 l2)
          ∙ if_false (ltb c 65536) _ _ (le-ltb c 65536 l3));
      no-newline = above (240 + c / 262144) 10 (omega arith);
      no-quote = above (240 + c / 262144) 39 (omega arith);
      no-backslash = above (240 + c / 262144) 92 (omega arith);
      high = (omega arith, (omega arith, (omega arith, tt)));
    })))

high-text : (xs s : List ℕ) → AllHigh xs → T (xs ++ s) ≡ xs ++ T s
high-text [] s h = refl
high-text (b ∷ bs) s h =
    if_false (b == 39) _ _ (above b 39 (omega (arith, h.0)))
    ∙ (if_false (b == 92) _ _ (above b 92 (omega (arith, h.0))) ∙ ap (λ (x : List ℕ). b ∷ x) (high-text bs s h.1))

as-it-is-quoted : (c start at : ℕ) (s : List ℕ) → IsScalar c → Encoded c → Q start at (encode c ++ s) ≡ Q start (at + length (encode c)) s
as-it-is-quoted c start at s k e =
    let a = e.first in
    let bs = e.more in
    let read : first_char (encode c ++ s) ≡ Some (record { code = c; more = length (encode c) - 1 }) = char_reads c s k in
    let size : length (encode c) ≡ suc (length bs) = ap length e.bytes in
    let char : char_at a (bs ++ s) ≡ Some (record { code = c; more = length bs }) =
    sym (ap (λ (x : List ℕ). first_char (x ++ s)) e.bytes)
    ∙ (read ∙ ap (λ (n : ℕ). Some (record { code = c; more = n })) (let q : length (encode c) - 1
    ≡ length bs = omega (arith, size) in q)) in
    ap (λ (x : List ℕ). Q start at (x ++ s)) e.bytes
    ∙ (if_false (a == 10) _ _ e.no-newline ∙ (if_false (a == 39) _ _ e.no-quote ∙ (if_false (a == 92) _ _ e.no-backslash
    ∙ (ap (λ (o : Option Character). option_map_or (λ x. quoted_from QuotedName 39 start (suc at) x.more (bs ++ s))
    o (fault at BadChar)) char
    ∙ (skipped start (suc at) bs s ∙ ap (λ (n : ℕ). Q start n s) (let q : suc at + length bs
    ≡ at + length (encode c) = omega (arith, size) in q))))))

as-it-is-text : (c : ℕ) (s : List ℕ) → Encoded c → T (encode c ++ s) ≡ encode c ++ T s
as-it-is-text c s e =
    let a = e.first in
    let bs = e.more in
    ap (λ (x : List ℕ). T (x ++ s)) e.bytes
    ∙ (if_false (a == 39) _ _ e.no-quote ∙ (if_false (a == 92) _ _ e.no-backslash
    ∙ (ap (λ (x : List ℕ). a ∷ x) (high-text bs s e.high) ∙ ap (λ (x : List ℕ). x ++ T s) (sym e.bytes))))

pub and-parts : (a b : Bool) → (a && b) ≡ true → (a ≡ true) × (b ≡ true)
and-parts true b h = (refl, h)
and-parts false b h = absurd (let e : false ≡ true = h in cc)

-- the six ways to write a character
by-way : (P : List ℕ → Type 0) (c : ℕ) → (c ≡ 10 → P (codes "\\n")) → (c ≡ 9 → P (codes "\\t")) → (c ≡ 92 → P (codes "\\\\"))
    → (c ≡ 39 → P (codes "\\'"))
    → (c < 160 → P (codes "\\x" ++ hexadecimal c ++ codes "\\")) → (IsNot c 10 → IsNot c 39 → IsNot c 92 → P (encode c)) → P (escaped c)
by-way P c f1 f2 f3 f4 f5 f6 =
    by_test (c == 10)
    (λ e. subst P (sym (if_true (c == 10) _ _ e)) (f1 (eqb-true c 10 e)))
    (λ e1. subst P (sym (if_false (c == 10) _ _ e1)) (by_test (c == 9)
    (λ e. subst P (sym (if_true (c == 9) _ _ e)) (f2 (eqb-true c 9 e)))
    (λ e2. subst P (sym (if_false (c == 9) _ _ e2)) (by_test (c == 92)
    (λ e. subst P (sym (if_true (c == 92) _ _ e)) (f3 (eqb-true c 92 e)))
    (λ e3. subst P (sym (if_false (c == 92) _ _ e3)) (by_test (c == 39)
    (λ e. subst P (sym (if_true (c == 39) _ _ e)) (f4 (eqb-true c 39 e)))
    (λ e4. subst P (sym (if_false (c == 39) _ _ e4)) (by_test (is_control c)
    (λ e. subst P (sym (if_true (is_control c) _ _ e)) (f5 (control-below c e)))
    (λ e5. subst P (sym (if_false (is_control c) _ _ e5)) (f6 e1 e4 e3))))))))))
  where
    control-below : (c : ℕ) → is_control c ≡ true → c < 160
    control-below c e = by_test (nat_lt c 32)
        (λ h. omega (arith, ltb-true c 32 h))
        (λ h. let k : (nat_le 127 c && nat_lt c 160) ≡ true = sym (ap (λ (b : Bool). b || (nat_le 127 c && nat_lt c 160)) h)
        ∙ e in ltb-true c 160 (and-parts (nat_le 127 c) (nat_lt c 160) k).1)

-- a number in an escape
control-escape : (c : ℕ) (s : List ℕ) → c < 160
    → escape_at ((120 ∷ (hexadecimal c ++ 92 ∷ [])) ++ s) ≡ Some (record { code = Some c; len = 1 + length (hexadecimal c) + 1 })
control-escape c s h =
    ap (λ (x : List ℕ). numbered 16 Hexadecimal 1 x) (append_assoc (hexadecimal c) (92 ∷ []) s) ∙ hexadecimal-escape c h s

control-size : (c : ℕ) → 1 + length (hexadecimal c) + 1 ≡ length (120 ∷ (hexadecimal c ++ 92 ∷ []))
control-size c = let e = length-append (hexadecimal c) (92 ∷ []) in omega (arith, e)

quoted-char : (c start at : ℕ) (s : List ℕ) → IsScalar c → Q start at (escaped c ++ s) ≡ Q start (at + length (escaped c)) s
quoted-char c start at s k = by-way (λ x. Q start at (x ++ s) ≡ Q start (at + length x) s) c
    (λ e. escape-quoted start at 10 (110 ∷ []) s 1 refl refl)
    (λ e. escape-quoted start at 9 (116 ∷ []) s 1 refl refl)
    (λ e. escape-quoted start at 92 (92 ∷ []) s 1 refl refl)
    (λ e. escape-quoted start at 39 (39 ∷ []) s 1 refl refl)
    (λ h. escape-quoted start at c (120 ∷ (hexadecimal c ++ 92 ∷ [])) s (1 + length (hexadecimal c) + 1)
    (control-size c) (control-escape c s h))
    (λ n q b. as-it-is-quoted c start at s k (encoded c n q b))

text-char : (c : ℕ) (s : List ℕ) → T (escaped c ++ s) ≡ encode c ++ T s
text-char c s = by-way (λ x. T (x ++ s) ≡ encode c ++ T s) c
    (λ e. escape-text 10 (110 ∷ []) s 1 refl refl ∙ ap (λ (x : ℕ). encode x ++ T s) (sym e))
    (λ e. escape-text 9 (116 ∷ []) s 1 refl refl ∙ ap (λ (x : ℕ). encode x ++ T s) (sym e))
    (λ e. escape-text 92 (92 ∷ []) s 1 refl refl ∙ ap (λ (x : ℕ). encode x ++ T s) (sym e))
    (λ e. escape-text 39 (39 ∷ []) s 1 refl refl ∙ ap (λ (x : ℕ). encode x ++ T s) (sym e))
    (λ h. escape-text c (120 ∷ (hexadecimal c ++ 92 ∷ [])) s (1 + length (hexadecimal c) + 1) (control-size c) (control-escape c s h))
    (λ n q b. as-it-is-text c s (encoded c n q b))

-- the whole of a quoted name, before bytes that don't go on with a quote
pub quoted-chars : (cs : List ℕ) (start at : ℕ) (rest : List ℕ) → scalars cs ≡ true → begins_with 39 rest ≡ false
    → Q start at (flat_map escaped cs ++ 39 ∷ rest) ≡ Whole QuotedName (at + length (flat_map escaped cs) + 1)
quoted-chars [] start at rest k stop =
    if_false (begins_with 39 rest) (quoted_from QuotedName 39 start (suc at) 1 rest) (Whole QuotedName (suc at)) stop
    ∙ ap (λ (n : ℕ). Whole QuotedName n) (let e : suc at ≡ at + 0 + 1 = omega arith in e)
quoted-chars (c ∷ cs) start at rest k stop =
    let both = and-parts (scalar c) (scalars cs) k in
    let more = flat_map escaped cs in
    ap (Q start at) (append_assoc (escaped c) more (39 ∷ rest))
    ∙ (quoted-char c start at (more ++ 39 ∷ rest) both.0
    ∙ (quoted-chars cs start (at + length (escaped c)) rest both.1 stop
    ∙ ap (λ (n : ℕ). Whole QuotedName n) (let e = length-append (escaped c) more in let q : at + length (escaped c) + length more + 1
    ≡ at + length (escaped c ++ more) + 1 = omega (arith, e) in q)))

pub text-chars : (cs : List ℕ) (rest : List ℕ) → begins_with 39 rest ≡ false → T (flat_map escaped cs ++ 39 ∷ rest) ≡ encodes cs
text-chars [] rest stop = if_false (begins_with 39 rest) (39 ∷ text_from 39 1 rest) [] stop
text-chars (c ∷ cs) rest stop =
    let more = flat_map escaped cs in
    ap T (append_assoc (escaped c) more (39 ∷ rest)) ∙ (text-char c (more ++ 39 ∷ rest)
    ∙ ap (λ (x : List ℕ). encode c ++ x) (text-chars cs rest stop))
