-- Where spellings end.
use Rattle.std.proofs.Common.{◌≡◌, ℕ, zero, suc, ◌+◌, ◌-◌, ◌*◌, ◌<◌, ◌≤◌, Bool, true, false, ◌&&◌, ◌||◌, List, [], ◌∷◌, Option}
use Rattle.std.proofs.Common.{Some, None, length, take, drop, refl, subst, cond, arith, length-drop}
use Rattle.std.specs.Prelude.{◌==◌, nat_lt, nat_le, slice_get, option_and_then, unwrap_or}
use Rattle.std.specs.Option.{option_map_or}
use Rattle.op_token.specs.declared.character.Character.{Character}
use Rattle.op_token.specs.declared.escape.Escape.{Escape}
use Rattle.op_token.specs.declared.spelling.Spelling.{Spelling}
use Rattle.op_token.specs.declared.spelling.Spelling.TheVariants.{Gap, Whole, Fault}
use Rattle.op_token.specs.declared.token.TokenKind.{TokenKind}
use Rattle.op_token.specs.declared.token.TokenKind.TheVariants.{Name, QuotedName, Integer, Text, End}
use Rattle.op_token.specs.declared.token.TokenFaultKind.TheVariants.{BadChar, BadEscape, BadNumber, NumberRange}
use Rattle.op_token.specs.declared.class.Class.{Class}
use Rattle.op_token.specs.declared.class.Class.TheVariants.{Layout, Percent, Small, Capital, Digit, SingleQuote, DoubleQuote, Slash}
use Rattle.op_token.specs.declared.class.Class.TheVariants.{Dot, Symbol, Solo, Punctuation, Bad}
use Rattle.op_token.specs.declared.set.Set.{Set}
use Rattle.op_token.specs.declared.set.Set.TheVariants.{Word, Symbol as symbols, Decimal, Hexadecimal, Octal, Binary}
use Rattle.op_token.specs.Set.{has, run, begins_with}
use Rattle.op_token.specs.Character.{is_scalar, bits_of, continuation, checked, two, three, four, char_at}
use Rattle.op_token.specs.Class.{class_of, punctuation_of}
use Rattle.op_token.specs.Spelling.{fault, line_from, block_from, number_of, simple_escape, numbered, escape_at, quoted_from}
use Rattle.op_token.specs.Spelling.{ranged, least_magnitude, based, is_fraction, decimal, escaped_code_at, code_at, number_at}
use Rattle.op_token.specs.Spelling.{ends_clause, spelled, begins, EndsBy}

-- cases
pub if_either : {A : Type 0} (P : A → Type 0) (b : Bool) (x y : A) → (b ≡ true → P x) → (b ≡ false → P y) → P (cond b x y)
if_either P true x y f g = f refl
if_either P false x y f g = g refl

pub map_either : {A B : Type 0} (P : B → Type 0) (f : A → B) (o : Option A) (d : B) → ((a : A) → o ≡ Some a → P (f a))
    → (o ≡ None → P d) → P (option_map_or f o d)
map_either P f None d g h = h refl
map_either P f (Some a) d g h = g a refl

pub weaken : (l l' h h' : ℕ) (x : Spelling) → l' ≤ l → h ≤ h' → EndsBy l h x → EndsBy l' h' x
weaken l l' h h' (Gap end) p q e = (omega (arith, e.0), omega (arith, e.1))
weaken l l' h h' (Whole kind end) p q e = (omega (arith, e.0), omega (arith, e.1))
weaken l l' h h' (Fault f) p q e = tt

line_ends : (at inside : ℕ) (s : List ℕ) → EndsBy at (at + length s) (line_from at inside s)
line_ends at inside [] = (omega arith, omega arith)
line_ends at (suc n) (b ∷ s) =
    weaken (suc at) at (suc at + length s) (at + suc (length s)) (line_from (suc at) n s) (omega arith) (omega arith)
    (line_ends (suc at) n s)
line_ends at zero (b ∷ s) =
    if_either (EndsBy at (at + suc (length s))) (b == 10) (Gap (suc at))
    (option_map_or (λ c. line_from (suc at) c.more s) (char_at b s) (fault at BadChar))
    (λ e. (omega arith, omega arith))
    (λ e. map_either (EndsBy at (at + suc (length s))) (λ (c : Character). line_from (suc at) c.more s) (char_at b s) (fault at BadChar)
    (λ c e.
    weaken (suc at) at (suc at + length s) (at + suc (length s)) (line_from (suc at) c.more s) (omega arith) (omega arith)
    (line_ends (suc at) c.more s))
    (λ e. tt))

pub begins_length : (c : ℕ) (s : List ℕ) → begins_with c s ≡ true → 1 ≤ length s
begins_length c [] h = cc
begins_length c (b ∷ s) h = omega arith

pub and_left : (a b : Bool) → (a && b) ≡ true → a ≡ true
and_left true b h = refl
and_left false b h = cc

pub and_right : (a b : Bool) → (a && b) ≡ true → b ≡ true
and_right true b h = h
and_right false b h = cc

block_ends : (start at inside : ℕ) (s : List ℕ) → EndsBy at (at + length s) (block_from start at inside s)
block_ends start at inside [] = tt
block_ends start at (suc n) (b ∷ s) =
    weaken (suc at) at (suc at + length s) (at + suc (length s)) (block_from start (suc at) n s) (omega arith) (omega arith)
    (block_ends start (suc at) n s)
block_ends start at zero (b ∷ s) =
    if_either (EndsBy at (at + suc (length s))) (b == 42 && begins_with 47 s) (Gap (suc (suc at)))
    (option_map_or (λ c. block_from start (suc at) c.more s) (char_at b s) (fault at BadChar))
    (λ e. let l = begins_length 47 s (and_right (b == 42) (begins_with 47 s) e) in (omega arith, omega arith))
    (λ e.
    map_either (EndsBy at (at + suc (length s))) (λ (c : Character). block_from start (suc at) c.more s) (char_at b s)
    (fault at BadChar)
    (λ c e.
    weaken (suc at) at (suc at + length s) (at + suc (length s)) (block_from start (suc at) c.more s) (omega arith) (omega arith)
    (block_ends start (suc at) c.more s))
    (λ e. tt))

quoted_ends : (kind : TokenKind) (q start at inside : ℕ) (s : List ℕ) → EndsBy at (at + length s) (quoted_from kind q start at inside s)
quoted_ends kind q start at inside [] = tt
quoted_ends kind q start at (suc n) (b ∷ s) =
    weaken (suc at) at (suc at + length s) (at + suc (length s)) (quoted_from kind q start (suc at) n s) (omega arith) (omega arith)
    (quoted_ends kind q start (suc at) n s)
quoted_ends kind q start at zero (b ∷ s) =
    let P : Spelling → Type 0 = EndsBy at (at + suc (length s)) in
    let further : (n : ℕ) → P (quoted_from kind q start (suc at) n s) =
    λ n.
    weaken (suc at) at (suc at + length s) (at + suc (length s)) (quoted_from kind q start (suc at) n s) (omega arith)
    (omega arith) (quoted_ends kind q start (suc at) n s) in
    if_either P (b == 10) _ _ (λ e. tt)
    (λ e. if_either P (b == q) _ _
    (λ e. if_either P (begins_with q s) _ _ (λ e. further 1) (λ e. (omega arith, omega arith)))
    (λ e. if_either P (b == 92) _ _
    (λ e.
    map_either P (λ (x : Escape). quoted_from kind q start (suc at) x.len s) (escape_at s) (fault at BadEscape)
    (λ x e. further x.len) (λ e. tt))
    (λ e.
    map_either P (λ (c : Character). quoted_from kind q start (suc at) c.more s) (char_at b s) (fault at BadChar)
    (λ c e. further c.more) (λ e. tt))))

pub run_length : (set : Set) (s : List ℕ) → run set s ≤ length s
run_length set [] = omega arith
run_length set (b ∷ s) =
    if_either (λ n. n ≤ suc (length s)) (has set b) (suc (run set s)) 0 (λ e. let i = run_length set s in omega arith)
    (λ e. omega arith)

-- a character has its bytes
get_within : (s : List ℕ) (i x : ℕ) → slice_get s i ≡ Some x → i < length s
get_within [] i x h = cc
get_within (b ∷ s) zero x h = omega arith
get_within (b ∷ s) (suc i) x h = let j = get_within s i x h in omega arith

pub then_either : {A B : Type 0} (P : Option B → Type 0) (f : A → Option B) (o : Option A) → ((a : A) → o ≡ Some a → P (f a))
    → P None → P (option_and_then f o)
then_either P f None g h = h
then_either P f (Some a) g h = g a refl

continuation_within : (s : List ℕ) (i x : ℕ) → continuation s i ≡ Some x → i < length s
continuation_within s i x h = go (slice_get s i) h (λ y e. get_within s i y e)
  where
    go : (o : Option ℕ) → option_and_then bits_of o ≡ Some x → ((y : ℕ) → o ≡ Some y → i < length s) → i < length s
    go None h g = cc
    go (Some y) h g = g y refl

HasMore : ℕ → Option Character → Type 0
HasMore n None = Unit {0}
HasMore n (Some c) = c.more ≤ n

checked_more : (least c more n : ℕ) → more ≤ n → HasMore n (checked least c more)
unfolding HasMore
checked_more least c more n h =
    if_either (HasMore n) (nat_le least c && is_scalar c) (Some (record { code = c; more = more })) None (λ e. h) (λ e. tt)

char_more : (a : ℕ) (s : List ℕ) → HasMore (length s) (char_at a s)
unfolding HasMore
char_more a s =
    let P : Option Character → Type 0 = HasMore (length s) in
    if_either P (nat_lt a 128) (Some (record { code = a; more = 0 })) _ (λ e. omega arith)
    (λ e. if_either P (nat_lt a 192) None _ (λ e. tt)
    (λ e. if_either P (nat_lt a 224) (two a s) _
    (λ e.
    then_either P _ (continuation s 0)
    (λ x h. let l = continuation_within s 0 x h in checked_more 128 ((a - 192) * 64 + x) 1 (length s) (omega arith)) tt)
    (λ e. if_either P (nat_lt a 240) (three a s) _
    (λ e.
    then_either P _ (continuation s 0)
    (λ x h.
    then_either P _ (continuation s 1)
    (λ y i. let l = continuation_within s 1 y i in checked_more 2048 ((a - 224) * 4096 + x * 64 + y) 2 (length s) (omega arith))
    tt)
    tt)
    (λ e. if_either P (nat_lt a 248) (four a s) None
    (λ e.
    then_either P _ (continuation s 0)
    (λ x h.
    then_either P _ (continuation s 1)
    (λ y i.
    then_either P _ (continuation s 2)
    (λ z j.
    let l = continuation_within s 2 z j in
    checked_more 65536 ((a - 240) * 262144 + x * 4096 + y * 64 + z) 3 (length s) (omega arith))
    tt)
    tt)
    tt)
    (λ e. tt)))))

pub char_within : (a : ℕ) (s : List ℕ) (c : Character) → char_at a s ≡ Some c → c.more ≤ length s
unfolding HasMore
char_within a s c h = subst (HasMore (length s)) h (char_more a s)

-- an escape has its bytes
HasLen : ℕ → Option Escape → Type 0
HasLen n None = Unit {0}
HasLen n (Some x) = x.len ≤ n

numbered_len : (base : ℕ) (set : Set) (lead : ℕ) (s : List ℕ) → HasLen (lead + length s) (numbered base set lead s)
unfolding HasLen
numbered_len base set lead s =
    let code = number_of base (take (run set s) s) in
    if_either (HasLen (lead + length s)) (nat_lt 0 (run set s) && begins_with 92 (drop (run set s) s) && is_scalar code)
    (Some (record { code = Some code; len = lead + run set s + 1 })) None
    (λ e.
    let t =
    and_right (nat_lt 0 (run set s)) (begins_with 92 (drop (run set s) s))
    (and_left (nat_lt 0 (run set s) && begins_with 92 (drop (run set s) s)) (is_scalar code) e) in
    let l = begins_length 92 (drop (run set s) s) t in
    let m = length-drop (run set s) s in
    omega arith)
    (λ e. tt)

escape_len : (s : List ℕ) → HasLen (length s) (escape_at s)
unfolding HasLen
escape_len [] = tt
escape_len (b ∷ s) =
    let P : Option Escape → Type 0 = HasLen (suc (length s)) in
    map_either P (λ c. Some (record { code = Some c; len = 1 })) (simple_escape b) _ (λ c e. omega arith)
    (λ e. if_either P (b == 10) (Some (record { code = None; len = 1 })) _ (λ e. omega arith)
    (λ e. if_either P (b == 120) (numbered 16 Hexadecimal 1 s) _
    (λ e. subst (λ n. HasLen n (numbered 16 Hexadecimal 1 s)) (omega arith) (numbered_len 16 Hexadecimal 1 s))
    (λ e. if_either P (has Octal b) (numbered 8 Octal 0 (b ∷ s)) None
    (λ e. subst (λ n. HasLen n (numbered 8 Octal 0 (b ∷ s))) (omega arith) (numbered_len 8 Octal 0 (b ∷ s)))
    (λ e. tt))))

pub escape_within : (s : List ℕ) (x : Escape) → escape_at s ≡ Some x → x.len ≤ length s
unfolding HasLen
escape_within s x h = subst (HasLen (length s)) h (escape_len s)

-- an integer ends where its bytes do
ranged_ends : (low high at : ℕ) (minus : Bool) (magnitude end : ℕ) → low ≤ end → end ≤ high
    → EndsBy low high (ranged at minus magnitude end)
ranged_ends low high at minus magnitude end l h =
    if_either (EndsBy low high) (nat_lt magnitude least_magnitude || (minus && magnitude == least_magnitude))
    (Whole (Integer magnitude) end) (fault at NumberRange) (λ e. (l, h)) (λ e. tt)

based_ends : (base : ℕ) (set : Set) (at : ℕ) (minus : Bool) (s : List ℕ) → EndsBy (at + 1) (at + 2 + length s) (based base set at minus s)
based_ends base set at minus s =
    if_either (EndsBy (at + 1) (at + 2 + length s)) (run set s == 0) (fault at BadNumber) _ (λ e. tt)
    (λ e.
    let l = run_length set s in
    ranged_ends (at + 1) (at + 2 + length s) at minus (number_of base (take (run set s) s)) (at + 2 + run set s) (omega arith)
    (omega arith))

decimal_ends : (at : ℕ) (minus : Bool) (b : ℕ) (s : List ℕ) → has Decimal b ≡ true
    → EndsBy (at + 1) (at + length (b ∷ s)) (decimal at minus (b ∷ s))
decimal_ends at minus b s h =
    let one : run Decimal (b ∷ s) ≡ suc (run Decimal s) = rw h refl in
    if_either (EndsBy (at + 1) (at + suc (length s))) (is_fraction (drop (run Decimal (b ∷ s)) (b ∷ s))) (fault at BadNumber) _ (λ e. tt)
    (λ e.
    let l = run_length Decimal s in
    ranged_ends (at + 1) (at + suc (length s)) at minus (number_of 10 (take (run Decimal (b ∷ s)) (b ∷ s)))
    (at + run Decimal (b ∷ s)) (omega arith) (omega arith))

code_ends : (at : ℕ) (s : List ℕ) → EndsBy (at + 1) (at + 2 + length s) (code_at at s)
code_ends at [] = tt
code_ends at (b ∷ s) =
    let P : Spelling → Type 0 = EndsBy (at + 1) (at + 2 + suc (length s)) in
    if_either P (b == 92) (escaped_code_at at s) _
    (λ e. if_either P (begins_with 10 s) (fault at BadNumber) _ (λ e. tt)
    (λ e. map_either P (λ (x : Escape). Whole (Integer (unwrap_or x.code 0)) (at + 3 + x.len)) (escape_at s) (fault (at + 2) BadEscape)
    (λ x h. let l = escape_within s x h in (omega arith, omega arith)) (λ e. tt)))
    (λ e. if_either P (b == 39) _ _
    (λ e.
    if_either P (begins_with 39 s) (Whole (Integer 39) (at + 4)) (fault at BadNumber)
    (λ e. let l = begins_length 39 s e in (omega arith, omega arith)) (λ e. tt))
    (λ e. map_either P (λ (c : Character). Whole (Integer c.code) (at + 3 + c.more)) (char_at b s) (fault at BadNumber)
    (λ c h. let l = char_within b s c h in (omega arith, omega arith)) (λ e. tt)))

number_ends : (at : ℕ) (minus : Bool) (b : ℕ) (s : List ℕ) → has Decimal b ≡ true
    → EndsBy (at + 1) (at + length (b ∷ s)) (number_at at minus (b ∷ s))
number_ends at minus b s h =
    let P : Spelling → Type 0 = EndsBy (at + 1) (at + suc (length s)) in
    let front : (c : ℕ) → (b == 48 && begins_with c s) ≡ true → at + 2 + length (drop 1 s) ≡ at + suc (length s) =
    λ c e. let l = begins_length c s (and_right (b == 48) (begins_with c s) e) in let m = length-drop 1 s in omega arith in
    if_either P (b == 48 && begins_with 39 s) (code_at at (drop 1 s)) _
    (λ e. subst (λ n. EndsBy (at + 1) n (code_at at (drop 1 s))) (front 39 e) (code_ends at (drop 1 s)))
    (λ e.
    if_either P (b == 48 && begins_with 120 s) (based 16 Hexadecimal at minus (drop 1 s)) _
    (λ e.
    subst (λ n. EndsBy (at + 1) n (based 16 Hexadecimal at minus (drop 1 s))) (front 120 e)
    (based_ends 16 Hexadecimal at minus (drop 1 s)))
    (λ e.
    if_either P (b == 48 && begins_with 111 s) (based 8 Octal at minus (drop 1 s)) _
    (λ e. subst (λ n. EndsBy (at + 1) n (based 8 Octal at minus (drop 1 s))) (front 111 e) (based_ends 8 Octal at minus (drop 1 s)))
    (λ e.
    if_either P (b == 48 && begins_with 98 s) (based 2 Binary at minus (drop 1 s)) _
    (λ e. subst (λ n. EndsBy (at + 1) n (based 2 Binary at minus (drop 1 s))) (front 98 e) (based_ends 2 Binary at minus (drop 1 s)))
    (λ e. decimal_ends at minus b s h))))

-- what begins at a place ends behind its first byte
digit_class : (b : ℕ) → class_of b ≡ Digit → has Decimal b ≡ true
digit_class b =
    let P : Class → Type 0 = λ c. c ≡ Digit → has Decimal b ≡ true in
    if_either P (b == 32 || (nat_le 9 b && nat_le b 13)) Layout _ (λ e h. cc)
    (λ e. if_either P (b == 37) Percent _ (λ e h. cc)
    (λ e. if_either P (nat_le 97 b && nat_le b 122) Small _ (λ e h. cc)
    (λ e. if_either P ((nat_le 65 b && nat_le b 90) || b == 95) Capital _ (λ e h. cc)
    (λ e. if_either P (nat_le 48 b && nat_le b 57) Digit _ (λ e h. e)
    (λ e. if_either P (b == 39) SingleQuote _ (λ e h. cc)
    (λ e. if_either P (b == 34) DoubleQuote _ (λ e h. cc)
    (λ e. if_either P (b == 47) Slash _ (λ e h. cc)
    (λ e. if_either P (b == 46) Dot _ (λ e h. cc)
    (λ e. if_either P (has symbols b) Symbol _ (λ e h. cc)
    (λ e. if_either P (b == 33 || b == 59) Solo (punctuation_of b) (λ e h. cc) (λ e. punctuation_class b)))))))))))
  where
    punctuation_class : (b : ℕ) → punctuation_of b ≡ Digit → has Decimal b ≡ true
    punctuation_class b =
        let P : Class → Type 0 = λ c. c ≡ Digit → has Decimal b ≡ true in
        if_either P (b == 40) _ _ (λ e h. cc)
        (λ e. if_either P (b == 41) _ _ (λ e h. cc)
        (λ e. if_either P (b == 91) _ _ (λ e h. cc)
        (λ e. if_either P (b == 93) _ _ (λ e h. cc)
        (λ e. if_either P (b == 123) _ _ (λ e h. cc)
        (λ e. if_either P (b == 125) _ _ (λ e h. cc)
        (λ e. if_either P (b == 44) _ _ (λ e h. cc)
        (λ e. if_either P (b == 124) _ _ (λ e h. cc) (λ e h. cc))))))))

spelled_ends : (k : Class) (at : ℕ) (minus : Bool) (b : ℕ) (s : List ℕ) → (k ≡ Digit → has Decimal b ≡ true)
    → EndsBy (at + 1) (at + suc (length s)) (spelled k at minus b s)
spelled_ends Layout at minus b s h = (omega arith, omega arith)
spelled_ends Percent at minus b s h =
    weaken (at + 1) (at + 1) (at + 1 + length s) (at + suc (length s)) (line_from (at + 1) 0 s) (omega arith) (omega arith)
    (line_ends (at + 1) 0 s)
spelled_ends Small at minus b s h = let l = run_length Word s in (omega arith, omega arith)
spelled_ends Capital at minus b s h = let l = run_length Word s in (omega arith, omega arith)
spelled_ends Digit at minus b s h = number_ends at minus b s (h refl)
spelled_ends SingleQuote at minus b s h =
    weaken (at + 1) (at + 1) (at + 1 + length s) (at + suc (length s)) (quoted_from QuotedName 39 at (at + 1) 0 s) (omega arith)
    (omega arith) (quoted_ends QuotedName 39 at (at + 1) 0 s)
spelled_ends DoubleQuote at minus b s h =
    weaken (at + 1) (at + 1) (at + 1 + length s) (at + suc (length s)) (quoted_from Text 34 at (at + 1) 0 s) (omega arith)
    (omega arith) (quoted_ends Text 34 at (at + 1) 0 s)
spelled_ends Slash at minus b s h =
    if_either (EndsBy (at + 1) (at + suc (length s))) (begins_with 42 s) (block_from at (at + 2) 0 (drop 1 s))
    (Whole Name (at + 1 + run symbols s))
    (λ e.
    let l = begins_length 42 s e in
    let m = length-drop 1 s in
    weaken (at + 2) (at + 1) (at + 2 + length (drop 1 s)) (at + suc (length s)) (block_from at (at + 2) 0 (drop 1 s)) (omega arith)
    (omega arith) (block_ends at (at + 2) 0 (drop 1 s)))
    (λ e. let l = run_length symbols s in (omega arith, omega arith))
spelled_ends Dot at minus b s h =
    if_either (EndsBy (at + 1) (at + suc (length s))) (run symbols s == 0 && ends_clause s) (Whole End (at + 1))
    (Whole Name (at + 1 + run symbols s))
    (λ e. (omega arith, omega arith)) (λ e. let l = run_length symbols s in (omega arith, omega arith))
spelled_ends Symbol at minus b s h = let l = run_length symbols s in (omega arith, omega arith)
spelled_ends Solo at minus b s h = (omega arith, omega arith)
spelled_ends (Punctuation kind) at minus b s h = (omega arith, omega arith)
spelled_ends Bad at minus b s h = tt

pub begins_ends : (at : ℕ) (minus : Bool) (b : ℕ) (s : List ℕ) → EndsBy (at + 1) (at + suc (length s)) (begins at minus (b ∷ s))
begins_ends at minus b s = spelled_ends (class_of b) at minus b s (digit_class b)

-- a token and a gap end among the bytes
pub token_ends : (at : ℕ) (minus : Bool) (s : List ℕ) (kind : TokenKind) (end : ℕ) → begins at minus s ≡ Whole kind end
    → (at < end) × (end ≤ at + length s)
token_ends at minus [] kind end h = cc
token_ends at minus (b ∷ s) kind end h =
    let w : EndsBy (at + 1) (at + suc (length s)) (Whole kind end) =
    subst (EndsBy (at + 1) (at + suc (length s))) h (begins_ends at minus b s) in
    (omega (arith, w.0), w.1)

pub gap_ends : (at : ℕ) (minus : Bool) (b : ℕ) (s : List ℕ) (end : ℕ) → begins at minus (b ∷ s) ≡ Gap end
    → (at < end) × (end ≤ at + length (b ∷ s))
gap_ends at minus b s end h =
    let w : EndsBy (at + 1) (at + suc (length s)) (Gap end) =
    subst (EndsBy (at + 1) (at + suc (length s))) h (begins_ends at minus b s) in
    (omega (arith, w.0), w.1)
