-- A token is the longest at its place.
use Rattle.std.proofs.Common.{◌≡◌, ℕ, zero, suc, ◌+◌, ◌<◌, ◌≤◌, Bool, true, false, ◌&&◌, ◌||◌, List, [], ◌∷◌, Option, Some, None}
use Rattle.std.proofs.Common.{length, take, drop, refl, ap, sym, ◌∙◌, subst, cond, arith}
use Rattle.std.specs.Prelude.{◌==◌, nat_lt, if◌then◌else◌, unwrap_or}
use Rattle.std.specs.Option.{option_map_or}
use Rattle.op_token.specs.declared.character.Character.{Character}
use Rattle.op_token.specs.declared.escape.Escape.{Escape}
use Rattle.op_token.specs.declared.class.Class.{Class}
use Rattle.op_token.specs.declared.class.Class.TheVariants.{Layout, Percent, Small, Capital, Digit, SingleQuote, DoubleQuote, Slash}
use Rattle.op_token.specs.declared.class.Class.TheVariants.{Dot, Symbol, Solo, Punctuation, Bad}
use Rattle.op_token.specs.declared.set.Set.{Set}
use Rattle.op_token.specs.declared.set.Set.TheVariants.{Word, Symbol as symbols, Decimal, Hexadecimal, Octal, Binary}
use Rattle.op_token.specs.declared.spelling.Spelling.{Spelling}
use Rattle.op_token.specs.declared.spelling.Spelling.TheVariants.{Gap, Whole, Fault}
use Rattle.op_token.specs.declared.token.TokenKind.{TokenKind}
use Rattle.op_token.specs.declared.token.TokenKind.TheVariants.{Name, QuotedName, Variable, Integer, Text, End}
use Rattle.op_token.specs.declared.token.TokenFaultKind.TheVariants.{BadChar, OpenQuote, BadEscape, BadNumber, NumberRange}
use Rattle.op_token.specs.Set.{run, begins_with}
use Rattle.op_token.specs.Character.{char_at}
use Rattle.op_token.specs.Class.{class_of}
use Rattle.op_token.specs.Spelling.{fault, number_of, escape_at, quoted_from, ranged, least_magnitude, based, is_fraction, decimal}
use Rattle.op_token.specs.Spelling.{escaped_code_at, code_at, number_at, ends_clause, dot_at, line_from, block_from, spelled, begins}
use Rattle.op_token.specs.Spelling.{EndsBy}
use Rattle.std.proofs.lemmas.Bool.{eqb-true}
use Rattle.op_token.proofs.SpellingEnds.{if_either, map_either, and_left, begins_ends}
use Rattle.op_token.proofs.TextPrefixes.{run_take, front_take, take_less, drop_one_take, escape_take, char_take}

-- a token ends behind a place
abbrev pub Reaches : ℕ → Spelling → Type 0
Reaches low (Whole kind end) = low ≤ end
Reaches low x = Unit {0}

reaches_less : (l k : ℕ) (x : Spelling) → l ≤ k → Reaches k x → Reaches l x
reaches_less l k (Whole kind end) h r = omega (arith, r)
reaches_less l k (Gap end) h r = tt
reaches_less l k (Fault f) h r = tt

quoted_reaches : (kind : TokenKind) (q start at inside : ℕ) (s : List ℕ)
    → Reaches (at + inside + 1) (quoted_from kind q start at inside s)
quoted_reaches kind q start at inside [] = tt
quoted_reaches kind q start at (suc n) (b ∷ s) = reaches_less (at + suc n + 1) (suc at + n + 1)
    (quoted_from kind q start (suc at) n s) (omega arith) (quoted_reaches kind q start (suc at) n s)
quoted_reaches kind q start at zero (b ∷ s) =
    let P : Spelling → Type 0 = Reaches (at + 0 + 1) in
    let on : (n : ℕ) → P (quoted_from kind q start (suc at) n s) = λ n. reaches_less (at + 0 + 1) (suc at + n + 1)
    (quoted_from kind q start (suc at) n s) (omega arith) (quoted_reaches kind q start (suc at) n s) in
    if_either P (b == 10) _ _ (λ e. tt)
    (λ e. if_either P (b == q) _ _
    (λ e. if_either P (begins_with q s) _ _ (λ e. on 1) (λ e. omega arith))
    (λ e. if_either P (b == 92) _ _
    (λ e. map_either P (λ (x : Escape). quoted_from kind q start (suc at) x.len s) (escape_at s) (fault at BadEscape)
    (λ x e. on x.len) (λ e. tt))
    (λ e. map_either P (λ (c : Character). quoted_from kind q start (suc at) c.more s) (char_at b s) (fault at BadChar)
    (λ c e. on c.more) (λ e. tt))))

-- quoted text, case by case, over the bytes and over a beginning of them
quoted_by : (kind : TokenKind) (e : ℕ) (b10 bq bw b92 bw' : Bool) (oe oe' : Option Escape) (oc oc' : Option Character)
    (f1 f2 f3 f4 q1 q1' w w' : Spelling) (qe qe' : Escape → Spelling) (qc qc' : Character → Spelling)
    → (f1 ≡ Whole kind e → ⊥) → (f2 ≡ Whole kind e → ⊥) → (f3 ≡ Whole kind e → ⊥)
    → (bq ≡ true → bw' ≡ bw) → (q1 ≡ Whole kind e → q1' ≡ Whole kind e) → w' ≡ w
    → ((x : Escape) → oe ≡ Some x → qe x ≡ Whole kind e → (oe' ≡ Some x) × (qe' x ≡ Whole kind e))
    → ((c : Character) → oc ≡ Some c → qc c ≡ Whole kind e → (oc' ≡ Some c) × (qc' c ≡ Whole kind e))
    → cond b10 f1 (cond bq (cond bw q1 w) (cond b92 (option_map_or qe oe f2) (option_map_or qc oc f3))) ≡ Whole kind e
    → cond b10 f1 (cond bq (cond bw' q1' w') (cond b92 (option_map_or qe' oe' f2) (option_map_or qc' oc' f3))) ≡ Whole kind e
quoted_by kind e true bq bw b92 bw' oe oe' oc oc' f1 f2 f3 f4 q1 q1' w w' qe qe' qc qc' n1 n2 n3 b q v x c h = absurd (n1 h)
quoted_by kind e false true true b92 bw' oe oe' oc oc' f1 f2 f3 f4 q1 q1' w w' qe qe' qc qc' n1 n2 n3 b q v x c h = ap
    (λ t. cond t q1' w') (b refl) ∙ q h
quoted_by kind e false true false b92 bw' oe oe' oc oc' f1 f2 f3 f4 q1 q1' w w' qe qe' qc qc' n1 n2 n3 b q v x c h = ap
    (λ t. cond t q1' w') (b refl) ∙ v ∙ h
quoted_by kind e false false bw true bw' None oe' oc oc' f1 f2 f3 f4 q1 q1' w w' qe qe' qc qc' n1 n2 n3 b q v x c h = absurd (n2 h)
quoted_by kind e false false bw true bw' (Some y) oe' oc oc' f1 f2 f3 f4 q1 q1' w w' qe qe' qc qc' n1 n2 n3 b q v x c h =
    let r = x y refl h in ap (λ o. option_map_or qe' o f2) r.0 ∙ r.1
quoted_by kind e false false bw false bw' oe oe' None oc' f1 f2 f3 f4 q1 q1' w w' qe qe' qc qc' n1 n2 n3 b q v x c h = absurd (n3 h)
quoted_by kind e false false bw false bw' oe oe' (Some y) oc' f1 f2 f3 f4 q1 q1' w w' qe qe' qc qc' n1 n2 n3 b q v x c h =
    let r = c y refl h in ap (λ o. option_map_or qc' o f3) r.0 ∙ r.1

quoted_take : (kind : TokenKind) (q start at inside : ℕ) (s : List ℕ) (n e : ℕ) → e < at + n
    → quoted_from kind q start at inside s ≡ Whole kind e → quoted_from kind q start at inside (take n s) ≡ Whole kind e
quoted_take kind q start at inside [] n e l h = cc
quoted_take kind q start at inside (b ∷ s) zero e l h = let r : at + inside + 1 ≤ e = subst (Reaches (at + inside + 1)) h
    (quoted_reaches kind q start at inside (b ∷ s)) in absurd (omega arith)
quoted_take kind q start at (suc i) (b ∷ s) (suc n) e l h = quoted_take kind q start (suc at) i s n e (omega arith) h
quoted_take kind q start at zero (b ∷ s) (suc n) e l h =
    let r : at + 0 + 1 ≤ e = subst (Reaches (at + 0 + 1)) h (quoted_reaches kind q start at 0 (b ∷ s)) in
    let on : (i : ℕ) → quoted_from kind q start (suc at) i s ≡ Whole kind e
    → quoted_from kind q start (suc at) i (take n s) ≡ Whole kind e = λ i g. quoted_take kind q start (suc at) i s n e
    (omega arith) g in
    let far : (i : ℕ) → quoted_from kind q start (suc at) i s ≡ Whole kind e
    → i ≤ n = λ i g. (let r2 : suc at + i + 1 ≤ e = subst (Reaches (suc at + i + 1)) g
    (quoted_reaches kind q start (suc at) i s) in omega arith) in
    quoted_by kind e (b == 10) (b == q) (begins_with q s) (b == 92) (begins_with q (take n s)) (escape_at s)
    (escape_at (take n s)) (char_at b s) (char_at b (take n s))
    (fault start OpenQuote) (fault at BadEscape) (fault at BadChar) (fault at BadChar)
    (quoted_from kind q start (suc at) 1 s) (quoted_from kind q start (suc at) 1 (take n s)) (Whole kind (suc at)) (Whole kind (suc at))
    (λ x. quoted_from kind q start (suc at) x.len s) (λ x. quoted_from kind q start (suc at) x.len (take n s))
    (λ c. quoted_from kind q start (suc at) c.more s) (λ c. quoted_from kind q start (suc at) c.more (take n s))
    (λ g. cc) (λ g. cc) (λ g. cc)
    (λ t. front_take q s n (omega arith))
    (on 1) refl
    (λ x g k. (escape_take s n x (far x.len k) g, on x.len k))
    (λ c g k. (char_take b s n c (far c.more k) g, on c.more k))
    h

-- an integer
ranged_end : (at : ℕ) (minus : Bool) (v end : ℕ) (kind : TokenKind) (e : ℕ) → ranged at minus v end ≡ Whole kind e → end ≡ e
ranged_end at minus v end kind e =
    if_either (λ x. x ≡ Whole kind e → end ≡ e) (nat_lt v least_magnitude || (minus && v == least_magnitude))
    (Whole (Integer v) end) (fault at NumberRange) (λ t h. cc) (λ t h. cc)

based_take : (base : ℕ) (set : Set) (at : ℕ) (minus : Bool) (s : List ℕ) (n : ℕ) (kind : TokenKind) (e : ℕ) → e < at + 2 + n
    → based base set at minus s ≡ Whole kind e → based base set at minus (take n s) ≡ Whole kind e
based_take base set at minus s n kind e l h =
    let P : Spelling → Type 0 = λ x. x ≡ Whole kind e → at + 2 + run set s ≡ e in
    let end : at + 2 + run set s ≡ e = if_either P (run set s == 0) (fault at BadNumber)
    (ranged at minus (number_of base (take (run set s) s)) (at + 2 + run set s)) (λ t g. cc)
    (λ t g. ranged_end at minus (number_of base (take (run set s) s)) (at + 2 + run set s) kind e g) h in
    let r : run set (take n s) ≡ run set s = run_take set s n (omega arith) in
    ap (λ d. if d == 0 then fault at BadNumber else ranged at minus (number_of base (take d (take n s))) (at + 2 + d)) r
    ∙ ap (λ ds. if run set s == 0 then fault at BadNumber else ranged at minus (number_of base ds) (at + 2 + run set s))
    (take_less s (run set s) n (omega arith))
    ∙ h

fraction_take : (s : List ℕ) (i n : ℕ) → i < n → is_fraction (drop i s) ≡ false → is_fraction (drop i (take n s)) ≡ false
fraction_take s zero zero l h = absurd (omega arith)
fraction_take [] zero (suc n) l h = refl
fraction_take (b ∷ []) zero (suc zero) l h = refl
fraction_take (b ∷ []) zero (suc (suc n)) l h = refl
fraction_take (b ∷ c ∷ s) zero (suc zero) l h = refl
fraction_take (b ∷ c ∷ s) zero (suc (suc n)) l h = h
fraction_take s (suc i) zero l h = absurd (omega arith)
fraction_take [] (suc i) (suc n) l h = refl
fraction_take (b ∷ s) (suc i) (suc n) l h = fraction_take s i n (omega arith) h

decimal_take : (at : ℕ) (minus : Bool) (s : List ℕ) (n : ℕ) (kind : TokenKind) (e : ℕ) → e < at + n
    → decimal at minus s ≡ Whole kind e → decimal at minus (take n s) ≡ Whole kind e
decimal_take at minus s n kind e l h = go (is_fraction (drop (run Decimal s) s)) refl h
  where
    go : (f : Bool) → is_fraction (drop (run Decimal s) s) ≡ f
        → (if f then fault at BadNumber else ranged at minus (number_of 10 (take (run Decimal s) s))
        (at + run Decimal s)) ≡ Whole kind e → decimal at minus (take n s) ≡ Whole kind e
    go true t g = cc
    go false t g =
        let end : at + run Decimal s ≡ e = ranged_end at minus (number_of 10 (take (run Decimal s) s)) (at + run Decimal s) kind e g in
        let r : run Decimal (take n s) ≡ run Decimal s = run_take Decimal s n (omega arith) in
        ap (λ d. if is_fraction (drop d (take n s)) then fault at BadNumber else ranged at minus
        (number_of 10 (take d (take n s))) (at + d)) r
        ∙ ap (λ f. if f then fault at BadNumber else ranged at minus (number_of 10 (take (run Decimal s) (take n s)))
        (at + run Decimal s)) (fraction_take s (run Decimal s) n (omega arith) t)
        ∙ ap (λ ds. ranged at minus (number_of 10 ds) (at + run Decimal s)) (take_less s (run Decimal s) n (omega arith))
        ∙ g

code_reaches : (at : ℕ) (s : List ℕ) → Reaches (at + 3) (code_at at s)
code_reaches at [] = tt
code_reaches at (b ∷ s) =
    let P : Spelling → Type 0 = Reaches (at + 3) in
    if_either P (b == 92) (escaped_code_at at s) _
    (λ e. if_either P (begins_with 10 s) (fault at BadNumber) _ (λ e. tt)
    (λ e. map_either P (λ (x : Escape). Whole (Integer (unwrap_or x.code 0)) (at + 3 + x.len)) (escape_at s)
    (fault (at + 2) BadEscape) (λ x h. omega arith) (λ e. tt)))
    (λ e. if_either P (b == 39) _ _
    (λ e. if_either P (begins_with 39 s) (Whole (Integer 39) (at + 4)) (fault at BadNumber) (λ e. omega arith) (λ e. tt))
    (λ e. map_either P (λ (c : Character). Whole (Integer c.code) (at + 3 + c.more)) (char_at b s) (fault at BadNumber)
    (λ c h. omega arith) (λ e. tt)))

code_by : (kind : TokenKind) (e : ℕ) (b92 b39 nl nl' bw bw' : Bool) (oe oe' : Option Escape) (oc oc' : Option Character)
    (f1 f2 f3 f4 w : Spelling) (qe : Escape → Spelling) (qc : Character → Spelling)
    → (f1 ≡ Whole kind e → ⊥) → (f2 ≡ Whole kind e → ⊥) → (f3 ≡ Whole kind e → ⊥) → (f4 ≡ Whole kind e → ⊥)
    → ((x : Escape) → oe ≡ Some x → qe x ≡ Whole kind e → (nl' ≡ nl) × (oe' ≡ Some x))
    → (w ≡ Whole kind e → bw' ≡ bw)
    → ((c : Character) → oc ≡ Some c → qc c ≡ Whole kind e → oc' ≡ Some c)
    → cond b92 (cond nl f1 (option_map_or qe oe f2)) (cond b39 (cond bw w f3) (option_map_or qc oc f4)) ≡ Whole kind e
    → cond b92 (cond nl' f1 (option_map_or qe oe' f2)) (cond b39 (cond bw' w f3) (option_map_or qc oc' f4)) ≡ Whole kind e
code_by kind e true b39 true nl' bw bw' oe oe' oc oc' f1 f2 f3 f4 w qe qc n1 n2 n3 n4 x v c h = absurd (n1 h)
code_by kind e true b39 false nl' bw bw' None oe' oc oc' f1 f2 f3 f4 w qe qc n1 n2 n3 n4 x v c h = absurd (n2 h)
code_by kind e true b39 false nl' bw bw' (Some y) oe' oc oc' f1 f2 f3 f4 w qe qc n1 n2 n3 n4 x v c h =
    let r = x y refl h in ap (λ t. cond t f1 (option_map_or qe oe' f2)) r.0 ∙ ap (λ o. option_map_or qe o f2) r.1 ∙ h
code_by kind e false true nl nl' true bw' oe oe' oc oc' f1 f2 f3 f4 w qe qc n1 n2 n3 n4 x v c h = ap (λ t. cond t w f3) (v h) ∙ h
code_by kind e false true nl nl' false bw' oe oe' oc oc' f1 f2 f3 f4 w qe qc n1 n2 n3 n4 x v c h = absurd (n3 h)
code_by kind e false false nl nl' bw bw' oe oe' None oc' f1 f2 f3 f4 w qe qc n1 n2 n3 n4 x v c h = absurd (n4 h)
code_by kind e false false nl nl' bw bw' oe oe' (Some y) oc' f1 f2 f3 f4 w qe qc n1 n2 n3 n4 x v c h = ap
    (λ o. option_map_or qc o f4) (c y refl h) ∙ h

whole_end : {a b : TokenKind} {i j : ℕ} → Whole a i ≡ Whole b j → i ≡ j
whole_end h = cc

code_take : (at : ℕ) (s : List ℕ) (n : ℕ) (kind : TokenKind) (e : ℕ) → e < at + 2 + n → code_at at s ≡ Whole kind e
    → code_at at (take n s) ≡ Whole kind e
code_take at [] n kind e l h = cc
code_take at (b ∷ s) zero kind e l h = let r : at + 3 ≤ e = subst (Reaches (at + 3)) h (code_reaches at (b ∷ s)) in absurd (omega arith)
code_take at (b ∷ s) (suc n) kind e l h =
    code_by kind e (b == 92) (b == 39) (begins_with 10 s) (begins_with 10 (take n s)) (begins_with 39 s)
    (begins_with 39 (take n s)) (escape_at s) (escape_at (take n s)) (char_at b s) (char_at b (take n s))
    (fault at BadNumber) (fault (at + 2) BadEscape) (fault at BadNumber) (fault at BadNumber) (Whole (Integer 39) (at + 4))
    (λ x. Whole (Integer (unwrap_or x.code 0)) (at + 3 + x.len)) (λ c. Whole (Integer c.code) (at + 3 + c.more))
    (λ g. cc) (λ g. cc) (λ g. cc) (λ g. cc)
    (λ x g k. let q : at + 3 + x.len ≡ e = whole_end k in (front_take 10 s n (omega arith), escape_take s n x (omega arith) g))
    (λ k. let q : at + 4 ≡ e = whole_end k in front_take 39 s n (omega arith))
    (λ c g k. let q : at + 3 + c.more ≡ e = whole_end k in char_take b s n c (omega arith) g)
    h

chain : (w : Spelling) (t1 t2 t3 t4 : Bool) (x1 x2 x3 x4 x5 y1 y2 y3 y4 y5 : Spelling) → (x1 ≡ w → y1 ≡ w) → (x2 ≡ w → y2 ≡ w)
    → (x3 ≡ w → y3 ≡ w) → (x4 ≡ w → y4 ≡ w) → (x5 ≡ w → y5 ≡ w)
    → cond t1 x1 (cond t2 x2 (cond t3 x3 (cond t4 x4 x5))) ≡ w → cond t1 y1 (cond t2 y2 (cond t3 y3 (cond t4 y4 y5))) ≡ w
chain w true t2 t3 t4 x1 x2 x3 x4 x5 y1 y2 y3 y4 y5 f1 f2 f3 f4 f5 h = f1 h
chain w false true t3 t4 x1 x2 x3 x4 x5 y1 y2 y3 y4 y5 f1 f2 f3 f4 f5 h = f2 h
chain w false false true t4 x1 x2 x3 x4 x5 y1 y2 y3 y4 y5 f1 f2 f3 f4 f5 h = f3 h
chain w false false false true x1 x2 x3 x4 x5 y1 y2 y3 y4 y5 f1 f2 f3 f4 f5 h = f4 h
chain w false false false false x1 x2 x3 x4 x5 y1 y2 y3 y4 y5 f1 f2 f3 f4 f5 h = f5 h

number_take : (at : ℕ) (minus : Bool) (b : ℕ) (s : List ℕ) (n : ℕ) (kind : TokenKind) (e : ℕ) → e < at + suc (suc n)
    → number_at at minus (b ∷ s) ≡ Whole kind e → number_at at minus (b ∷ take (suc n) s) ≡ Whole kind e
number_take at minus b s n kind e l h =
    let f : (c : ℕ) → (b == 48 && begins_with c (take (suc n) s)) ≡ (b == 48 && begins_with c s) = λ c. ap (λ t. b == 48 && t)
    (front_take c s (suc n) (omega arith)) in
    let d : drop 1 (take (suc n) s) ≡ take n (drop 1 s) = drop_one_take s n in
    let body : Bool → Bool → Bool → Bool → List ℕ → Spelling = λ t1 t2 t3 t4 r. cond t1 (code_at at r)
    (cond t2 (based 16 Hexadecimal at minus r) (cond t3 (based 8 Octal at minus r)
    (cond t4 (based 2 Binary at minus r) (decimal at minus (b ∷ take (suc n) s))))) in
    ap (λ t. body t (b == 48 && begins_with 120 (take (suc n) s)) (b == 48 && begins_with 111 (take (suc n) s))
    (b == 48 && begins_with 98 (take (suc n) s)) (drop 1 (take (suc n) s))) (f 39)
    ∙ ap (λ t. body (b == 48 && begins_with 39 s) t (b == 48 && begins_with 111 (take (suc n) s))
    (b == 48 && begins_with 98 (take (suc n) s)) (drop 1 (take (suc n) s))) (f 120)
    ∙ ap (λ t. body (b == 48 && begins_with 39 s) (b == 48 && begins_with 120 s) t (b == 48 && begins_with 98 (take (suc n) s))
    (drop 1 (take (suc n) s))) (f 111)
    ∙ ap (λ t. body (b == 48 && begins_with 39 s) (b == 48 && begins_with 120 s) (b == 48 && begins_with 111 s) t
    (drop 1 (take (suc n) s))) (f 98)
    ∙ ap (body (b == 48 && begins_with 39 s) (b == 48 && begins_with 120 s) (b == 48 && begins_with 111 s)
    (b == 48 && begins_with 98 s)) d
    ∙ chain (Whole kind e) (b == 48 && begins_with 39 s) (b == 48 && begins_with 120 s) (b == 48 && begins_with 111 s)
    (b == 48 && begins_with 98 s)
    (code_at at (drop 1 s)) (based 16 Hexadecimal at minus (drop 1 s)) (based 8 Octal at minus (drop 1 s))
    (based 2 Binary at minus (drop 1 s)) (decimal at minus (b ∷ s))
    (code_at at (take n (drop 1 s))) (based 16 Hexadecimal at minus (take n (drop 1 s)))
    (based 8 Octal at minus (take n (drop 1 s))) (based 2 Binary at minus (take n (drop 1 s))) (decimal at minus (b ∷ take (suc n) s))
    (code_take at (drop 1 s) n kind e (omega arith)) (based_take 16 Hexadecimal at minus (drop 1 s) n kind e (omega arith))
    (based_take 8 Octal at minus (drop 1 s) n kind e (omega arith)) (based_take 2 Binary at minus (drop 1 s) n kind e (omega arith))
    (decimal_take at minus (b ∷ s) (suc (suc n)) kind e l)
    h

-- a comment is no token
pub line_never : (at inside : ℕ) (s : List ℕ) (kind : TokenKind) (e : ℕ) → line_from at inside s ≡ Whole kind e → ⊥
line_never at inside [] kind e = λ h. cc
line_never at (suc n) (b ∷ s) kind e = line_never (suc at) n s kind e
line_never at zero (b ∷ s) kind e =
    let P : Spelling → Type 0 = λ x. x ≡ Whole kind e → ⊥ in
    if_either P (b == 10) (Gap (suc at)) _ (λ t h. cc)
    (λ t. map_either P (λ (c : Character). line_from (suc at) c.more s) (char_at b s) (fault at BadChar)
    (λ c t. line_never (suc at) c.more s kind e) (λ t h. cc))

pub block_never : (start at inside : ℕ) (s : List ℕ) (kind : TokenKind) (e : ℕ) → block_from start at inside s ≡ Whole kind e → ⊥
block_never start at inside [] kind e = λ h. cc
block_never start at (suc n) (b ∷ s) kind e = block_never start (suc at) n s kind e
block_never start at zero (b ∷ s) kind e =
    let P : Spelling → Type 0 = λ x. x ≡ Whole kind e → ⊥ in
    if_either P (b == 42 && begins_with 47 s) (Gap (suc (suc at))) _ (λ t h. cc)
    (λ t. map_either P (λ (c : Character). block_from start (suc at) c.more s) (char_at b s) (fault at BadChar)
    (λ c t. block_never start (suc at) c.more s kind e) (λ t h. cc))

-- quoted text is a token of its kind
pub quoted_kind : (k : TokenKind) (q start at inside : ℕ) (s : List ℕ) (kind : TokenKind) (e : ℕ)
    → quoted_from k q start at inside s ≡ Whole kind e → k ≡ kind
quoted_kind k q start at inside [] kind e = λ h. cc
quoted_kind k q start at (suc n) (b ∷ s) kind e = quoted_kind k q start (suc at) n s kind e
quoted_kind k q start at zero (b ∷ s) kind e =
    let P : Spelling → Type 0 = λ x. x ≡ Whole kind e → k ≡ kind in
    if_either P (b == 10) _ _ (λ t h. cc)
    (λ t. if_either P (b == q) _ _
    (λ t. if_either P (begins_with q s) _ _ (λ t. quoted_kind k q start (suc at) 1 s kind e) (λ t h. cc))
    (λ t. if_either P (b == 92) _ _
    (λ t. map_either P (λ (x : Escape). quoted_from k q start (suc at) x.len s) (escape_at s) (fault at BadEscape)
    (λ x t. quoted_kind k q start (suc at) x.len s kind e) (λ t h. cc))
    (λ t. map_either P (λ (c : Character). quoted_from k q start (suc at) c.more s) (char_at b s) (fault at BadChar)
    (λ c t. quoted_kind k q start (suc at) c.more s kind e) (λ t h. cc))))

-- a token that a run ends
run_whole : (set : Set) (k kind : TokenKind) (at e : ℕ) (s : List ℕ) (n : ℕ) → e < at + suc n
    → Whole k (at + 1 + run set s) ≡ Whole kind e → Whole k (at + 1 + run set (take n s)) ≡ Whole kind e
run_whole set k kind at e s n l h =
    let q : at + 1 + run set s ≡ e = whole_end h in
    ap (λ r. Whole k (at + 1 + r)) (run_take set s n (omega arith)) ∙ h

clause_take : (s : List ℕ) (n : ℕ) → 0 < n → ends_clause (take n s) ≡ ends_clause s
clause_take s zero h = absurd (omega arith)
clause_take [] (suc n) h = refl
clause_take (b ∷ s) (suc n) h = refl

dot_take : (at : ℕ) (s : List ℕ) (n : ℕ) (kind : TokenKind) (e : ℕ) → 0 < n → e < at + suc n → dot_at at s ≡ Whole kind e
    → dot_at at (take n s) ≡ Whole kind e
dot_take at s n kind e z l h =
    let short : run symbols s < n =
    if_either (λ x. x ≡ Whole kind e → run symbols s < n) (run symbols s == 0 && ends_clause s) (Whole End (at + 1))
    (Whole Name (at + 1 + run symbols s))
    (λ t g. let q = eqb-true (run symbols s) 0 (and_left (run symbols s == 0) (ends_clause s) t) in omega arith)
    (λ t g. let q : at + 1 + run symbols s ≡ e = whole_end g in omega arith)
    h in
    ap (λ r. if r == 0 && ends_clause (take n s) then Whole End (at + 1) else Whole Name (at + 1 + r)) (run_take symbols s n short)
    ∙ ap (λ c. if run symbols s == 0 && c then Whole End (at + 1) else Whole Name (at + 1 + run symbols s)) (clause_take s n z)
    ∙ h

spelled_take : (k : Class) (at : ℕ) (minus : Bool) (b : ℕ) (s : List ℕ) (n : ℕ) (kind : TokenKind) (e : ℕ)
    → e < at + suc (suc n) → spelled k at minus b s ≡ Whole kind e → spelled k at minus b (take (suc n) s) ≡ Whole kind e
spelled_take Layout at minus b s n kind e l h = cc
spelled_take Percent at minus b s n kind e l h = absurd (line_never (at + 1) 0 s kind e h)
spelled_take Small at minus b s n kind e l h = run_whole Word Name kind at e s (suc n) l h
spelled_take Capital at minus b s n kind e l h = run_whole Word Variable kind at e s (suc n) l h
spelled_take Digit at minus b s n kind e l h = number_take at minus b s n kind e l h
spelled_take SingleQuote at minus b s n kind e l h =
    let q : QuotedName ≡ kind = quoted_kind QuotedName 39 at (at + 1) 0 s kind e h in
    subst (λ k. quoted_from QuotedName 39 at (at + 1) 0 (take (suc n) s) ≡ Whole k e) q
    (quoted_take QuotedName 39 at (at + 1) 0 s (suc n) e (omega arith)
    (subst (λ k. quoted_from QuotedName 39 at (at + 1) 0 s ≡ Whole k e) (sym q) h))
spelled_take DoubleQuote at minus b s n kind e l h =
    let q : Text ≡ kind = quoted_kind Text 34 at (at + 1) 0 s kind e h in
    subst (λ k. quoted_from Text 34 at (at + 1) 0 (take (suc n) s) ≡ Whole k e) q
    (quoted_take Text 34 at (at + 1) 0 s (suc n) e (omega arith)
    (subst (λ k. quoted_from Text 34 at (at + 1) 0 s ≡ Whole k e) (sym q) h))
spelled_take Slash at minus b s n kind e l h =
    ap (λ t. if t then block_from at (at + 2) 0 (drop 1 (take (suc n) s)) else Whole Name
    (at + 1 + run symbols (take (suc n) s))) (front_take 42 s (suc n) (omega arith))
    ∙ go (begins_with 42 s) h
  where
    go : (t : Bool) → cond t (block_from at (at + 2) 0 (drop 1 s)) (Whole Name (at + 1 + run symbols s)) ≡ Whole kind e
        → cond t (block_from at (at + 2) 0 (drop 1 (take (suc n) s))) (Whole Name (at + 1 + run symbols (take (suc n) s))) ≡ Whole kind e
    go true g = absurd (block_never at (at + 2) 0 (drop 1 s) kind e g)
    go false g = run_whole symbols Name kind at e s (suc n) l g
spelled_take Dot at minus b s n kind e l h = dot_take at s (suc n) kind e (omega arith) l h
spelled_take Symbol at minus b s n kind e l h = run_whole symbols Name kind at e s (suc n) l h
spelled_take Solo at minus b s n kind e l h = h
spelled_take (Punctuation k) at minus b s n kind e l h = h
spelled_take Bad at minus b s n kind e l h = cc

-- what begins a text begins each longer beginning of it
begins_take : (at : ℕ) (minus : Bool) (s : List ℕ) (n : ℕ) (kind : TokenKind) (e : ℕ) → e < at + n
    → begins at minus s ≡ Whole kind e → begins at minus (take n s) ≡ Whole kind e
begins_take at minus [] n kind e l h = cc
begins_take at minus (b ∷ s) n kind e l h =
    let w : EndsBy (at + 1) (at + suc (length s)) (Whole kind e) = subst (EndsBy (at + 1) (at + suc (length s))) h
    (begins_ends at minus b s) in
    go n l w.0
  where
    go : (n : ℕ) → e < at + n → at + 1 ≤ e → begins at minus (take n (b ∷ s)) ≡ Whole kind e
    go zero l w = absurd (omega arith)
    go (suc zero) l w = absurd (omega arith)
    go (suc (suc n)) l w = spelled_take (class_of b) at minus b s n kind e l h

pub longest : (at : ℕ) (minus : Bool) (s : List ℕ) (kind other : TokenKind) (e n : ℕ) → begins at minus s ≡ Whole kind e
    → e < at + n → begins at minus (take n s) ≡ Whole other (at + n) → ⊥
longest at minus s kind other e n h l g = let q : e ≡ at + n = whole_end (sym (begins_take at minus s n kind e l h) ∙ g) in omega arith
