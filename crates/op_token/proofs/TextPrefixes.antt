-- What begins a text begins each longer beginning of it.
use Rattle.std.proofs.Common.{◌≡◌, ℕ, zero, suc, ◌+◌, ◌-◌, ◌<◌, ◌≤◌, Bool, true, false, ◌&&◌, List, [], ◌∷◌, ◌++◌, Option, Some}
use Rattle.std.proofs.Common.{None, length, take, drop, refl, ap, sym, ◌∙◌, subst, cond, arith, length-take}
use Rattle.std.specs.Prelude.{◌==◌, nat_lt, if◌then◌else◌}
use Rattle.std.specs.Option.{option_map_or}
use Rattle.std.proofs.lemmas.List.{take-append-drop}
use lib.Utf8.{encode}
use Rattle.op_token.specs.declared.character.Character.{Character}
use Rattle.op_token.specs.declared.escape.Escape.{Escape}
use Rattle.op_token.specs.declared.set.Set.{Set}
use Rattle.op_token.specs.declared.set.Set.TheVariants.{Hexadecimal, Octal}
use Rattle.op_token.specs.Set.{run, has, begins_with}
use Rattle.op_token.specs.Character.{is_scalar, char_at, first_char}
use Rattle.op_token.specs.Spelling.{simple_escape, number_of, numbered, escape_at}
use Rattle.op_token.proofs.SpellingEnds.{if_either, map_either, char_within}
use Rattle.op_token.proofs.Utf8Characters.{IsRead, char_is, char_reads}

take_nil : (n : ℕ) → take {A = ℕ} n [] ≡ []
take_nil zero = refl
take_nil (suc n) = refl

pub run_take : (set : Set) (s : List ℕ) (n : ℕ) → run set s < n → run set (take n s) ≡ run set s
run_take set [] n h = ap (run set) (take_nil n)
run_take set (b ∷ s) zero h = absurd (omega arith)
run_take set (b ∷ s) (suc n) h = go (has set b) (run set s) (run set (take n s)) h (λ l. run_take set s n l)
  where
    go : (t : Bool) (r u : ℕ) → cond t (suc r) 0 < suc n → (r < n → u ≡ r) → cond t (suc u) 0 ≡ cond t (suc r) 0
    go true r u l f = ap suc (f (omega arith))
    go false r u l f = refl

pub front_take : (c : ℕ) (s : List ℕ) (n : ℕ) → 0 < n → begins_with c (take n s) ≡ begins_with c s
front_take c s zero h = absurd (omega arith)
front_take c [] (suc n) h = refl
front_take c (b ∷ s) (suc n) h = refl

drop_front_take : (c : ℕ) (s : List ℕ) (i n : ℕ) → i < n → begins_with c (drop i (take n s)) ≡ begins_with c (drop i s)
drop_front_take c s zero n h = front_take c s n h
drop_front_take c s (suc i) zero h = absurd (omega arith)
drop_front_take c [] (suc i) (suc n) h = refl
drop_front_take c (b ∷ s) (suc i) (suc n) h = drop_front_take c s i n (omega arith)

pub take_less : (s : List ℕ) (i n : ℕ) → i ≤ n → take i (take n s) ≡ take i s
take_less s zero n h = refl
take_less s (suc i) zero h = absurd (omega arith)
take_less [] (suc i) (suc n) h = refl
take_less (b ∷ s) (suc i) (suc n) h = ap (λ t. b ∷ t) (take_less s i n (omega arith))

pub drop_one_take : (s : List ℕ) (n : ℕ) → drop 1 (take (suc n) s) ≡ take n (drop 1 s)
drop_one_take [] n = sym (take_nil n)
drop_one_take (b ∷ s) n = refl

-- an escape
numbered_by : ℕ → ℕ → ℕ → Bool → List ℕ → Option Escape
numbered_by base lead digits closed ds =
    if nat_lt 0 digits && closed && is_scalar (number_of base ds)
    then Some (record { code = Some (number_of base ds); len = lead + digits + 1 })
    else None

numbered_len : (t : Bool) (x r : Escape) → cond t (Some r) None ≡ Some x → r ≡ x
numbered_len true x r h = cc
numbered_len false x r h = cc

numbered_take : (base : ℕ) (set : Set) (lead : ℕ) (s : List ℕ) (n : ℕ) (x : Escape) → x.len ≤ lead + n
    → numbered base set lead s ≡ Some x → numbered base set lead (take n s) ≡ Some x
unfolding numbered_by
numbered_take base set lead s n x h e =
    let code = number_of base (take (run set s) s) in
    let l : lead + run set s + 1 ≡ x.len =
    ap (λ (y : Escape). y.len)
    (numbered_len (nat_lt 0 (run set s) && begins_with 92 (drop (run set s) s) && is_scalar code) x
    (record { code = Some code; len = lead + run set s + 1 }) e) in
    let r : run set (take n s) ≡ run set s = run_take set s n (omega arith) in
    ap (λ d. numbered_by base lead d (begins_with 92 (drop d (take n s))) (take d (take n s))) r
    ∙ ap (λ b. numbered_by base lead (run set s) b (take (run set s) (take n s))) (drop_front_take 92 s (run set s) n (omega arith))
    ∙ ap (numbered_by base lead (run set s) (begins_with 92 (drop (run set s) s))) (take_less s (run set s) n (omega arith))
    ∙ e

IsLong : Option Escape → Type 0
IsLong None = Unit {0}
IsLong (Some x) = 1 ≤ x.len

numbered_long : (base : ℕ) (set : Set) (lead : ℕ) (s : List ℕ) → IsLong (numbered base set lead s)
unfolding IsLong
numbered_long base set lead s =
    let code = number_of base (take (run set s) s) in
    if_either IsLong (nat_lt 0 (run set s) && begins_with 92 (drop (run set s) s) && is_scalar code)
    (Some (record { code = Some code; len = lead + run set s + 1 })) None (λ e. omega arith) (λ e. tt)

escape_long : (s : List ℕ) → IsLong (escape_at s)
unfolding IsLong
escape_long [] = tt
escape_long (b ∷ s) =
    map_either IsLong (λ c. Some (record { code = Some c; len = 1 })) (simple_escape b) _ (λ c e. omega arith)
    (λ e. if_either IsLong (b == 10) (Some (record { code = None; len = 1 })) _ (λ e. omega arith)
    (λ e. if_either IsLong (b == 120) (numbered 16 Hexadecimal 1 s) _ (λ e. numbered_long 16 Hexadecimal 1 s)
    (λ e. if_either IsLong (has Octal b) (numbered 8 Octal 0 (b ∷ s)) None (λ e. numbered_long 8 Octal 0 (b ∷ s)) (λ e. tt))))

escape_by : (o : Option ℕ) (a b c : Bool) (h q h' q' : Option Escape) (x : Escape) → (h ≡ Some x → h' ≡ Some x) → (q ≡ Some x → q' ≡ Some x)
    → option_map_or (λ c. Some (record { code = Some c; len = 1 })) o
    (cond a (Some (record { code = None; len = 1 })) (cond b h (cond c q None)))
    ≡ Some x
    → option_map_or (λ c. Some (record { code = Some c; len = 1 })) o
    (cond a (Some (record { code = None; len = 1 })) (cond b h' (cond c q' None)))
    ≡ Some x
escape_by (Some v) a b c h q h' q' x f g e = e
escape_by None true b c h q h' q' x f g e = e
escape_by None false true c h q h' q' x f g e = f e
escape_by None false false true h q h' q' x f g e = g e
escape_by None false false false h q h' q' x f g e = e

pub escape_take : (s : List ℕ) (n : ℕ) (x : Escape) → x.len ≤ n → escape_at s ≡ Some x → escape_at (take n s) ≡ Some x
unfolding IsLong
escape_take [] n x h e = cc
escape_take (b ∷ s) zero x h e = let l : 1 ≤ x.len = subst IsLong e (escape_long (b ∷ s)) in absurd (omega arith)
escape_take (b ∷ s) (suc n) x h e =
    escape_by (simple_escape b) (b == 10) (b == 120) (has Octal b) (numbered 16 Hexadecimal 1 s) (numbered 8 Octal 0 (b ∷ s))
    (numbered 16 Hexadecimal 1 (take n s)) (numbered 8 Octal 0 (b ∷ take n s)) x
    (numbered_take 16 Hexadecimal 1 s n x (omega arith))
    (numbered_take 8 Octal 0 (b ∷ s) (suc n) x (omega arith))
    e

-- a character
pub char_take : (b : ℕ) (s : List ℕ) (n : ℕ) (c : Character) → c.more ≤ n → char_at b s ≡ Some c → char_at b (take n s) ≡ Some c
char_take b s n c h e =
    let r : IsRead b s (Some c) = subst (IsRead b s) e (char_is b s) in
    let w = char_within b s c e in
    let rest = drop c.more (take n s) in
    let split : b ∷ take n s ≡ encode c.code ++ rest =
    ap (λ t. b ∷ t) (sym (take-append-drop c.more (take n s)) ∙ ap (λ t. t ++ rest) (take_less s c.more n h))
    ∙ ap (λ t. t ++ rest) (sym r.1) in
    let l : length (encode c.code) - 1 ≡ c.more = omega (arith, ap length r.1, length-take c.more s) in
    ap first_char split ∙ char_reads c.code rest r.0 ∙ ap (λ m. Some (record { code = c.code; more = m })) l
