-- The front of a text is cut as the text.
use Rattle.std.proofs.Common.{◌≡◌, ◌<◌, ◌≤◌, ◌+◌, ◌-◌, ℕ, zero, suc, Bool, true, false, cond, ◌&&◌, List, ◌++◌, length, take, drop, get_or}
use Rattle.std.proofs.Common.{leb, ltb, refl, sym, ◌∙◌, ap, arith}
use Rattle.std.specs.Prelude.{codes}
use Rattle.std.proofs.lemmas.List.{get_or_append_left, take-append-le, take-append-drop}
use Rattle.std.proofs.lemmas.Bool.{lt-leb}
use Rattle.op_logic.proofs.BoolCases.{by_test, by_order, if_true, if_false}
use Rattle.op_writer.specs.Cut.{boundary, cut, front_of}
use Rattle.op_writer.proofs.TextFronts.{front-whole, front-longer}

abbrev continues : List ℕ → ℕ → Bool
continues t n = leb 128 (get_or t n 0) && ltb (get_or t n 0) 192

pub boundary-zero : (t : List ℕ) → boundary t 0 ≡ 0
unfolding boundary
boundary-zero t = refl

pub boundary-suc : (t : List ℕ) (n : ℕ) → boundary t (suc n) ≡ cond (continues t (suc n)) (boundary t n) (suc n)
unfolding boundary
boundary-suc t n = refl

-- a step back from a place where no character begins, and none from one where one does
pub boundary-back : (t : List ℕ) (n : ℕ) → 0 < n → continues t n ≡ true → boundary t (n - 1) ≡ boundary t n
boundary-back t zero l h = absurd (omega arith)
boundary-back t (suc n) l h =
    let e : suc n - 1 ≡ n = omega arith in
    ap (boundary t) e ∙ sym (boundary-suc t n ∙ if_true (continues t (suc n)) (boundary t n) (suc n) h)

pub boundary-here : (t : List ℕ) (n : ℕ) → continues t n ≡ false → n ≡ boundary t n
boundary-here t zero h = sym (boundary-zero t)
boundary-here t (suc n) h = sym (boundary-suc t n ∙ if_false (continues t (suc n)) (boundary t n) (suc n) h)

pub boundary-le : (t : List ℕ) (n : ℕ) → boundary t n ≤ n
boundary-le t zero = omega (arith, boundary-zero t)
boundary-le t (suc n) = by_test (continues t (suc n))
    (λ e. let h = boundary-le t n in let f = if_true (continues t (suc n)) (boundary t n) (suc n) e in omega
    (arith, h, f, boundary-suc t n))
    (λ e. let f = if_false (continues t (suc n)) (boundary t n) (suc n) e in omega (arith, f, boundary-suc t n))

pub boundary-front : (b more : List ℕ) (n : ℕ) → n < length b → boundary (b ++ more) n ≡ boundary b n
boundary-front b more zero l = boundary-zero (b ++ more) ∙ sym (boundary-zero b)
boundary-front b more (suc n) l =
    let same : get_or (b ++ more) (suc n) 0 ≡ get_or b (suc n) 0 = get_or_append_left b more 0 (suc n) l in
    let h = boundary-front b more n (omega (arith, l)) in
    boundary-suc (b ++ more) n
    ∙ (ap (λ (x : ℕ). cond (leb 128 x && ltb x 192) (boundary (b ++ more) n) (suc n)) same
    ∙ (ap (λ (x : ℕ). cond (continues b (suc n)) x (suc n)) h ∙ sym (boundary-suc b n)))

cut-whole : (b t : List ℕ) → b ≡ front_of 4096 t → length b ≤ 4096 → cut t ≡ cut b
cut-whole b t e l = ap cut (sym (front-whole 4096 b t e l))

cut-longer : (b t : List ℕ) → b ≡ front_of 4096 t → 4096 < length b → cut t ≡ cut b
cut-longer b t e l =
    let longer = front-longer 4096 b t e l in
    let more = drop (1 + 4096) t in
    let f : t ≡ b ++ more = sym (ap (λ (x : List ℕ). x ++ more) e ∙ take-append-drop (1 + 4096) t) in
    let same : boundary t 4096 ≡ boundary b 4096 = ap (λ (x : List ℕ). boundary x 4096) f ∙ boundary-front b more 4096 l in
    let short : take (boundary t 4096) t ≡ take (boundary b 4096) b =
    ap (λ (n : ℕ). take n t) same ∙ (ap (take (boundary b 4096)) f
    ∙ take-append-le (boundary b 4096) b more (omega (arith, boundary-le b 4096, l))) in
    if_false (leb (length t) 4096) t (take (boundary t 4096) t ++ codes "...") (lt-leb (length t) 4096 longer)
    ∙ (ap (λ (x : List ℕ). x ++ codes "...") short ∙ sym (if_false (leb (length b) 4096) b (take (boundary b 4096) b ++ codes "...")
    (lt-leb (length b) 4096 l)))

-- the front of a text is cut as the text
pub cut-front : (b t : List ℕ) → b ≡ front_of 4096 t → cut t ≡ cut b
cut-front b t e = by_order 4096 (length b) (cut-longer b t e) (cut-whole b t e)
