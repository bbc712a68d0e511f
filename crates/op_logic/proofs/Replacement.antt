-- A term in place of a variable.
use Rattle.std.proofs.Common.{◌≡◌, ℕ, ◌==◌, Bool, true, false, ◌||◌, ◌∙◌, ap, refl}
use Rattle.op_logic.specs.Term.{Term, var, int, node, Args, no_args, arg, occurs, occurs_args, replace, replace_args}
use Rattle.op_logic.proofs.BoolCases.{by_test, if_true, if_false}

or_left : (a b : Bool) → (a || b) ≡ false → a ≡ false
or_left true b h = h
or_left false b h = refl

or_right : (a b : Bool) → (a || b) ≡ false → b ≡ false
or_right true b h = cc
or_right false b h = h

pub or_none : (a b : Bool) → a ≡ false → b ≡ false → (a || b) ≡ false
or_none true b h k = cc
or_none false b h k = k

module _ {N : Type 0} where
  mutual
    pub replace-absent : (v : ℕ) (s t : Term N) → occurs v t ≡ false → replace v s t ≡ t
    replace-absent v s (var w) h = if_false _ _ _ h
    replace-absent v s (int i) h = refl
    replace-absent v s (node f ts) h = ap (node f) (replace_args-absent v s ts h)

    replace_args-absent : (v : ℕ) (s : Term N) (ts : Args N) → occurs_args v ts ≡ false → replace_args v s ts ≡ ts
    replace_args-absent v s no_args h = refl
    replace_args-absent v s (arg t ts) h =
        let a = replace-absent v s t (or_left (occurs v t) (occurs_args v ts) h) in
        let b = replace_args-absent v s ts (or_right (occurs v t) (occurs_args v ts) h) in
        cc

  mutual
    pub occurs-replaced : (v : ℕ) (s t : Term N) → occurs v s ≡ false → occurs v (replace v s t) ≡ false
    occurs-replaced v s (var w) h =
        by_test (v == w)
        (λ e. ap (occurs v) (if_true (v == w) s (var w) e) ∙ h)
        (λ e. ap (occurs v) (if_false (v == w) s (var w) e) ∙ e)
    occurs-replaced v s (int i) h = refl
    occurs-replaced v s (node f ts) h = occurs_args-replaced v s ts h

    occurs_args-replaced : (v : ℕ) (s : Term N) (ts : Args N) → occurs v s ≡ false → occurs_args v (replace_args v s ts) ≡ false
    occurs_args-replaced v s no_args h = refl
    occurs_args-replaced v s (arg t ts) h = or_none _ _ (occurs-replaced v s t h) (occurs_args-replaced v s ts h)

  mutual
    pub occurs-replace : (x v : ℕ) (s t : Term N) → occurs x s ≡ false → occurs x t ≡ false → occurs x (replace v s t) ≡ false
    occurs-replace x v s (var w) h k =
        by_test (v == w)
        (λ e. ap (occurs x) (if_true (v == w) s (var w) e) ∙ h)
        (λ e. ap (occurs x) (if_false (v == w) s (var w) e) ∙ k)
    occurs-replace x v s (int i) h k = refl
    occurs-replace x v s (node f ts) h k = occurs_args-replace x v s ts h k

    occurs_args-replace : (x v : ℕ) (s : Term N) (ts : Args N) → occurs x s ≡ false → occurs_args x ts ≡ false
        → occurs_args x (replace_args v s ts) ≡ false
    occurs_args-replace x v s no_args h k = refl
    occurs_args-replace x v s (arg t ts) h k =
        or_none _ _ (occurs-replace x v s t h (or_left (occurs x t) (occurs_args x ts) k)) (occurs_args-replace x v s ts h
        (or_right (occurs x t) (occurs_args x ts) k))
