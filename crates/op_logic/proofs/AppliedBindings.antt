-- Bindings that are applied to a term.
use Rattle.std.proofs.Common.{◌≡◌, ℕ, ◌==◌, true, false, ℤ, [], ◌∷◌, ◌++◌, Some, None, sym, ◌∙◌, ap, refl}
use Rattle.std.proofs.lemmas.Bool.Decides.{Decides-eqb}
use Rattle.op_logic.specs.Term.{Term, var, int, node, Args, no_args, arg, occurs, replace, replace_args}
use Rattle.op_logic.specs.Bind.{Bindings, apply, lookup}
use Rattle.op_logic.specs.Laws.{Acyclic}
use Rattle.op_logic.proofs.BoolCases.{by_test, if_true, if_false}
use Rattle.op_logic.proofs.Replacement.{replace-absent, occurs-replaced, occurs-replace}

pub eq_of : (m n : ℕ) → (m == n) ≡ true → m ≡ n
eq_of m n h = (Decides-eqb m n).0 h

pub of_eq : (m n : ℕ) → m ≡ n → (m == n) ≡ true
of_eq m n h = (Decides-eqb m n).1 h

some_none : {A : Type 0} {P : Type 0} (x : A) → Some x ≡ None → P
some_none x h = cc

module _ {N : Type 0} where
  abbrev pub apply_args : Bindings N → Args N → Args N
  apply_args [] ts = ts
  apply_args (p ∷ σ) ts = replace_args p.0 (apply σ p.1) (apply_args σ ts)

  pub apply-int : (σ : Bindings N) (i : ℤ) → apply σ (int i) ≡ int i
  apply-int [] i = refl
  apply-int (p ∷ σ) i = ap (replace p.0 (apply σ p.1)) (apply-int σ i)

  pub apply-node : (σ : Bindings N) (f : N) (ts : Args N) → apply σ (node f ts) ≡ node f (apply_args σ ts)
  apply-node [] f ts = refl
  apply-node (p ∷ σ) f ts = ap (replace p.0 (apply σ p.1)) (apply-node σ f ts)

  pub apply_args-none : (σ : Bindings N) → apply_args σ no_args ≡ no_args
  apply_args-none [] = refl
  apply_args-none (p ∷ σ) = ap (replace_args p.0 (apply σ p.1)) (apply_args-none σ)

  pub apply_args-arg : (σ : Bindings N) (t : Term N) (ts : Args N) → apply_args σ (arg t ts) ≡ arg (apply σ t) (apply_args σ ts)
  apply_args-arg [] t ts = refl
  apply_args-arg (p ∷ σ) t ts = ap (replace_args p.0 (apply σ p.1)) (apply_args-arg σ t ts)

  -- what the first pair says of a look-up
  pub lookup-here : (p : ℕ × Term N) (σ : Bindings N) (v : ℕ) → (p.0 == v) ≡ true → lookup (p ∷ σ) v ≡ Some p.1
  lookup-here p σ v e = if_true _ _ _ e

  pub lookup-there : (p : ℕ × Term N) (σ : Bindings N) (v : ℕ) → (p.0 == v) ≡ false → lookup (p ∷ σ) v ≡ lookup σ v
  lookup-there p σ v e = if_false _ _ _ e

  pub none-here : (p : ℕ × Term N) (σ : Bindings N) (v : ℕ) → lookup (p ∷ σ) v ≡ None → (p.0 == v) ≡ false
  none-here p σ v h = by_test (p.0 == v) (λ e. some_none p.1 (sym (lookup-here p σ v e) ∙ h)) (λ e. e)

  pub none-there : (p : ℕ × Term N) (σ : Bindings N) (v : ℕ) → lookup (p ∷ σ) v ≡ None → lookup σ v ≡ None
  none-there p σ v h = sym (lookup-there p σ v (none-here p σ v h)) ∙ h

  pub apply-free : (σ : Bindings N) (v : ℕ) → lookup σ v ≡ None → apply σ (var v) ≡ var v
  apply-free [] v h = refl
  apply-free (p ∷ σ) v h =
      ap (replace p.0 (apply σ p.1)) (apply-free σ v (none-there p σ v h)) ∙ if_false _ _ _ (none-here p σ v h)

  -- the last variable that was bound has its term's value
  apply-last : (v : ℕ) (t : Term N) (σ : Bindings N) → Acyclic ((v, t) ∷ σ) → apply ((v, t) ∷ σ) (var v) ≡ apply ((v, t) ∷ σ) t
  apply-last v t σ a =
      let s : Term N = apply σ t in
      let l : apply ((v, t) ∷ σ) (var v) ≡ s = ap (replace v s) (apply-free σ v a.1) ∙ if_true _ _ _ (of_eq v v refl) in
      l ∙ sym (replace-absent v s s a.2)

  pub apply-bound : (σ : Bindings N) (v : ℕ) (s : Term N) → Acyclic σ → lookup σ v ≡ Some s → apply σ (var v) ≡ apply σ s
  apply-bound [] v s a h = cc
  apply-bound (p ∷ σ) v s a h =
      by_test (p.0 == v)
      (λ e. let i : p.1 ≡ s = (let q : Some p.1 ≡ Some s = sym (lookup-here p σ v e) ∙ h in cc) in
      let n : p.0 ≡ v = eq_of p.0 v e in
      ap (λ w. apply (p ∷ σ) (var w)) (sym n) ∙ (apply-last p.0 p.1 σ a ∙ ap (apply (p ∷ σ)) i))
      (λ e. ap (replace p.0 (apply σ p.1)) (apply-bound σ v s a.0 (sym (lookup-there p σ v e) ∙ h)))

  pub apply-append-same : (ρ σ : Bindings N) (t u : Term N) → apply σ t ≡ apply σ u → apply (ρ ++ σ) t ≡ apply (ρ ++ σ) u
  apply-append-same [] σ t u h = h
  apply-append-same (p ∷ ρ) σ t u h = ap (replace p.0 (apply (ρ ++ σ) p.1)) (apply-append-same ρ σ t u h)

  -- a bound variable is in no value
  pub occurs-apply : (σ : Bindings N) (v : ℕ) (s t : Term N) → Acyclic σ → lookup σ v ≡ Some s → occurs v (apply σ t) ≡ false
  occurs-apply [] v s t a h = cc
  occurs-apply (p ∷ σ) v s t a h =
      by_test (p.0 == v)
      (λ e. ap (λ w. occurs w (apply (p ∷ σ) t)) (sym (eq_of p.0 v e)) ∙ occurs-replaced p.0 (apply σ p.1) (apply σ t) a.2)
      (λ e. let l = sym (lookup-there p σ v e) ∙ h in
      occurs-replace v p.0 (apply σ p.1) (apply σ t) (occurs-apply σ v s p.1 a.0 l) (occurs-apply σ v s t a.0 l))
