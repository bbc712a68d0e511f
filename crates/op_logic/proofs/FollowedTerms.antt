-- A term that is followed.
use Rattle.std.proofs.Common.{◌≡◌, ℕ, ◌==◌, false, ℤ, [], ◌∷◌, Some, None, sym, ◌∙◌, ap, refl}
use Rattle.std.proofs.lemmas.Bool.{false≢true}
use Rattle.op_logic.specs.Term.{Term, var, int, node, Args, occurs, replace}
use Rattle.op_logic.specs.Bind.{Bindings, apply, lookup, follow, follow_on}
use Rattle.op_logic.specs.Laws.{Acyclic}
use Rattle.op_logic.proofs.BoolCases.{by_test, if_true, if_false}
use Rattle.op_logic.proofs.Replacement.{replace-absent}
use Rattle.op_logic.proofs.AppliedBindings.{eq_of, of_eq, lookup-here, lookup-there, none-here, none-there, apply-free}

module _ {N : Type 0} where
  -- a step of following is taken from its variable alone
  pub by_follow : {P : Type 0} (v : ℕ) (s q : Term N) → (q ≡ var v → follow_on v s q ≡ s → P)
      → ((q ≡ var v → ⊥) → follow_on v s q ≡ q → P) → P
  by_follow v s (var w) yes_case no_case =
      by_test (v == w)
      (λ e. yes_case (ap var (sym (eq_of v w e))) (if_true _ _ _ e))
      (λ e. no_case (λ h. let n : v ≡ w = cc in false≢true (sym e ∙ of_eq v w n)) (if_false _ _ _ e))
  by_follow v s (int i) yes_case no_case = no_case (λ h. cc) refl
  by_follow v s (node f ts) yes_case no_case = no_case (λ h. cc) refl

  pub follow-int : (σ : Bindings N) (i : ℤ) → follow σ (int i) ≡ int i
  follow-int [] i = refl
  follow-int (p ∷ σ) i = ap (follow_on p.0 (follow σ p.1)) (follow-int σ i)

  pub follow-node : (σ : Bindings N) (f : N) (ts : Args N) → follow σ (node f ts) ≡ node f ts
  follow-node [] f ts = refl
  follow-node (p ∷ σ) f ts = ap (follow_on p.0 (follow σ p.1)) (follow-node σ f ts)

  pub follow-unbound : (σ : Bindings N) (v : ℕ) → lookup σ v ≡ None → follow σ (var v) ≡ var v
  follow-unbound [] v h = refl
  follow-unbound (p ∷ σ) v h =
      ap (follow_on p.0 (follow σ p.1)) (follow-unbound σ v (none-there p σ v h)) ∙ if_false _ _ _ (none-here p σ v h)

  pub apply-follow : (σ : Bindings N) (t : Term N) → Acyclic σ → apply σ (follow σ t) ≡ apply σ t
  apply-follow [] t a = refl
  apply-follow (p ∷ σ) t a =
      let s : Term N = apply σ p.1 in
      let r : Term N → Term N = replace p.0 s in
      let i : apply σ (follow σ t) ≡ apply σ t = apply-follow σ t a.0 in
      by_follow p.0 (follow σ p.1) (follow σ t)
      (λ q e. let l : apply (p ∷ σ) (follow (p ∷ σ) t) ≡ s =
      ap (λ x. r (apply σ x)) e ∙ (ap r (apply-follow σ p.1 a.0) ∙ replace-absent p.0 s s a.2) in
      let m : r (apply σ t) ≡ s =
      ap r (sym i ∙ (ap (apply σ) q ∙ apply-free σ p.0 a.1)) ∙ if_true _ _ _ (of_eq p.0 p.0 refl) in
      l ∙ sym m)
      (λ q e. ap (λ x. r (apply σ x)) e ∙ ap r i)

  -- following ends at no bound variable
  pub follow-free : (σ : Bindings N) (t : Term N) (v : ℕ) → Acyclic σ → follow σ t ≡ var v → lookup σ v ≡ None
  follow-free [] t v a h = refl
  follow-free (p ∷ σ) t v a h =
      by_follow p.0 (follow σ p.1) (follow σ t)
      (λ q e. let f : follow σ p.1 ≡ var v = sym e ∙ h in
      let l : lookup σ v ≡ None = follow-free σ p.1 v a.0 f in
      let s : apply σ p.1 ≡ var v = sym (apply-follow σ p.1 a.0) ∙ (ap (apply σ) f ∙ apply-free σ v l) in
      let n : (p.0 == v) ≡ false = sym (ap (occurs p.0) s) ∙ a.2 in
      lookup-there p σ v n ∙ l)
      (λ q e. let f : follow σ t ≡ var v = sym e ∙ h in
      let l : lookup σ v ≡ None = follow-free σ t v a.0 f in
      by_test (p.0 == v)
      (λ d. absurd (q (f ∙ ap var (sym (eq_of p.0 v d)))))
      (λ d. lookup-there p σ v d ∙ l))

  -- one step of following
  pub follow-bound : (σ : Bindings N) (v : ℕ) (s : Term N) → Acyclic σ → lookup σ v ≡ Some s → follow σ (var v) ≡ follow σ s
  follow-bound [] v s a h = cc
  follow-bound (p ∷ σ) v s a h =
      let f : Term N = follow σ p.1 in
      by_test (p.0 == v)
      (λ e. let i : p.1 ≡ s = (let q : Some p.1 ≡ Some s = sym (lookup-here p σ v e) ∙ h in cc) in
      let n : v ≡ p.0 = sym (eq_of p.0 v e) in
      let l : follow (p ∷ σ) (var v) ≡ f =
      ap (λ w. follow_on p.0 f (follow σ (var w))) n ∙ (ap (follow_on p.0 f) (follow-unbound σ p.0 a.1)
      ∙ if_true _ _ _ (of_eq p.0 p.0 refl)) in
      let m : follow (p ∷ σ) p.1 ≡ f =
      by_follow p.0 f f (λ q d. d) (λ q d. d) in
      l ∙ (sym m ∙ ap (follow (p ∷ σ)) i))
      (λ e. ap (follow_on p.0 f) (follow-bound σ v s a.0 (sym (lookup-there p σ v e) ∙ h)))
