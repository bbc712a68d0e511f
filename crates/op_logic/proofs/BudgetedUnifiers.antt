-- What a unifier that was found within a budget means.
use Rattle.std.proofs.Common.{◌≡◌, ℕ, ◌-◌, leb, Bool, ◌++◌, Option, Some, None, sym, ◌∙◌, ap, subst, Decides}
use Rattle.op_logic.specs.Term.{Term}
use Rattle.op_logic.specs.Bind.{Bindings, Pairs, solve, within, unify}
use Rattle.op_logic.specs.Laws.{Acyclic, AreEqual, Respects, Unifies}
use Rattle.op_logic.proofs.BoolCases.{by_test, if_true, if_false}
use Rattle.op_logic.proofs.SolvedPairs.{GoodEnd, GoodResult, solve-good}
use Rattle.op_logic.proofs.MostGeneralUnifiers.{BestEnd, solve-best}

-- a result within a budget has a count
within-some : {A : Type 0} (n : ℕ) (r : Option (A × ℕ)) (o : A) (l : ℕ) → within n r ≡ Some (o, l) → (c : ℕ) × (r ≡ Some (o, c))
within-some {A = A} n None o l h = cc
within-some {A = A} n (Some r) o l h =
    by_test (leb r.1 n)
    (λ e. let x : Some (r.0, n - r.1) ≡ Some (o, l) = sym (if_true (leb r.1 n) (Some (r.0, n - r.1)) None e) ∙ h in
    let p : (r.0, n - r.1) ≡ (o, l) = cc in
    let y : r.0 ≡ o = ap (λ (q : A × ℕ). q.0) p in
    (r.1, ap (λ z. Some (z, r.1)) y))
    (λ e. let x : None ≡ Some (o, l) = sym (if_false (leb r.1 n) (Some (r.0, n - r.1)) None e) ∙ h in cc)

module _ {N : Type 0} (eq : N → N → Bool) (d : (x y : N) → Decides (eq x y) (x ≡ y)) where
  -- the bindings that were found make both sides of each pair equal
  pub unify-equal : (left : ℕ) (σ υ : Bindings N) (ps : Pairs N) (l : ℕ) → Acyclic σ → unify eq left σ ps ≡ Some (Some υ, l) → AreEqual υ ps
  unify-equal left σ υ ps l a h =
      let w = within-some left (solve eq left σ ps) (Some υ) l h in
      let g : GoodResult eq d σ ps (Some υ) = subst (λ r. GoodEnd eq d σ ps r) w.1 (solve-good eq d left σ ps a) in
      g.1.2

  -- whatever makes the pairs equal respects the bindings that were found
  pub unify-best : (left : ℕ) (σ υ : Bindings N) (ps : Pairs N) (l : ℕ) → Acyclic σ → unify eq left σ ps ≡ Some (Some υ, l)
      → (θ : ℕ → Term N) → Respects θ σ → Unifies θ ps → Respects θ υ
  unify-best left σ υ ps l a h θ r u =
      let w = within-some left (solve eq left σ ps) (Some υ) l h in
      let g : Respects θ υ = subst (λ q. BestEnd θ eq d q) w.1 (solve-best θ eq d left σ ps a r u) in
      g

  -- where none was found, nothing makes the pairs equal
  pub unify-none : (left : ℕ) (σ : Bindings N) (ps : Pairs N) (l : ℕ) → Acyclic σ → unify eq left σ ps ≡ Some (None, l) → (θ : ℕ → Term N)
      → Respects θ σ → Unifies θ ps → ⊥
  unify-none left σ ps l a h θ r u =
      let w = within-some left (solve eq left σ ps) None l h in
      let g : ⊥ = subst (λ q. BestEnd θ eq d q) w.1 (solve-best θ eq d left σ ps a r u) in
      g

  -- the same of so many reductions
  pub solved-equal : (k : ℕ) (σ υ : Bindings N) (ps : Pairs N) (c : ℕ) → Acyclic σ → solve eq k σ ps ≡ Some (Some υ, c)
      → (ρ : Bindings N) × ((υ ≡ ρ ++ σ) × Acyclic υ × AreEqual υ ps)
  solved-equal k σ υ ps c a h = let g : GoodResult eq d σ ps (Some υ) = subst (λ r. GoodEnd eq d σ ps r) h (solve-good eq d k σ ps a) in g

  pub solved-best : (k : ℕ) (σ υ : Bindings N) (ps : Pairs N) (c : ℕ) → Acyclic σ → solve eq k σ ps ≡ Some (Some υ, c) → (θ : ℕ → Term N)
      → Respects θ σ → Unifies θ ps → Respects θ υ
  solved-best k σ υ ps c a h θ r u = let g : Respects θ υ = subst (λ q. BestEnd θ eq d q) h (solve-best θ eq d k σ ps a r u) in g

  pub solved-none : (k : ℕ) (σ : Bindings N) (ps : Pairs N) (c : ℕ) → Acyclic σ → solve eq k σ ps ≡ Some (None, c) → (θ : ℕ → Term N)
      → Respects θ σ → Unifies θ ps → ⊥
  solved-none k σ ps c a h θ r u = let g : ⊥ = subst (λ q. BestEnd θ eq d q) h (solve-best θ eq d k σ ps a r u) in g
