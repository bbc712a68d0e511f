-- Whatever makes the pairs equal respects what solving gives, and so there is nothing that does where it gives none.
use Rattle.std.proofs.Common.{◌≡◌, ℕ, suc, zero, ◌+◌, ◌==◌, ◌<◌, ◌≤◌, Bool, true, false, ◌&&◌, ◌||◌, [], ◌∷◌, Option, Some, None, max, min}
use Rattle.std.proofs.Common.{sym, ◌∙◌, ap, subst, refl, ℤ, Decides, arith}
use Rattle.std.proofs.lemmas.Bool.{false≢true}
use Rattle.std.proofs.lemmas.Bool.Decides.{Decides-int_eq}
use Rattle.op_logic.specs.Term.{Term, var, int, node, Args, no_args, arg, arity, occurs, occurs_args, size, args_size, replace}
use Rattle.op_logic.specs.Term.{replace_args}
use Rattle.op_logic.specs.Bind.{Bindings, apply, lookup, follow, Pairs, Reduction, clash, goes, zip_args, bind_reduction, meet, reduction}
use Rattle.op_logic.specs.Bind.{Solved, add_steps, after, solve}
use Rattle.op_logic.specs.Laws.{Acyclic, instance_of, instances_of, Respects, Unifies}
use Rattle.op_logic.proofs.BoolCases.{by_test, by_order, if_true, if_false}
use Rattle.op_logic.proofs.AppliedBindings.{eq_of, of_eq, apply_args, apply-int, apply-node, apply-free}
use Rattle.op_logic.proofs.FollowedTerms.{by_follow, follow-free}
use Rattle.op_logic.proofs.SolvedPairs.{IsFree, GoodReduction, good-reduction}

or_either : {P : Type 0} (a b : Bool) → (a || b) ≡ true → (a ≡ true → P) → (b ≡ true → P) → P
or_either true b h f g = f refl
or_either false b h f g = g h

module _ {N : Type 0} (θ : ℕ → Term N) where
  mutual
    instance-replace : (v : ℕ) (s t : Term N) → θ v ≡ instance_of θ s → instance_of θ (replace v s t) ≡ instance_of θ t
    instance-replace v s (var w) h =
        by_test (v == w)
        (λ e. ap (instance_of θ) (if_true (v == w) s (var w) e) ∙ (sym h ∙ ap θ (eq_of v w e)))
        (λ e. ap (instance_of θ) (if_false (v == w) s (var w) e))
    instance-replace v s (int i) h = refl
    instance-replace v s (node f ts) h = ap (node f) (instances-replace v s ts h)

    instances-replace : (v : ℕ) (s : Term N) (ts : Args N) → θ v ≡ instance_of θ s
        → instances_of θ (replace_args v s ts) ≡ instances_of θ ts
    instances-replace v s no_args h = refl
    instances-replace v s (arg t ts) h =
        let a = instance-replace v s t h in
        let b = instances-replace v s ts h in
        cc

  pub apply-instance : (σ : Bindings N) (t : Term N) → Respects θ σ → instance_of θ (apply σ t) ≡ instance_of θ t
  apply-instance [] t r = refl
  apply-instance (p ∷ σ) t r =
      instance-replace p.0 (apply σ p.1) (apply σ t) (r.0 ∙ sym (apply-instance σ p.1 r.1)) ∙ apply-instance σ t r.1

  pub follow-instance : (σ : Bindings N) (t : Term N) → Respects θ σ → instance_of θ (follow σ t) ≡ instance_of θ t
  follow-instance [] t r = refl
  follow-instance (p ∷ σ) t r =
      let i : instance_of θ (follow σ t) ≡ instance_of θ t = follow-instance σ t r.1 in
      by_follow p.0 (follow σ p.1) (follow σ t)
      (λ q e. ap (instance_of θ) e ∙ (follow-instance σ p.1 r.1 ∙ (sym r.0 ∙ (sym (ap (instance_of θ) q) ∙ i))))
      (λ q e. ap (instance_of θ) e ∙ i)

  size-some : (t : Term N) → 0 < size t
  size-some (var v) = omega arith
  size-some (int i) = omega arith
  size-some (node f ts) = omega arith

  -- a variable's term is no greater than the term that it is in
  mutual
    occurs-size : (v : ℕ) (t : Term N) → occurs v t ≡ true → size (θ v) ≤ size (instance_of θ t)
    occurs-size v (var w) h = let e : size (θ v) ≡ size (θ w) = ap (λ x. size (θ x)) (eq_of v w h) in omega arith
    occurs-size v (int i) h = cc
    occurs-size v (node f ts) h = omega (arith, occurs_args-size v ts h)

    occurs_args-size : (v : ℕ) (ts : Args N) → occurs_args v ts ≡ true → size (θ v) ≤ args_size (instances_of θ ts)
    occurs_args-size v no_args h = cc
    occurs_args-size v (arg t ts) h =
        or_either (occurs v t) (occurs_args v ts) h
        (λ e. omega (arith, occurs-size v t e))
        (λ e. omega (arith, occurs_args-size v ts e))

  abbrev pub BestReduction : Reduction N → Type 0
  BestReduction (clash c) = ⊥
  BestReduction (goes τ qs c) = Respects θ τ × Unifies θ qs

  -- a term with no other value than its own node passes the occurs check
  best-bind : (v : ℕ) (t : Term N) (σ : Bindings N) (ps : Pairs N) → Respects θ σ → θ v ≡ instance_of θ t → Unifies θ ps
      → occurs v (apply σ t) ≡ false → BestReduction (bind_reduction v t σ ps)
  best-bind v t σ ps r e u o =
      let s : Term N = apply σ t in
      let g : BestReduction (goes ((v, t) ∷ σ) ps (1 + size s)) = ((e, r), u) in
      subst BestReduction (sym (if_false (occurs v s) (clash (1 + size s)) (goes ((v, t) ∷ σ) ps (1 + size s)) o)) g

  absent-int : (v : ℕ) (σ : Bindings N) (i : ℤ) → occurs v (apply σ (int i)) ≡ false
  absent-int v σ i = ap (occurs v) (apply-int σ i)

  absent-var : (v w : ℕ) (σ : Bindings N) → lookup σ w ≡ None → (v == w) ≡ false → occurs v (apply σ (var w)) ≡ false
  absent-var v w σ h e = ap (occurs v) (apply-free σ w h) ∙ e

  absent-node : (v : ℕ) (σ : Bindings N) (f : N) (ts : Args N) → Respects θ σ → θ v ≡ instance_of θ (node f ts)
      → occurs v (apply σ (node f ts)) ≡ false
  absent-node v σ f ts r e =
      let a : apply σ (node f ts) ≡ node f (apply_args σ ts) = apply-node σ f ts in
      by_test (occurs v (apply σ (node f ts)))
      (λ o. let o2 : occurs_args v (apply_args σ ts) ≡ true = sym (ap (occurs v) a) ∙ o in
      let l : size (θ v) ≤ args_size (instances_of θ (apply_args σ ts)) = occurs_args-size v (apply_args σ ts) o2 in
      let k : node f (instances_of θ (apply_args σ ts)) ≡ θ v = sym (ap (instance_of θ) a) ∙ (apply-instance σ (node f ts) r ∙ sym e) in
      let m : suc (args_size (instances_of θ (apply_args σ ts))) ≡ size (θ v) = ap size k in
      absurd (omega arith))
      (λ o. o)

  best-vars : (v w : ℕ) (σ : Bindings N) (ps : Pairs N) → Respects θ σ → lookup σ v ≡ None → lookup σ w ≡ None → (v == w) ≡ false
      → θ v ≡ θ w → Unifies θ ps → BestReduction (bind_reduction (max v w) (var (min v w)) σ ps)
  best-vars v w σ ps r hv hw n e u =
      by_order v w
      (λ l. let x : max v w ≡ w = omega arith in
      let m : min v w ≡ v = omega arith in
      let o : (w == v) ≡ false = by_test (w == v) (λ q. absurd (false≢true (sym n ∙ of_eq v w (sym (eq_of w v q))))) (λ q. q) in
      subst (λ (k : ℕ). BestReduction (bind_reduction k (var (min v w)) σ ps)) (sym x)
      (subst (λ (k : ℕ). BestReduction (bind_reduction w (var k) σ ps)) (sym m)
      (best-bind w (var v) σ ps r (sym e) u (absent-var w v σ hv o))))
      (λ l. let x : max v w ≡ v = omega arith in
      let m : min v w ≡ w = omega arith in
      subst (λ (k : ℕ). BestReduction (bind_reduction k (var (min v w)) σ ps)) (sym x)
      (subst (λ (k : ℕ). BestReduction (bind_reduction v (var k) σ ps)) (sym m)
      (best-bind v (var w) σ ps r e u (absent-var v w σ hw n))))

  arity-instances : (ts : Args N) → arity (instances_of θ ts) ≡ arity ts
  arity-instances no_args = refl
  arity-instances (arg t ts) = ap suc (arity-instances ts)

  zip-unifies : (ts us : Args N) (ps : Pairs N) → instances_of θ ts ≡ instances_of θ us → Unifies θ ps → Unifies θ (zip_args ts us ps)
  zip-unifies no_args no_args ps e u = u
  zip-unifies no_args (arg x us) ps e u = u
  zip-unifies (arg t ts) no_args ps e u = u
  zip-unifies (arg t ts) (arg x us) ps e u =
      let a : instance_of θ t ≡ instance_of θ x = cc in
      let b : instances_of θ ts ≡ instances_of θ us = cc in
      (a, zip-unifies ts us ps b u)

  module _ (eq : N → N → Bool) (d : (x y : N) → Decides (eq x y) (x ≡ y)) where
    best-meet : (a b : Term N) (σ : Bindings N) (ps : Pairs N) → Respects θ σ → IsFree σ a → IsFree σ b
        → instance_of θ a ≡ instance_of θ b → Unifies θ ps → BestReduction (meet eq a b σ ps)
    best-meet (var v) (var w) σ ps r hv hw e u =
        by_test (v == w)
        (λ q. subst BestReduction (sym (if_true _ _ _ q)) (let g : BestReduction (goes σ ps 1) = (r, u) in g))
        (λ q. subst BestReduction (sym (if_false _ _ _ q)) (best-vars v w σ ps r hv hw q e u))
    best-meet (var v) (int j) σ ps r hv hw e u = best-bind v (int j) σ ps r e u (absent-int v σ j)
    best-meet (var v) (node g us) σ ps r hv hw e u = best-bind v (node g us) σ ps r e u (absent-node v σ g us r e)
    best-meet (int i) (var w) σ ps r hv hw e u = best-bind w (int i) σ ps r (sym e) u (absent-int w σ i)
    best-meet (int i) (int j) σ ps r hv hw e u =
        let n : i ≡ j = cc in
        subst BestReduction (sym (if_true _ _ _ ((Decides-int_eq i j).1 n))) (let g : BestReduction (goes σ ps 1) = (r, u) in g)
    best-meet (int i) (node g us) σ ps r hv hw e u = cc
    best-meet (node f ts) (var w) σ ps r hv hw e u = best-bind w (node f ts) σ ps r (sym e) u (absent-node w σ f ts r (sym e))
    best-meet (node f ts) (int j) σ ps r hv hw e u = cc
    best-meet (node f ts) (node g us) σ ps r hv hw e u =
        let n : f ≡ g = cc in
        let m : instances_of θ ts ≡ instances_of θ us = cc in
        let k : arity ts ≡ arity us = sym (arity-instances ts) ∙ (ap arity m ∙ arity-instances us) in
        let q : (eq f g && (arity ts == arity us)) ≡ true = ap (λ b. b && (arity ts == arity us)) ((d f g).1 n)
        ∙ of_eq (arity ts) (arity us) k in
        subst BestReduction (sym (if_true _ _ _ q))
        (let z : BestReduction (goes σ (zip_args ts us ps) 1) = (r, zip-unifies ts us ps m u) in z)

    free-followed : (σ : Bindings N) (t q : Term N) → Acyclic σ → follow σ t ≡ q → IsFree σ q
    free-followed σ t (var v) a h = follow-free σ t v a h
    free-followed σ t (int i) a h = tt
    free-followed σ t (node f ts) a h = tt

    best-reduction : (σ : Bindings N) (a b : Term N) (ps : Pairs N) → Acyclic σ → Respects θ σ → instance_of θ a ≡ instance_of θ b
        → Unifies θ ps → BestReduction (reduction eq σ a b ps)
    best-reduction σ a b ps y r e u =
        best-meet (follow σ a) (follow σ b) σ ps r (free-followed σ a (follow σ a) y refl) (free-followed σ b (follow σ b) y refl)
        (follow-instance σ a r ∙ (e ∙ sym (follow-instance σ b r))) u

    abbrev pub BestResult : Option (Bindings N) → Type 0
    BestResult None = ⊥
    BestResult (Some υ) = Respects θ υ

    abbrev pub BestEnd : Option (Solved N) → Type 0
    BestEnd None = Unit {0}
    BestEnd (Some r) = BestResult r.0

    best-add : (c : ℕ) (r : Option (Solved N)) → BestEnd r → BestEnd (add_steps c r)
    best-add c None h = tt
    best-add c (Some r) h = h

    best-after : (σ : Bindings N) (a b : Term N) (ps : Pairs N) (rest : Bindings N → Pairs N → Option (Solved N))
        → ((τ : Bindings N) (qs : Pairs N) → Acyclic τ → Respects θ τ → Unifies θ qs → BestEnd (rest τ qs)) → (t : Reduction N)
        → GoodReduction σ a b ps t → BestReduction t → BestEnd (after t rest)
    best-after σ a b ps rest i (clash c) g h = absurd h
    best-after σ a b ps rest i (goes τ qs c) g h = best-add c (rest τ qs) (i τ qs g.1.1 h.0 h.1)

    pub solve-best : (k : ℕ) (σ : Bindings N) (ps : Pairs N) → Acyclic σ → Respects θ σ → Unifies θ ps → BestEnd (solve eq k σ ps)
    solve-best k σ [] y r u = r
    solve-best zero σ (p ∷ ps) y r u = tt
    solve-best (suc k) σ (p ∷ ps) y r u =
        best-after σ p.0 p.1 ps (λ τ qs. solve eq k τ qs) (λ τ qs z s w. solve-best k τ qs z s w) (reduction eq σ p.0 p.1 ps)
        (good-reduction eq d σ p.0 p.1 ps y) (best-reduction σ p.0 p.1 ps y r u.0 u.1)
