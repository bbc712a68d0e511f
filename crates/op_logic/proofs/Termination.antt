-- Solving ends: each reduction binds one more of finitely many variables, or leaves smaller pairs.
use Rattle.std.proofs.Common.{◌≡◌, ℕ, suc, zero, ◌+◌, ◌==◌, ◌<◌, ◌≤◌, Bool, true, false, ◌&&◌, cond, [], ◌∷◌, Option, Some, None, max, min}
use Rattle.std.proofs.Common.{sym, ◌∙◌, ap, subst, refl, arith, Decides, ◌⊎◌, inl, inr}
use Rattle.std.specs.Ordering.{int_eq}
use Rattle.std.proofs.lemmas.Bool.{false≢true}
use Rattle.op_logic.specs.Term.{Term, var, int, node, Args, no_args, arg, arity, occurs, size, args_size, IsWithin, ArgsWithin}
use Rattle.op_logic.specs.Bind.{Bindings, apply, lookup, follow, Pairs, Reduction, clash, goes, zip_args, bind_reduction, meet, reduction}
use Rattle.op_logic.specs.Bind.{Solved, add_steps, after, solve}
use Rattle.op_logic.specs.Laws.{Acyclic}
use Rattle.op_logic.proofs.BoolCases.{by_test, by_order, if_true, if_false}
use Rattle.op_logic.proofs.AppliedBindings.{eq_of, of_eq, apply_args, apply-node, apply_args-arg, lookup-here, lookup-there}
use Rattle.op_logic.proofs.FollowedTerms.{by_follow, apply-follow, follow-free}
use Rattle.op_logic.proofs.SolvedPairs.{IsFree, GoodReduction, good-reduction}

cond-le : (b : Bool) (x y : ℕ) → x ≤ y → x ≤ cond b (suc y) y
cond-le true x y h = omega arith
cond-le false x y h = h

cond-more : (b : Bool) (x y : ℕ) → x ≤ y → cond b (suc x) x ≤ cond b (suc y) y
cond-more true x y h = omega arith
cond-more false x y h = h

cond-less : (b : Bool) (x y : ℕ) → x < y → cond b (suc x) x < cond b (suc y) y
cond-less true x y h = omega arith
cond-less false x y h = h

module _ {N : Type 0} where
  mutual
    more-within : (n m : ℕ) → n ≤ m → (t : Term N) → IsWithin n t → IsWithin m t
    more-within n m l (var v) h = omega (arith, h)
    more-within n m l (int i) h = tt
    more-within n m l (node f ts) h = more-args-within n m l ts h

    more-args-within : (n m : ℕ) → n ≤ m → (ts : Args N) → ArgsWithin n ts → ArgsWithin m ts
    more-args-within n m l no_args h = tt
    more-args-within n m l (arg t ts) h = (more-within n m l t h.0, more-args-within n m l ts h.1)

  -- a number that all variables are below
  abbrev mutual
    vars : Term N → ℕ
    vars (var v) = suc v
    vars (int i) = 0
    vars (node f ts) = vars_args ts

    vars_args : Args N → ℕ
    vars_args no_args = 0
    vars_args (arg t ts) = vars t + vars_args ts

  mutual
    vars-within : (t : Term N) → IsWithin (vars t) t
    vars-within (var v) = omega arith
    vars-within (int i) = tt
    vars-within (node f ts) = vars_args-within ts

    vars_args-within : (ts : Args N) → ArgsWithin (vars_args ts) ts
    vars_args-within no_args = tt
    vars_args-within (arg t ts) = (
      more-within (vars t) (vars t + vars_args ts) (omega arith) t (vars-within t),
      more-args-within (vars_args ts)
          (vars t + vars_args ts) (omega arith) ts (vars_args-within ts),
    )

  abbrev AreWithin : ℕ → Bindings N → Type 0
  AreWithin n [] = Unit {0}
  AreWithin n (p ∷ σ) = (p.0 < n) × IsWithin n p.1 × AreWithin n σ

  abbrev PairsWithin : ℕ → Pairs N → Type 0
  PairsWithin n [] = Unit {0}
  PairsWithin n (p ∷ ps) = IsWithin n p.0 × IsWithin n p.1 × PairsWithin n ps

  abbrev all_vars : Bindings N → ℕ
  all_vars [] = 0
  all_vars (p ∷ σ) = (suc p.0 + vars p.1) + all_vars σ

  abbrev pair_vars : Pairs N → ℕ
  pair_vars [] = 0
  pair_vars (p ∷ ps) = (vars p.0 + vars p.1) + pair_vars ps

  bindings-within : (n : ℕ) (σ : Bindings N) → all_vars σ ≤ n → AreWithin n σ
  bindings-within n [] h = tt
  bindings-within n (p ∷ σ) h =
      (omega arith, more-within (vars p.1) n (omega arith) p.1 (vars-within p.1), bindings-within n σ (omega arith))

  pairs-within : (n : ℕ) (ps : Pairs N) → pair_vars ps ≤ n → PairsWithin n ps
  pairs-within n [] h = tt
  pairs-within n (p ∷ ps) h = (
    more-within (vars p.0) n (omega arith) p.0 (vars-within p.0),
    more-within (vars p.1) n (omega arith) p.1
        (vars-within p.1),
    pairs-within n ps (omega arith),
  )

  follow-within : (n : ℕ) (σ : Bindings N) (t : Term N) → AreWithin n σ → IsWithin n t → IsWithin n (follow σ t)
  follow-within n [] t w h = h
  follow-within n (p ∷ σ) t w h =
      by_follow p.0 (follow σ p.1) (follow σ t)
      (λ q e. subst (λ (x : Term N). IsWithin n x) (sym e) (follow-within n σ p.1 w.2 w.1))
      (λ q e. subst (λ (x : Term N). IsWithin n x) (sym e) (follow-within n σ t w.2 h))

  -- how many variables below n are unbound
  abbrev is_free : Option (Term N) → Bool
  is_free None = true
  is_free (Some t) = false

  abbrev free : ℕ → Bindings N → ℕ
  free zero σ = 0
  free (suc n) σ = cond (is_free (lookup σ n)) (suc (free n σ)) (free n σ)

  -- what binding v does to the look-up of m
  free-here : (v m : ℕ) (t : Term N) (σ : Bindings N) (x : ℕ) → (v == m) ≡ true → cond (is_free (lookup ((v, t) ∷ σ) m)) (suc x) x ≡ x
  free-here v m t σ x e = ap (λ (o : Option (Term N)). cond (is_free o) (suc x) x) (lookup-here (v, t) σ m e)

  free-there : (v m : ℕ) (t : Term N) (σ : Bindings N) (x : ℕ) → (v == m) ≡ false
      → cond (is_free (lookup ((v, t) ∷ σ) m)) (suc x) x ≡ cond (is_free (lookup σ m)) (suc x) x
  free-there v m t σ x e = ap (λ (o : Option (Term N)). cond (is_free o) (suc x) x) (lookup-there (v, t) σ m e)

  free-le : (n v : ℕ) (t : Term N) (σ : Bindings N) → free n ((v, t) ∷ σ) ≤ free n σ
  free-le zero v t σ = omega arith
  free-le (suc n) v t σ =
      let i : free n ((v, t) ∷ σ) ≤ free n σ = free-le n v t σ in
      by_test (v == n)
      (λ e. omega (arith, free-here v n t σ (free n ((v, t) ∷ σ)) e, cond-le (is_free (lookup σ n)) (free n ((v, t) ∷ σ)) (free n σ) i))
      (λ e. omega (arith, free-there v n t σ (free n ((v, t) ∷ σ)) e, cond-more (is_free (lookup σ n)) (free n ((v, t) ∷ σ)) (free n σ) i))

  free-falls : (n v : ℕ) (t : Term N) (σ : Bindings N) → v < n → lookup σ v ≡ None → free n ((v, t) ∷ σ) < free n σ
  free-falls zero v t σ h l = absurd (omega arith)
  free-falls (suc n) v t σ h l =
      by_test (v == n)
      (λ e. let m : lookup σ n ≡ None = ap (lookup σ) (sym (eq_of v n e)) ∙ l in
      let q : cond (is_free (lookup σ n)) (suc (free n σ)) (free n σ) ≡ suc (free n σ) =
      ap (λ (o : Option (Term N)). cond (is_free o) (suc (free n σ)) (free n σ)) m in
      omega (arith, free-here v n t σ (free n ((v, t) ∷ σ)) e, free-le n v t σ))
      (λ e. let d : v < n = by_order v n (λ k. k) (λ k. let j : v ≡ n = omega arith in absurd (false≢true (sym e ∙ of_eq v n j))) in
      omega (
        arith,
        free-there v n t σ (free n ((v, t) ∷ σ)) e,
        cond-less (is_free (lookup σ n)) (free n ((v, t) ∷ σ)) (free n σ)
            (free-falls n v t σ d l),
      ))

  -- the nodes of all values
  abbrev weight : Bindings N → Pairs N → ℕ
  weight σ [] = 0
  weight σ (p ∷ ps) = (size (apply σ p.0) + size (apply σ p.1)) + weight σ ps

  size-some : (t : Term N) → 0 < size t
  size-some (var x) = omega arith
  size-some (int i) = omega arith
  size-some (node f ts) = omega arith

  zip-weight : (σ : Bindings N) (ts us : Args N) (ps : Pairs N)
      → weight σ (zip_args ts us ps) ≤ (args_size (apply_args σ ts) + args_size (apply_args σ us)) + weight σ ps
  zip-weight σ no_args us ps = omega arith
  zip-weight σ (arg t ts) no_args ps = omega arith
  zip-weight σ (arg t ts) (arg u us) ps =
      omega (arith, zip-weight σ ts us ps, ap args_size (apply_args-arg σ t ts), ap args_size (apply_args-arg σ u us))

  zip-within : (n : ℕ) (ts us : Args N) (ps : Pairs N) → ArgsWithin n ts → ArgsWithin n us → PairsWithin n ps
      → PairsWithin n (zip_args ts us ps)
  zip-within n no_args us ps h k w = w
  zip-within n (arg t ts) no_args ps h k w = w
  zip-within n (arg t ts) (arg u us) ps h k w = (h.0, k.0, zip-within n ts us ps h.1 k.1 w)

  -- a reduction binds one more variable, or leaves less
  abbrev Smaller : ℕ → Bindings N → ℕ → Reduction N → Type 0
  Smaller n σ w (clash c) = Unit {0}
  Smaller n σ w (goes τ qs c) = AreWithin n τ × PairsWithin n qs × ((free n τ < free n σ) ⊎ ((free n τ ≤ free n σ) × (weight τ qs < w)))

  small-bind : (n w v : ℕ) (t : Term N) (σ : Bindings N) (ps : Pairs N) → AreWithin n σ → PairsWithin n ps → v < n → IsWithin n t
      → lookup σ v ≡ None → Smaller n σ w (bind_reduction v t σ ps)
  small-bind n w v t σ ps hσ hp hv ht l =
      let s : Term N = apply σ t in
      by_test (occurs v s)
      (λ o. subst (Smaller n σ w) (sym (if_true (occurs v s) (clash (1 + size s)) (goes ((v, t) ∷ σ) ps (1 + size s)) o)) tt)
      (λ o. let g : Smaller n σ w (goes ((v, t) ∷ σ) ps (1 + size s)) = ((hv, ht, hσ), hp, inl (free-falls n v t σ hv l)) in
      subst (Smaller n σ w) (sym (if_false (occurs v s) (clash (1 + size s)) (goes ((v, t) ∷ σ) ps (1 + size s)) o)) g)

  small-vars : (n w x y : ℕ) (σ : Bindings N) (ps : Pairs N) → AreWithin n σ → PairsWithin n ps → x < n → y < n → lookup σ x ≡ None
      → lookup σ y ≡ None → Smaller n σ w (bind_reduction (max x y) (var (min x y)) σ ps)
  small-vars n w x y σ ps hσ hp hx hy lx ly =
      by_order x y
      (λ l. let a : max x y ≡ y = omega arith in
      let b : min x y ≡ x = omega arith in
      subst (λ (m : ℕ). Smaller n σ w (bind_reduction m (var (min x y)) σ ps)) (sym a)
      (subst (λ (m : ℕ). Smaller n σ w (bind_reduction y (var m) σ ps)) (sym b) (small-bind n w y (var x) σ ps hσ hp hy hx ly)))
      (λ l. let a : max x y ≡ x = omega arith in
      let b : min x y ≡ y = omega arith in
      subst (λ (m : ℕ). Smaller n σ w (bind_reduction m (var (min x y)) σ ps)) (sym a)
      (subst (λ (m : ℕ). Smaller n σ w (bind_reduction x (var m) σ ps)) (sym b) (small-bind n w x (var y) σ ps hσ hp hx hy lx)))

  small-goes : (n w : ℕ) (σ : Bindings N) (qs : Pairs N) → AreWithin n σ → PairsWithin n qs → weight σ qs < w → Smaller n σ w (goes σ qs 1)
  small-goes n w σ qs hσ hp l = (hσ, hp, inr (omega arith, l))

  module _ (eq : N → N → Bool) (d : (x y : N) → Decides (eq x y) (x ≡ y)) where
    small-meet : (n w : ℕ) (a b : Term N) (σ : Bindings N) (ps : Pairs N) → AreWithin n σ → PairsWithin n ps → IsWithin n a → IsWithin n b
        → IsFree σ a → IsFree σ b → (size (apply σ a) + size (apply σ b)) + weight σ ps ≤ w → Smaller n σ w (meet eq a b σ ps)
    small-meet n w (var x) (var y) σ ps hσ hp ha hb fa fb l =
        by_test (x == y)
        (λ e. subst (Smaller n σ w) (sym (if_true (x == y) (goes σ ps 1) (bind_reduction (max x y) (var (min x y)) σ ps) e))
        (small-goes n w σ ps hσ hp (omega (arith, size-some (apply σ (var x))))))
        (λ e. subst (Smaller n σ w) (sym (if_false (x == y) (goes σ ps 1) (bind_reduction (max x y) (var (min x y)) σ ps) e))
        (small-vars n w x y σ ps hσ hp ha hb fa fb))
    small-meet n w (var x) (int j) σ ps hσ hp ha hb fa fb l = small-bind n w x (int j) σ ps hσ hp ha hb fa
    small-meet n w (var x) (node g us) σ ps hσ hp ha hb fa fb l = small-bind n w x (node g us) σ ps hσ hp ha hb fa
    small-meet n w (int i) (var y) σ ps hσ hp ha hb fa fb l = small-bind n w y (int i) σ ps hσ hp hb ha fb
    small-meet n w (int i) (int j) σ ps hσ hp ha hb fa fb l =
        by_test (int_eq i j)
        (λ e. subst (Smaller n σ w) (sym (if_true (int_eq i j) (goes σ ps 1) (clash 1) e)) (small-goes n w σ ps hσ hp
        (omega (arith, size-some (apply σ (int i))))))
        (λ e. subst (Smaller n σ w) (sym (if_false (int_eq i j) (goes σ ps 1) (clash 1) e)) tt)
    small-meet n w (int i) (node g us) σ ps hσ hp ha hb fa fb l = tt
    small-meet n w (node f ts) (var y) σ ps hσ hp ha hb fa fb l = small-bind n w y (node f ts) σ ps hσ hp hb ha fb
    small-meet n w (node f ts) (int j) σ ps hσ hp ha hb fa fb l = tt
    small-meet n w (node f ts) (node g us) σ ps hσ hp ha hb fa fb l =
        let b : Bool = eq f g && (arity ts == arity us) in
        let t : Reduction N = goes σ (zip_args ts us ps) 1 in
        by_test b
        (λ e. subst (Smaller n σ w) (sym (if_true b t (clash 1) e))
        (small-goes n w σ (zip_args ts us ps) hσ (zip-within n ts us ps ha hb hp)
        (omega (arith, zip-weight σ ts us ps, ap size (apply-node σ f ts), ap size (apply-node σ g us)))))
        (λ e. subst (Smaller n σ w) (sym (if_false b t (clash 1) e)) tt)

    free-followed : (σ : Bindings N) (t q : Term N) → Acyclic σ → follow σ t ≡ q → IsFree σ q
    free-followed σ t (var v) a h = follow-free σ t v a h
    free-followed σ t (int i) a h = tt
    free-followed σ t (node f ts) a h = tt

    small-reduction : (n w : ℕ) (σ : Bindings N) (a b : Term N) (ps : Pairs N) → Acyclic σ → AreWithin n σ → PairsWithin n ((a, b) ∷ ps)
        → weight σ ((a, b) ∷ ps) ≤ w → Smaller n σ w (reduction eq σ a b ps)
    small-reduction n w σ a b ps y hσ hp l =
        small-meet n w (follow σ a) (follow σ b) σ ps hσ hp.2 (follow-within n σ a hσ hp.0) (follow-within n σ b hσ hp.1)
        (free-followed σ a (follow σ a) y refl) (free-followed σ b (follow σ b) y refl)
        (omega (arith, ap size (apply-follow σ a y), ap size (apply-follow σ b y)))

    abbrev pub Ends : Bindings N → Pairs N → Type 0
    Ends σ ps = (k : ℕ) × ((r : Solved N) × (solve eq k σ ps ≡ Some r))

    ends-after : (n u w : ℕ) (σ : Bindings N) (p : Term N × Term N) (ps : Pairs N) → free n σ ≤ u
        → ((τ : Bindings N) (qs : Pairs N) → Acyclic τ → AreWithin n τ → PairsWithin n qs → free n τ < u → Ends τ qs)
        → ((τ : Bindings N) (qs : Pairs N) → Acyclic τ → AreWithin n τ → PairsWithin n qs → free n τ ≤ u → weight τ qs ≤ w → Ends τ qs)
        → (t : Reduction N) → reduction eq σ p.0 p.1 ps ≡ t → GoodReduction σ p.0 p.1 ps t → Smaller n σ (suc w) t → Ends σ (p ∷ ps)
    ends-after n u w σ p ps l ih jh (clash c) e g s = (1, ((None, c), ap (λ t. after t (λ τ qs. solve eq 0 τ qs)) e))
    ends-after n u w σ p ps l ih jh (goes τ qs c) e g s =
        let m : Ends τ qs = elim s.2 [
          | inl z ↦ ih τ qs g.1.1 s.0 s.1 (omega arith)
          | inr z ↦ jh τ qs g.1.1 s.0 s.1 (omega (arith, z.0))
              (omega (arith, z.1))
        ] in
        (suc m.0, ((m.1.0.0, c + m.1.0.1), ap (λ t. after t (λ υ rs. solve eq m.0 υ rs)) e ∙ ap (add_steps c) m.1.1))

    ends-inner : (n u : ℕ) → ((τ : Bindings N) (qs : Pairs N) → Acyclic τ → AreWithin n τ → PairsWithin n qs → free n τ < u → Ends τ qs)
        → (w : ℕ) (σ : Bindings N) (ps : Pairs N) → Acyclic σ → AreWithin n σ → PairsWithin n ps → free n σ ≤ u
        → weight σ ps ≤ w → Ends σ ps
    ends-inner n u ih w σ [] y hσ hp l m = (0, ((Some σ, 0), refl))
    ends-inner n u ih zero σ (p ∷ ps) y hσ hp l m = absurd (omega (arith, size-some (apply σ p.0)))
    ends-inner n u ih (suc w) σ (p ∷ ps) y hσ hp l m =
        ends-after n u w σ p ps l ih (λ τ qs a b c k q. ends-inner n u ih w τ qs a b c k q) (reduction eq σ p.0 p.1 ps) refl
        (good-reduction eq d σ p.0 p.1 ps y) (small-reduction n (suc w) σ p.0 p.1 ps y hσ hp m)

    ends-outer : (n u : ℕ) (σ : Bindings N) (ps : Pairs N) → Acyclic σ → AreWithin n σ → PairsWithin n ps → free n σ < u → Ends σ ps
    ends-outer n zero σ ps y hσ hp l = absurd (omega arith)
    ends-outer n (suc u) σ ps y hσ hp l =
        ends-inner n u (λ τ qs a b c k. ends-outer n u τ qs a b c k) (weight σ ps) σ ps y hσ hp (omega arith) (omega arith)

    -- so many reductions are enough
    pub solve-ends : (σ : Bindings N) (ps : Pairs N) → Acyclic σ → Ends σ ps
    solve-ends σ ps y =
        let n : ℕ = all_vars σ + pair_vars ps in
        ends-outer n (suc (free n σ)) σ ps y (bindings-within n σ (omega arith)) (pairs-within n ps (omega arith)) (omega arith)
