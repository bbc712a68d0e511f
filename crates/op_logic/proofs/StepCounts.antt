-- The count of steps: more reductions give the same, and a budget decides by the count alone.
use Rattle.std.proofs.Common.{◌≡◌, ℕ, suc, zero, ◌+◌, ◌-◌, ◌==◌, ◌<◌, ◌≤◌, leb, cond, Bool, true, false, [], ◌∷◌, Option, Some, None, max}
use Rattle.std.proofs.Common.{min, sym, ◌∙◌, ap, subst, refl, arith}
use Rattle.std.proofs.lemmas.Bool.{le-leb, lt-leb}
use Rattle.op_logic.specs.Term.{Term, var, int, node, occurs, size}
use Rattle.op_logic.specs.Bind.{Bindings, apply, follow, Pairs, Reduction, clash, goes, zip_args, bind_reduction, same_head, meet}
use Rattle.op_logic.specs.Bind.{reduction, Solved, add_steps, after, solve, within, unify}
use Rattle.op_logic.specs.Laws.{pay, steps_of}
use Rattle.op_logic.proofs.BoolCases.{by_test, by_order, if_true, if_false}

within-there : {A : Type 0} (n : ℕ) (r : A × ℕ) → r.1 ≤ n → within n (Some r) ≡ Some (r.0, n - r.1)
within-there n r h = if_true _ _ _ (le-leb r.1 n h)

within-over : {A : Type 0} (n : ℕ) (r : A × ℕ) → n < r.1 → within n (Some r) ≡ None
within-over n r h = if_false _ _ _ (lt-leb r.1 n h)

module _ {N : Type 0} where
  -- the steps of a reduction are taken first
  within-add : (n c : ℕ) (r : Option (Solved N)) → within n (add_steps c r) ≡ cond (leb c n) (within (n - c) r) None
  within-add n c None = by_test (leb c n) (λ e. sym (if_true _ _ _ e)) (λ e. sym (if_false _ _ _ e))
  within-add n c (Some r) =
      by_order n c
      (λ l. within-over n (r.0, c + r.1) (omega arith) ∙ sym (if_false _ _ _ (lt-leb c n l)))
      (λ l. by_order n (c + r.1)
      (λ k. within-over n (r.0, c + r.1) k ∙ sym (if_true _ _ _ (le-leb c n l) ∙ within-over (n - c) r (omega arith)))
      (λ k. let e : n - (c + r.1) ≡ (n - c) - r.1 = omega arith in
      within-there n (r.0, c + r.1) k ∙ (ap (λ m. Some (r.0, m)) e ∙ sym (if_true _ _ _ (le-leb c n l)
      ∙ within-there (n - c) r (omega arith)))))

  bind-paid : (v : ℕ) (t : Term N) (σ : Bindings N) (ps : Pairs N) → 0 < steps_of (bind_reduction v t σ ps)
  bind-paid v t σ ps =
      let s : Term N = apply σ t in
      let c : ℕ = 1 + size s in
      let l : 0 < c = omega arith in
      by_test (occurs v s)
      (λ e. subst (λ (x : Reduction N). 0 < steps_of x) (sym (if_true (occurs v s) (clash c) (goes ((v, t) ∷ σ) ps c) e)) l)
      (λ e. subst (λ (x : Reduction N). 0 < steps_of x) (sym (if_false (occurs v s) (clash c) (goes ((v, t) ∷ σ) ps c) e)) l)

  if-paid : (b : Bool) (x y : Reduction N) → 0 < steps_of x → 0 < steps_of y → 0 < steps_of (cond b x y)
  if-paid true x y h k = h
  if-paid false x y h k = k

  pub meet-paid : (eq : N → N → Bool) (a b : Term N) (σ : Bindings N) (ps : Pairs N) → 0 < steps_of (meet eq a b σ ps)
  meet-paid eq (var v) (var w) σ ps =
      if-paid (v == w) (goes σ ps 1) (bind_reduction (max v w) (var (min v w)) σ ps) (omega arith)
      (bind-paid (max v w) (var (min v w)) σ ps)
  meet-paid eq (var v) (int j) σ ps = bind-paid v (int j) σ ps
  meet-paid eq (var v) (node g us) σ ps = bind-paid v (node g us) σ ps
  meet-paid eq (int i) (var w) σ ps = bind-paid w (int i) σ ps
  meet-paid eq (int i) (int j) σ ps = if-paid (same_head eq (int i) (int j)) (goes σ ps 1) (clash 1) (omega arith) (omega arith)
  meet-paid eq (int i) (node g us) σ ps = omega arith
  meet-paid eq (node f ts) (var w) σ ps = bind-paid w (node f ts) σ ps
  meet-paid eq (node f ts) (int j) σ ps = omega arith
  meet-paid eq (node f ts) (node g us) σ ps =
      if-paid (same_head eq (node f ts) (node g us)) (goes σ (zip_args ts us ps) 1) (clash 1) (omega arith) (omega arith)

  -- each reduction counts at least one step
  pub reduction-paid : (eq : N → N → Bool) (σ : Bindings N) (a b : Term N) (ps : Pairs N) → 0 < steps_of (reduction eq σ a b ps)
  reduction-paid eq σ a b ps = meet-paid eq (follow σ a) (follow σ b) σ ps

  -- what is left of a reduction, with so many steps
  within-after : (n : ℕ) (t : Reduction N) (rest : Bindings N → Pairs N → Option (Solved N))
      → within n (after t rest) ≡ pay n t (λ m σ ps. within m (rest σ ps))
  within-after n (clash c) rest = refl
  within-after n (goes σ ps c) rest = within-add n c (rest σ ps)

  pay-same : (n : ℕ) (t : Reduction N) (f g : ℕ → Bindings N → Pairs N → Option (Solved N)) → 0 < steps_of t
      → ((m : ℕ) (σ : Bindings N) (ps : Pairs N) → m < n → f m σ ps ≡ g m σ ps) → pay n t f ≡ pay n t g
  pay-same n (clash c) f g h e = refl
  pay-same n (goes σ ps c) f g h e =
      by_order n c
      (λ l. if_false _ _ _ (lt-leb c n l) ∙ sym (if_false _ _ _ (lt-leb c n l)))
      (λ l. if_true _ _ _ (le-leb c n l) ∙ (e (n - c) σ ps (omega arith) ∙ sym (if_true _ _ _ (le-leb c n l))))

  pay-none : (t : Reduction N) (f : ℕ → Bindings N → Pairs N → Option (Solved N)) → 0 < steps_of t → pay 0 t f ≡ None
  pay-none (clash c) f h = if_false _ _ _ (lt-leb c 0 h)
  pay-none (goes σ ps c) f h = if_false _ _ _ (lt-leb c 0 h)

  module _ (eq : N → N → Bool) where
    -- as many reductions as there are steps are enough
    pub unify-enough : (b n k : ℕ) → k ≤ b → n ≤ k → (σ : Bindings N) (ps : Pairs N)
        → within n (solve eq k σ ps) ≡ within n (solve eq n σ ps)
    unify-enough b n k h l σ [] = refl
    unify-enough b zero zero h l σ (p ∷ ps) = refl
    unify-enough b zero (suc k) h l σ (p ∷ ps) =
        within-after 0 (reduction eq σ p.0 p.1 ps) (λ τ qs. solve eq k τ qs)
        ∙ pay-none (reduction eq σ p.0 p.1 ps) _ (reduction-paid eq σ p.0 p.1 ps)
    unify-enough b (suc n) zero h l σ (p ∷ ps) = absurd (omega arith)
    unify-enough zero (suc n) (suc k) h l σ (p ∷ ps) = absurd (omega arith)
    unify-enough (suc b) (suc n) (suc k) h l σ (p ∷ ps) =
        let t : Reduction N = reduction eq σ p.0 p.1 ps in
        within-after (suc n) t (λ τ qs. solve eq k τ qs)
        ∙ (pay-same (suc n) t (λ m τ qs. within m (solve eq k τ qs)) (λ m τ qs. within m (solve eq n τ qs)) (reduction-paid eq σ p.0 p.1 ps)
        (λ m τ qs w. unify-enough b m k (omega arith) (omega arith) τ qs ∙ sym (unify-enough b m n (omega arith) (omega arith) τ qs))
        ∙ sym (within-after (suc n) t (λ τ qs. solve eq n τ qs)))

    -- one reduction of the loop
    pub unify-reduction : (left : ℕ) (σ : Bindings N) (p : Term N × Term N) (ps : Pairs N)
        → unify eq left σ (p ∷ ps) ≡ pay left (reduction eq σ p.0 p.1 ps) (unify eq)
    unify-reduction zero σ p ps = sym (pay-none (reduction eq σ p.0 p.1 ps) (unify eq) (reduction-paid eq σ p.0 p.1 ps))
    unify-reduction (suc n) σ p ps =
        let t : Reduction N = reduction eq σ p.0 p.1 ps in
        within-after (suc n) t (λ τ qs. solve eq n τ qs)
        ∙ pay-same (suc n) t (λ m τ qs. within m (solve eq n τ qs)) (unify eq) (reduction-paid eq σ p.0 p.1 ps)
        (λ m τ qs w. unify-enough n m n (omega arith) (omega arith) τ qs)

    -- more reductions give the same
    abbrev Stays : Option (Solved N) → Option (Solved N) → Type 0
    Stays None r = Unit {0}
    Stays (Some q) r = r ≡ Some q

    stays-add : (c : ℕ) (q r : Option (Solved N)) → Stays q r → Stays (add_steps c q) (add_steps c r)
    stays-add c None r h = tt
    stays-add c (Some q) r h = ap (add_steps c) h

    stays-after : (t : Reduction N) (f g : Bindings N → Pairs N → Option (Solved N))
        → ((τ : Bindings N) (qs : Pairs N) → Stays (f τ qs) (g τ qs)) → Stays (after t f) (after t g)
    stays-after (clash c) f g h = refl
    stays-after (goes τ qs c) f g h = stays-add c (f τ qs) (g τ qs) (h τ qs)

    stays-more : (k j : ℕ) (σ : Bindings N) (ps : Pairs N) → k ≤ j → Stays (solve eq k σ ps) (solve eq j σ ps)
    stays-more k j σ [] h = refl
    stays-more zero j σ (p ∷ ps) h = tt
    stays-more (suc k) zero σ (p ∷ ps) h = absurd (omega arith)
    stays-more (suc k) (suc j) σ (p ∷ ps) h =
        stays-after (reduction eq σ p.0 p.1 ps) (λ τ qs. solve eq k τ qs) (λ τ qs. solve eq j τ qs)
        (λ τ qs. stays-more k j τ qs (omega arith))

    pub solve-more : (k j : ℕ) (σ : Bindings N) (ps : Pairs N) (r : Solved N) → k ≤ j → solve eq k σ ps ≡ Some r → solve eq j σ ps ≡ Some r
    solve-more k j σ ps r h e =
        let s : Stays (Some r) (solve eq j σ ps) = subst (λ (q : Option (Solved N)). Stays q (solve eq j σ ps)) e
        (stays-more k j σ ps h) in s

    -- there is one result
    pub solve-unique : (k j : ℕ) (σ : Bindings N) (ps : Pairs N) (q r : Solved N) → solve eq k σ ps ≡ Some q
        → solve eq j σ ps ≡ Some r → q ≡ r
    solve-unique k j σ ps q r e f =
        by_order k j
        (λ l. let x : Some r ≡ Some q = sym f ∙ solve-more k j σ ps q (omega arith) e in cc)
        (λ l. let x : Some q ≡ Some r = sym e ∙ solve-more j k σ ps r l f in cc)

    -- a budget decides by the count alone
    pub unify-within : (k left : ℕ) (σ : Bindings N) (ps : Pairs N) (r : Solved N) → solve eq k σ ps ≡ Some r
        → unify eq left σ ps ≡ within left (Some r)
    unify-within k left σ ps r e =
        by_order k left
        (λ l. ap (within left) (solve-more k left σ ps r (omega arith) e))
        (λ l. sym (unify-enough k left k (omega arith) l σ ps) ∙ ap (within left) e)

    pub unify-solved : (k left : ℕ) (σ : Bindings N) (ps : Pairs N) (r : Solved N) → solve eq k σ ps ≡ Some r → r.1 ≤ left
        → unify eq left σ ps ≡ Some (r.0, left - r.1)
    unify-solved k left σ ps r e l = unify-within k left σ ps r e ∙ within-there left r l

    pub unify-spent : (k left : ℕ) (σ : Bindings N) (ps : Pairs N) (r : Solved N) → solve eq k σ ps ≡ Some r → left < r.1
        → unify eq left σ ps ≡ None
    unify-spent k left σ ps r e l = unify-within k left σ ps r e ∙ within-over left r l
