-- What solving gives makes both sides of each pair equal, and only adds bindings.
use Rattle.std.proofs.Common.{◌≡◌, ℕ, suc, ◌+◌, ◌==◌, Bool, true, false, ◌&&◌, [], ◌∷◌, ◌++◌, Option, Some, None, max, min, sym, ◌∙◌, ap}
use Rattle.std.proofs.Common.{subst, refl, append_assoc, Decides, arith, zero}
use Rattle.std.specs.Ordering.{int_eq}
use Rattle.std.proofs.lemmas.Bool.Decides.{Decides-int_eq}
use Rattle.op_logic.specs.Term.{Term, var, int, node, Args, no_args, arg, arity, occurs, size}
use Rattle.op_logic.specs.Bind.{Bindings, apply, lookup, follow, Pairs, Reduction, clash, goes, zip_args, bind_reduction, meet, reduction}
use Rattle.op_logic.specs.Bind.{Solved, add_steps, after, solve}
use Rattle.op_logic.specs.Laws.{Acyclic, AreEqual}
use Rattle.op_logic.proofs.BoolCases.{by_test, by_order, if_true, if_false}
use Rattle.op_logic.proofs.AppliedBindings.{eq_of, of_eq, apply_args, apply-node, apply_args-arg, apply-bound, apply-append-same}
use Rattle.op_logic.proofs.AppliedBindings.{lookup-here}
use Rattle.op_logic.proofs.FollowedTerms.{apply-follow, follow-free}

pub and_left : (a b : Bool) → (a && b) ≡ true → a ≡ true
and_left true b h = refl
and_left false b h = h

pub and_right : (a b : Bool) → (a && b) ≡ true → b ≡ true
and_right true b h = h
and_right false b h = cc

module _ {N : Type 0} where
  -- the arguments of two terms, one by one
  pub zip-equal : (σ : Bindings N) (ts us : Args N) (ps : Pairs N) → arity ts ≡ arity us → AreEqual σ (zip_args ts us ps)
      → (apply_args σ ts ≡ apply_args σ us) × AreEqual σ ps
  zip-equal σ no_args no_args ps h e = (refl, e)
  zip-equal σ no_args (arg u us) ps h e = absurd (omega arith)
  zip-equal σ (arg t ts) no_args ps h e = absurd (omega arith)
  zip-equal σ (arg t ts) (arg u us) ps h e =
      let i = zip-equal σ ts us ps (omega arith) e.1 in
      let a : apply σ t ≡ apply σ u = e.0 in
      let b : apply_args σ ts ≡ apply_args σ us = i.0 in
      let c : arg (apply σ t) (apply_args σ ts) ≡ arg (apply σ u) (apply_args σ us) = cc in
      (apply_args-arg σ t ts ∙ (c ∙ sym (apply_args-arg σ u us)), i.1)

  -- a reduction adds bindings, and where what it leaves is made equal, so are its own sides
  abbrev pub GoodReduction : Bindings N → Term N → Term N → Pairs N → Reduction N → Type 0
  GoodReduction σ a b ps (clash c) = Unit {0}
  GoodReduction σ a b ps (goes τ qs c) =
      (ρ : Bindings N) × ((τ ≡ ρ ++ σ) × Acyclic τ × ((χ : Bindings N) → AreEqual (χ ++ τ) qs
      → (apply (χ ++ τ) a ≡ apply (χ ++ τ) b) × AreEqual (χ ++ τ) ps))

  good-flip : (σ : Bindings N) (a b : Term N) (ps : Pairs N) (t : Reduction N) → GoodReduction σ a b ps t → GoodReduction σ b a ps t
  good-flip σ a b ps (clash c) h = h
  good-flip σ a b ps (goes τ qs c) h = (h.0, (h.1.0, h.1.1, λ χ e. (let r = h.1.2 χ e in (sym r.0, r.1))))

  good-bind : (v : ℕ) (t : Term N) (σ : Bindings N) (ps : Pairs N) → Acyclic σ → lookup σ v ≡ None
      → GoodReduction σ (var v) t ps (bind_reduction v t σ ps)
  good-bind v t σ ps a h =
      let s : Term N = apply σ t in
      let τ : Bindings N = (v, t) ∷ σ in
      by_test (occurs v s)
      (λ o. subst (GoodReduction σ (var v) t ps) (sym (if_true (occurs v s) (clash (1 + size s)) (goes τ ps (1 + size s)) o)) tt)
      (λ o. let c : Acyclic τ = (a, h, o) in
      let g : GoodReduction σ (var v) t ps (goes τ ps (1 + size s)) = (
        (v, t) ∷ [],
        (
          refl,
          c,
          λ χ e. (
            apply-append-same χ τ (var v) t
                (apply-bound τ v t c (lookup-here (v, t) σ v (of_eq v v refl))),
            e,
          ),
        ),
      ) in
      subst (GoodReduction σ (var v) t ps) (sym (if_false (occurs v s) (clash (1 + size s)) (goes τ ps (1 + size s)) o)) g)

  good-vars : (v w : ℕ) (σ : Bindings N) (ps : Pairs N) → Acyclic σ → lookup σ v ≡ None → lookup σ w ≡ None
      → GoodReduction σ (var v) (var w) ps (bind_reduction (max v w) (var (min v w)) σ ps)
  good-vars v w σ ps a hv hw =
      by_order v w
      (λ l. let x : max v w ≡ w = omega arith in
      let n : min v w ≡ v = omega arith in
      subst (λ (m : ℕ). GoodReduction σ (var v) (var w) ps (bind_reduction m (var (min v w)) σ ps)) (sym x)
      (subst (λ (m : ℕ). GoodReduction σ (var v) (var w) ps (bind_reduction w (var m) σ ps)) (sym n)
      (good-flip σ (var w) (var v) ps (bind_reduction w (var v) σ ps) (good-bind w (var v) σ ps a hw))))
      (λ l. let x : max v w ≡ v = omega arith in
      let n : min v w ≡ w = omega arith in
      subst (λ (m : ℕ). GoodReduction σ (var v) (var w) ps (bind_reduction m (var (min v w)) σ ps)) (sym x)
      (subst (λ (m : ℕ). GoodReduction σ (var v) (var w) ps (bind_reduction v (var m) σ ps)) (sym n)
      (good-bind v (var w) σ ps a hv)))

  abbrev pub IsFree : Bindings N → Term N → Type 0
  IsFree σ (var v) = lookup σ v ≡ None
  IsFree σ (int i) = Unit {0}
  IsFree σ (node f ts) = Unit {0}

  good-same : (a b : Term N) (σ : Bindings N) (ps qs : Pairs N) → Acyclic σ
      → ((υ : Bindings N) → AreEqual υ qs → (apply υ a ≡ apply υ b) × AreEqual υ ps) → GoodReduction σ a b ps (goes σ qs 1)
  good-same a b σ ps qs c h = ([], (refl, c, λ χ e. h (χ ++ σ) e))

  module _ (eq : N → N → Bool) (d : (x y : N) → Decides (eq x y) (x ≡ y)) where
    good-meet : (a b : Term N) (σ : Bindings N) (ps : Pairs N) → Acyclic σ → IsFree σ a → IsFree σ b
        → GoodReduction σ a b ps (meet eq a b σ ps)
    good-meet (var v) (var w) σ ps c hv hw =
        by_test (v == w)
        (λ e. subst (GoodReduction σ (var v) (var w) ps) (sym (if_true _ _ _ e))
        (good-same (var v) (var w) σ ps ps c (λ υ q. (ap (λ x. apply υ (var x)) (eq_of v w e), q))))
        (λ e. subst (GoodReduction σ (var v) (var w) ps) (sym (if_false _ _ _ e)) (good-vars v w σ ps c hv hw))
    good-meet (var v) (int j) σ ps c hv hw = good-bind v (int j) σ ps c hv
    good-meet (var v) (node g us) σ ps c hv hw = good-bind v (node g us) σ ps c hv
    good-meet (int i) (var w) σ ps c hv hw = good-flip σ (var w) (int i) ps (bind_reduction w (int i) σ ps) (good-bind w (int i) σ ps c hw)
    good-meet (int i) (int j) σ ps c hv hw =
        by_test (int_eq i j)
        (λ e. subst (GoodReduction σ (int i) (int j) ps) (sym (if_true _ _ _ e))
        (good-same (int i) (int j) σ ps ps c (λ υ q. (ap (λ x. apply υ (int x)) ((Decides-int_eq i j).0 e), q))))
        (λ e. subst (GoodReduction σ (int i) (int j) ps) (sym (if_false _ _ _ e)) tt)
    good-meet (int i) (node g us) σ ps c hv hw = tt
    good-meet (node f ts) (var w) σ ps c hv hw =
        good-flip σ (var w) (node f ts) ps (bind_reduction w (node f ts) σ ps) (good-bind w (node f ts) σ ps c hw)
    good-meet (node f ts) (int j) σ ps c hv hw = tt
    good-meet (node f ts) (node g us) σ ps c hv hw =
        by_test (eq f g && (arity ts == arity us))
        (λ e. subst (GoodReduction σ (node f ts) (node g us) ps) (sym (if_true _ _ _ e))
        (good-same (node f ts) (node g us) σ ps (zip_args ts us ps) c
        (λ υ q. let n : f ≡ g = (d f g).0 (and_left (eq f g) (arity ts == arity us) e) in
        let z = zip-equal υ ts us ps (eq_of (arity ts) (arity us) (and_right (eq f g) (arity ts == arity us) e)) q in
        let k : apply_args υ ts ≡ apply_args υ us = z.0 in
        let l : node f (apply_args υ ts) ≡ node g (apply_args υ us) = cc in
        (apply-node υ f ts ∙ (l ∙ sym (apply-node υ g us)), z.1))))
        (λ e. subst (GoodReduction σ (node f ts) (node g us) ps) (sym (if_false _ _ _ e)) tt)

    free-followed : (σ : Bindings N) (t q : Term N) → Acyclic σ → follow σ t ≡ q → IsFree σ q
    free-followed σ t (var v) a h = follow-free σ t v a h
    free-followed σ t (int i) a h = tt
    free-followed σ t (node f ts) a h = tt

    -- following changes no value, then or later
    later-followed : (σ τ χ ρ : Bindings N) (t : Term N) → Acyclic σ → τ ≡ ρ ++ σ → apply (χ ++ τ) (follow σ t) ≡ apply (χ ++ τ) t
    later-followed σ τ χ ρ t a e =
        let f : apply ((χ ++ ρ) ++ σ) (follow σ t) ≡ apply ((χ ++ ρ) ++ σ) t =
        apply-append-same (χ ++ ρ) σ (follow σ t) t (apply-follow σ t a) in
        let g : χ ++ τ ≡ (χ ++ ρ) ++ σ = ap (λ x. χ ++ x) e ∙ sym (append_assoc χ ρ σ) in
        ap (λ (x : Bindings N). apply x (follow σ t)) g ∙ (f ∙ ap (λ (x : Bindings N). apply x t) (sym g))

    good-followed : (σ : Bindings N) (a b : Term N) (ps : Pairs N) (t : Reduction N) → Acyclic σ
        → GoodReduction σ (follow σ a) (follow σ b) ps t → GoodReduction σ a b ps t
    good-followed σ a b ps (clash c) y h = tt
    good-followed σ a b ps (goes τ qs c) y h = (
      h.0,
      (
        h.1.0,
        h.1.1,
        λ χ e.
            (let r = h.1.2 χ e in
            (sym (later-followed σ τ χ h.0 a y h.1.0) ∙ (r.0 ∙ later-followed σ τ χ h.0 b y h.1.0), r.1)),
      ),
    )

    pub good-reduction : (σ : Bindings N) (a b : Term N) (ps : Pairs N) → Acyclic σ → GoodReduction σ a b ps (reduction eq σ a b ps)
    good-reduction σ a b ps y =
        good-followed σ a b ps (reduction eq σ a b ps) y
        (good-meet (follow σ a) (follow σ b) σ ps y (free-followed σ a (follow σ a) y refl) (free-followed σ b (follow σ b) y refl))

    -- what the result owes
    abbrev pub GoodResult : Bindings N → Pairs N → Option (Bindings N) → Type 0
    GoodResult σ ps None = Unit {0}
    GoodResult σ ps (Some υ) = (ρ : Bindings N) × ((υ ≡ ρ ++ σ) × Acyclic υ × AreEqual υ ps)

    abbrev pub GoodEnd : Bindings N → Pairs N → Option (Solved N) → Type 0
    GoodEnd σ ps None = Unit {0}
    GoodEnd σ ps (Some r) = GoodResult σ ps r.0

    good-more : (σ τ : Bindings N) (a b : Term N) (ps qs : Pairs N) (c : ℕ) → GoodReduction σ a b ps (goes τ qs c)
        → (o : Option (Bindings N)) → GoodResult τ qs o → GoodResult σ ((a, b) ∷ ps) o
    good-more σ τ a b ps qs c h None g = tt
    good-more σ τ a b ps qs c h (Some υ) g =
        let χ : Bindings N = g.0 in
        let e : υ ≡ χ ++ τ = g.1.0 in
        let q : AreEqual (χ ++ τ) qs = subst (λ (x : Bindings N). AreEqual x qs) e g.1.2 in
        let r = h.1.2 χ q in
        let s : AreEqual (χ ++ τ) ((a, b) ∷ ps) = (r.0, r.1) in (
          χ ++ h.0,
          (
            e ∙ (ap (λ x. χ ++ x) h.1.0 ∙ sym (append_assoc χ h.0 σ)),
            g.1.1,
            subst (λ (x : Bindings N). AreEqual x
                ((a, b) ∷ ps)) (sym e) s,
          ),
        )

    good-add : (σ τ : Bindings N) (a b : Term N) (ps qs : Pairs N) (c : ℕ) → GoodReduction σ a b ps (goes τ qs c)
        → (r : Option (Solved N)) → GoodEnd τ qs r → GoodEnd σ ((a, b) ∷ ps) (add_steps c r)
    good-add σ τ a b ps qs c h None g = tt
    good-add σ τ a b ps qs c h (Some r) g = good-more σ τ a b ps qs c h r.0 g

    good-after : (σ : Bindings N) (a b : Term N) (ps : Pairs N) (rest : Bindings N → Pairs N → Option (Solved N))
        → ((τ : Bindings N) (qs : Pairs N) → Acyclic τ → GoodEnd τ qs (rest τ qs)) → (t : Reduction N) → GoodReduction σ a b ps t
        → GoodEnd σ ((a, b) ∷ ps) (after t rest)
    good-after σ a b ps rest i (clash c) h = tt
    good-after σ a b ps rest i (goes τ qs c) h = good-add σ τ a b ps qs c h (rest τ qs) (i τ qs h.1.1)

    pub solve-good : (k : ℕ) (σ : Bindings N) (ps : Pairs N) → Acyclic σ → GoodEnd σ ps (solve eq k σ ps)
    solve-good k σ [] y = ([], (refl, y, tt))
    solve-good zero σ (p ∷ ps) y = tt
    solve-good (suc k) σ (p ∷ ps) y =
        good-after σ p.0 p.1 ps (λ τ qs. solve eq k τ qs) (λ τ qs z. solve-good k τ qs z) (reduction eq σ p.0 p.1 ps)
        (good-reduction σ p.0 p.1 ps y)
