-- Unification finds no new names.
use Rattle.std.proofs.Common.{ℕ, zero, suc, ◌+◌, ◌-◌, ◌==◌, nat_eq, nat_le, Bool, true, false, [], ◌∷◌, Option, Some, None, max}
use Rattle.std.proofs.Common.{min, if◌then◌else◌}
use Rattle.op_logic.specs.Term.{Term, var, int, node, Args, no_args, arg, args_of, occurs, size, replace, replace_args}
use Rattle.op_logic.specs.Bind.{Bindings, apply, follow, follow_on, Pairs, Reduction, clash, goes, zip_args, bind_reduction, same_head}
use Rattle.op_logic.specs.Bind.{meet, reduction, Solved, add_steps, after, solve, within, unify}
use Rattle.op_logic.specs.Names.{HasNames, ArgsHaveNames, HaveNames, PairsHaveNames}

module _ (n : ℕ) where
  mutual
    replace-names : (v : ℕ) (s t : Term ℕ) → HasNames n s → HasNames n t → HasNames n (replace v s t)
    replace-names v s (var w) hs ht = go (v == w)
      where
        go : (b : Bool) → HasNames n (if b then s else var w)
        go true = hs
        go false = tt
    replace-names v s (int i) hs ht = tt
    replace-names v s (node f ts) hs ht = (ht.0, replace_args-names v s ts hs ht.1)

    replace_args-names : (v : ℕ) (s : Term ℕ) (ts : Args ℕ) → HasNames n s → ArgsHaveNames n ts → ArgsHaveNames n (replace_args v s ts)
    replace_args-names v s no_args hs ht = tt
    replace_args-names v s (arg t ts) hs ht = (replace-names v s t hs ht.0, replace_args-names v s ts hs ht.1)

  pub apply-names : (σ : Bindings ℕ) (t : Term ℕ) → HaveNames n σ → HasNames n t → HasNames n (apply σ t)
  apply-names [] t h ht = ht
  apply-names (p ∷ σ) t h ht = replace-names p.0 (apply σ p.1) (apply σ t) (apply-names σ p.1 h.1 h.0) (apply-names σ t h.1 ht)

  follow_on-names : (v : ℕ) (s t : Term ℕ) → HasNames n s → HasNames n t → HasNames n (follow_on v s t)
  follow_on-names v s (var w) hs ht = go (v == w)
    where
      go : (b : Bool) → HasNames n (if b then s else var w)
      go true = hs
      go false = tt
  follow_on-names v s (int i) hs ht = tt
  follow_on-names v s (node f ts) hs ht = ht

  pub follow-names : (σ : Bindings ℕ) (t : Term ℕ) → HaveNames n σ → HasNames n t → HasNames n (follow σ t)
  follow-names [] t h ht = ht
  follow-names (p ∷ σ) t h ht = follow_on-names p.0 (follow σ p.1) (follow σ t) (follow-names σ p.1 h.1 h.0) (follow-names σ t h.1 ht)

  zip-names : (ts us : Args ℕ) (ps : Pairs ℕ) → ArgsHaveNames n ts → ArgsHaveNames n us → PairsHaveNames n ps
      → PairsHaveNames n (zip_args ts us ps)
  zip-names no_args us ps ht hu h = h
  zip-names (arg t ts) no_args ps ht hu h = h
  zip-names (arg t ts) (arg u us) ps ht hu h = (ht.0, hu.0, zip-names ts us ps ht.1 hu.1 h)

  -- the names of what a reduction leaves
  abbrev ReductionHasNames : Reduction ℕ → Type 0
  ReductionHasNames (clash c) = Unit {0}
  ReductionHasNames (goes σ ps c) = HaveNames n σ × PairsHaveNames n ps

  if-reduction : (b : Bool) (t u : Reduction ℕ) → ReductionHasNames t → ReductionHasNames u → ReductionHasNames (if b then t else u)
  if-reduction true t u ht hu = ht
  if-reduction false t u ht hu = hu

  bind-names : (v : ℕ) (t : Term ℕ) (σ : Bindings ℕ) (ps : Pairs ℕ) → HasNames n t → HaveNames n σ → PairsHaveNames n ps
      → ReductionHasNames (bind_reduction v t σ ps)
  bind-names v t σ ps ht h hp =
      if-reduction (occurs v (apply σ t)) (clash (1 + size (apply σ t))) (goes ((v, t) ∷ σ) ps (1 + size (apply σ t))) tt ((ht, h), hp)

  args-names : (t : Term ℕ) → HasNames n t → ArgsHaveNames n (args_of t)
  args-names (var v) h = tt
  args-names (int i) h = tt
  args-names (node f ts) h = h.1

  same-names : (t u : Term ℕ) (σ : Bindings ℕ) (ps : Pairs ℕ) → HasNames n t → HasNames n u → HaveNames n σ → PairsHaveNames n ps
      → ReductionHasNames (if same_head nat_eq t u then goes σ (zip_args (args_of t) (args_of u) ps) 1 else clash 1)
  same-names t u σ ps ht hu h hp =
      if-reduction (same_head nat_eq t u) (goes σ (zip_args (args_of t) (args_of u) ps) 1) (clash 1)
      (h, zip-names (args_of t) (args_of u) ps (args-names t ht) (args-names u hu) hp) tt

  meet-names : (t u : Term ℕ) (σ : Bindings ℕ) (ps : Pairs ℕ) → HasNames n t → HasNames n u → HaveNames n σ → PairsHaveNames n ps
      → ReductionHasNames (meet nat_eq t u σ ps)
  meet-names (var v) (var w) σ ps ht hu h hp =
      if-reduction (v == w) (goes σ ps 1) (bind_reduction (max v w) (var (min v w)) σ ps) (h, hp)
      (bind-names (max v w) (var (min v w)) σ ps tt h hp)
  meet-names (var v) (int j) σ ps ht hu h hp = bind-names v (int j) σ ps tt h hp
  meet-names (var v) (node g us) σ ps ht hu h hp = bind-names v (node g us) σ ps hu h hp
  meet-names (int i) (var w) σ ps ht hu h hp = bind-names w (int i) σ ps tt h hp
  meet-names (node f ts) (var w) σ ps ht hu h hp = bind-names w (node f ts) σ ps ht h hp
  meet-names (int i) (int j) σ ps ht hu h hp = same-names (int i) (int j) σ ps ht hu h hp
  meet-names (int i) (node g us) σ ps ht hu h hp = same-names (int i) (node g us) σ ps ht hu h hp
  meet-names (node f ts) (int j) σ ps ht hu h hp = same-names (node f ts) (int j) σ ps ht hu h hp
  meet-names (node f ts) (node g us) σ ps ht hu h hp = same-names (node f ts) (node g us) σ ps ht hu h hp

  -- the names of what was found
  abbrev pub FoundHasNames : Option (Solved ℕ) → Type 0
  FoundHasNames None = Unit {0}
  FoundHasNames (Some (None, c)) = Unit {0}
  FoundHasNames (Some (Some σ, c)) = HaveNames n σ

  add-names : (c : ℕ) (r : Option (Solved ℕ)) → FoundHasNames r → FoundHasNames (add_steps c r)
  add-names c None h = tt
  add-names c (Some (None, d)) h = tt
  add-names c (Some (Some σ, d)) h = h

  after-names : (t : Reduction ℕ) (rest : Bindings ℕ → Pairs ℕ → Option (Solved ℕ)) → ReductionHasNames t
      → ((σ : Bindings ℕ) (ps : Pairs ℕ) → HaveNames n σ → PairsHaveNames n ps → FoundHasNames (rest σ ps)) → FoundHasNames (after t rest)
  after-names (clash c) rest h k = tt
  after-names (goes σ ps c) rest h k = add-names c (rest σ ps) (k σ ps h.0 h.1)

  solve-names : (k : ℕ) (σ : Bindings ℕ) (ps : Pairs ℕ) → HaveNames n σ → PairsHaveNames n ps → FoundHasNames (solve nat_eq k σ ps)
  solve-names k σ [] h hp = h
  solve-names zero σ (p ∷ ps) h hp = tt
  solve-names (suc k) σ (p ∷ ps) h hp =
      after-names (reduction nat_eq σ p.0 p.1 ps) (λ τ qs. solve nat_eq k τ qs)
      (meet-names (follow σ p.0) (follow σ p.1) σ ps (follow-names σ p.0 h hp.0) (follow-names σ p.1 h hp.1) h hp.2)
      (λ τ qs hτ hq. solve-names k τ qs hτ hq)

  within-names : (left : ℕ) (r : Option (Solved ℕ)) → FoundHasNames r → FoundHasNames (within left r)
  within-names left None h = tt
  within-names left (Some (None, c)) h = go (nat_le c left)
    where
      go : (b : Bool) → FoundHasNames (if b then Some (None, left - c) else None)
      go true = tt
      go false = tt
  within-names left (Some (Some σ, c)) h = go (nat_le c left)
    where
      go : (b : Bool) → FoundHasNames (if b then Some (Some σ, left - c) else None)
      go true = h
      go false = tt

  -- where the names of bindings and pairs are among the first n, so are those of the bindings that are found
  pub unify-names : (left : ℕ) (σ : Bindings ℕ) (ps : Pairs ℕ) → HaveNames n σ → PairsHaveNames n ps
      → FoundHasNames (unify nat_eq left σ ps)
  unify-names left σ ps h hp = within-names left (solve nat_eq left σ ps) (solve-names left σ ps h hp)
