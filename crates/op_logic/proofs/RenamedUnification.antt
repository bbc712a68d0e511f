-- Unification commutes with a renaming of the names that keeps which are equal.
use Rattle.std.proofs.Common.{◌≡◌, ℕ, suc, zero, ◌+◌, ◌-◌, ◌==◌, leb, nat_eq, Bool, true, false, ◌&&◌, cond, List, [], ◌∷◌, Option, Some}
use Rattle.std.proofs.Common.{None, max, min, sym, ◌∙◌, ap, refl}
use Rattle.std.specs.Ordering.{int_eq}
use Rattle.std.specs.Str.{bytes_eq}
use Rattle.std.proofs.lemmas.Bool.{false≢true}
use Rattle.std.proofs.lemmas.Bool.Decides.{Decides-eqb}
use Rattle.std.proofs.lemmas.Slice.Eq.{bytes_eq-Decides}
use Rattle.op_logic.specs.Term.{Term, var, int, node, Args, no_args, arg, arity, occurs, occurs_args, size, args_size, replace}
use Rattle.op_logic.specs.Term.{replace_args, rename, rename_args}
use Rattle.op_logic.specs.Bind.{Bindings, apply, follow, follow_on, Pairs, Reduction, clash, goes, zip_args, bind_reduction, meet}
use Rattle.op_logic.specs.Bind.{reduction, Solved, add_steps, after, solve, within, unify}
use Rattle.op_logic.specs.Laws.{rename_bindings, rename_pairs, rename_solved}
use Rattle.op_logic.specs.Names.{name_at, IsTable}
use Rattle.op_logic.proofs.BoolCases.{by_test}
use Rattle.op_logic.proofs.NameTables.{same_number}

if-map : {A B : Type 0} (g : A → B) (b : Bool) (x y : A) → g (cond b x y) ≡ cond b (g x) (g y)
if-map g true x y = refl
if-map g false x y = refl

module _ {N M : Type 0} (f : N → M) where
  mutual
    replace-rename : (v : ℕ) (s t : Term N) → rename f (replace v s t) ≡ replace v (rename f s) (rename f t)
    replace-rename v s (var w) = if-map (rename f) (v == w) s (var w)
    replace-rename v s (int i) = refl
    replace-rename v s (node n ts) = ap (node (f n)) (replace_args-rename v s ts)

    replace_args-rename : (v : ℕ) (s : Term N) (ts : Args N)
        → rename_args f (replace_args v s ts) ≡ replace_args v (rename f s) (rename_args f ts)
    replace_args-rename v s no_args = refl
    replace_args-rename v s (arg t ts) = let a = replace-rename v s t in let b = replace_args-rename v s ts in cc

  mutual
    occurs-rename : (v : ℕ) (t : Term N) → occurs v (rename f t) ≡ occurs v t
    occurs-rename v (var w) = refl
    occurs-rename v (int i) = refl
    occurs-rename v (node n ts) = occurs_args-rename v ts

    occurs_args-rename : (v : ℕ) (ts : Args N) → occurs_args v (rename_args f ts) ≡ occurs_args v ts
    occurs_args-rename v no_args = refl
    occurs_args-rename v (arg t ts) = let a = occurs-rename v t in let b = occurs_args-rename v ts in cc

  mutual
    pub size-rename : (t : Term N) → size (rename f t) ≡ size t
    size-rename (var w) = refl
    size-rename (int i) = refl
    size-rename (node n ts) = ap suc (args_size-rename ts)

    pub args_size-rename : (ts : Args N) → args_size (rename_args f ts) ≡ args_size ts
    args_size-rename no_args = refl
    args_size-rename (arg t ts) = let a = size-rename t in let b = args_size-rename ts in cc

  pub arity-rename : (ts : Args N) → arity (rename_args f ts) ≡ arity ts
  arity-rename no_args = refl
  arity-rename (arg t ts) = ap suc (arity-rename ts)

  pub apply-rename : (σ : Bindings N) (t : Term N) → apply (rename_bindings f σ) (rename f t) ≡ rename f (apply σ t)
  apply-rename [] t = refl
  apply-rename (p ∷ σ) t =
      let a : apply (rename_bindings f σ) (rename f p.1) ≡ rename f (apply σ p.1) = apply-rename σ p.1 in
      let b : apply (rename_bindings f σ) (rename f t) ≡ rename f (apply σ t) = apply-rename σ t in
      ap (λ x. replace p.0 x (apply (rename_bindings f σ) (rename f t))) a ∙ (ap (replace p.0 (rename f (apply σ p.1))) b
      ∙ sym (replace-rename p.0 (apply σ p.1) (apply σ t)))

  follow_on-rename : (v : ℕ) (s q : Term N) → follow_on v (rename f s) (rename f q) ≡ rename f (follow_on v s q)
  follow_on-rename v s (var w) = sym (if-map (rename f) (v == w) s (var w))
  follow_on-rename v s (int i) = refl
  follow_on-rename v s (node n ts) = refl

  pub follow-rename : (σ : Bindings N) (t : Term N) → follow (rename_bindings f σ) (rename f t) ≡ rename f (follow σ t)
  follow-rename [] t = refl
  follow-rename (p ∷ σ) t =
      let a : follow (rename_bindings f σ) (rename f p.1) ≡ rename f (follow σ p.1) = follow-rename σ p.1 in
      let b : follow (rename_bindings f σ) (rename f t) ≡ rename f (follow σ t) = follow-rename σ t in
      ap (λ x. follow_on p.0 x (follow (rename_bindings f σ) (rename f t))) a ∙ (ap (follow_on p.0 (rename f (follow σ p.1))) b
      ∙ follow_on-rename p.0 (follow σ p.1) (follow σ t))

  zip-rename : (ts us : Args N) (ps : Pairs N) → zip_args (rename_args f ts) (rename_args f us) (rename_pairs f ps)
      ≡ rename_pairs f (zip_args ts us ps)
  zip-rename no_args no_args ps = refl
  zip-rename no_args (arg u us) ps = refl
  zip-rename (arg t ts) no_args ps = refl
  zip-rename (arg t ts) (arg u us) ps = ap (λ qs. (rename f t, rename f u) ∷ qs) (zip-rename ts us ps)

  abbrev rename_reduction : Reduction N → Reduction M
  rename_reduction (clash c) = clash c
  rename_reduction (goes σ ps c) = goes (rename_bindings f σ) (rename_pairs f ps) c

  bind-rename : (v : ℕ) (t : Term N) (σ : Bindings N) (ps : Pairs N)
      → bind_reduction v (rename f t) (rename_bindings f σ) (rename_pairs f ps) ≡ rename_reduction (bind_reduction v t σ ps)
  bind-rename v t σ ps =
      let s : Term N = apply σ t in
      let a : apply (rename_bindings f σ) (rename f t) ≡ rename f s = apply-rename σ t in
      let g : Term M → Reduction M = λ x. cond (occurs v x) (clash (1 + size x)) (goes ((v, rename f t) ∷ rename_bindings f σ)
      (rename_pairs f ps) (1 + size x)) in
      let h : Bool → ℕ → Reduction M = λ b n. cond b (clash (1 + n)) (goes ((v, rename f t) ∷ rename_bindings f σ)
      (rename_pairs f ps) (1 + n)) in
      ap g a ∙ (ap (λ b. h b (size (rename f s))) (occurs-rename v s) ∙ (ap (h (occurs v s)) (size-rename s)
      ∙ sym (if-map rename_reduction (occurs v s) (clash (1 + size s)) (goes ((v, t) ∷ σ) ps (1 + size s)))))

  module _ (eq : N → N → Bool) (eq2 : M → M → Bool) (same : (m n : N) → eq2 (f m) (f n) ≡ eq m n) where
    meet-rename : (a b : Term N) (σ : Bindings N) (ps : Pairs N)
        → meet eq2 (rename f a) (rename f b) (rename_bindings f σ) (rename_pairs f ps) ≡ rename_reduction (meet eq a b σ ps)
    meet-rename (var v) (var w) σ ps =
        ap (λ x. cond (v == w) (goes (rename_bindings f σ) (rename_pairs f ps) 1) x) (bind-rename (max v w) (var (min v w)) σ ps)
        ∙ sym (if-map rename_reduction (v == w) (goes σ ps 1) (bind_reduction (max v w) (var (min v w)) σ ps))
    meet-rename (var v) (int j) σ ps = bind-rename v (int j) σ ps
    meet-rename (var v) (node g us) σ ps = bind-rename v (node g us) σ ps
    meet-rename (int i) (var w) σ ps = bind-rename w (int i) σ ps
    meet-rename (int i) (int j) σ ps = sym (if-map rename_reduction (int_eq i j) (goes σ ps 1) (clash 1))
    meet-rename (int i) (node g us) σ ps = refl
    meet-rename (node n ts) (var w) σ ps = bind-rename w (node n ts) σ ps
    meet-rename (node n ts) (int j) σ ps = refl
    meet-rename (node n ts) (node g us) σ ps =
        let b : (eq2 (f n) (f g) && (arity (rename_args f ts) == arity (rename_args f us))) ≡ (eq n g && (arity ts == arity us)) =
        ap (λ x. x && (arity (rename_args f ts) == arity (rename_args f us))) (same n g)
        ∙ (ap (λ x. eq n g && (x == arity (rename_args f us))) (arity-rename ts) ∙ ap (λ x. eq n g && (arity ts == x)) (arity-rename us)) in
        let x : Reduction M = goes (rename_bindings f σ) (zip_args (rename_args f ts) (rename_args f us) (rename_pairs f ps)) 1 in
        ap (λ c. cond c x (clash 1)) b
        ∙ (ap (λ qs. cond (eq n g && (arity ts == arity us)) (goes (rename_bindings f σ) qs 1) (clash 1)) (zip-rename ts us ps)
        ∙ sym (if-map rename_reduction (eq n g && (arity ts == arity us)) (goes σ (zip_args ts us ps) 1) (clash 1)))

    reduction-rename : (σ : Bindings N) (a b : Term N) (ps : Pairs N)
        → reduction eq2 (rename_bindings f σ) (rename f a) (rename f b) (rename_pairs f ps) ≡ rename_reduction (reduction eq σ a b ps)
    reduction-rename σ a b ps =
        ap (λ x. meet eq2 x (follow (rename_bindings f σ) (rename f b)) (rename_bindings f σ) (rename_pairs f ps)) (follow-rename σ a)
        ∙ (ap (λ x. meet eq2 (rename f (follow σ a)) x (rename_bindings f σ) (rename_pairs f ps)) (follow-rename σ b)
        ∙ meet-rename (follow σ a) (follow σ b) σ ps)

    add-rename : (c : ℕ) (r : Option (Solved N)) → add_steps c (rename_solved f r) ≡ rename_solved f (add_steps c r)
    add-rename c None = refl
    add-rename c (Some r) = refl

    after-rename : (t : Reduction N) (rest : Bindings N → Pairs N → Option (Solved N)) (rest2 : Bindings M → Pairs M → Option (Solved M))
        → ((σ : Bindings N) (ps : Pairs N) → rest2 (rename_bindings f σ) (rename_pairs f ps) ≡ rename_solved f (rest σ ps))
        → after (rename_reduction t) rest2 ≡ rename_solved f (after t rest)
    after-rename (clash c) rest rest2 h = refl
    after-rename (goes σ ps c) rest rest2 h = ap (add_steps c) (h σ ps) ∙ add-rename c (rest σ ps)

    pub solve-rename : (k : ℕ) (σ : Bindings N) (ps : Pairs N) → solve eq2 k (rename_bindings f σ) (rename_pairs f ps)
        ≡ rename_solved f (solve eq k σ ps)
    solve-rename k σ [] = refl
    solve-rename zero σ (p ∷ ps) = refl
    solve-rename (suc k) σ (p ∷ ps) =
        ap (λ t. after t (λ τ qs. solve eq2 k τ qs)) (reduction-rename σ p.0 p.1 ps)
        ∙ after-rename (reduction eq σ p.0 p.1 ps) (λ τ qs. solve eq k τ qs) (λ τ qs. solve eq2 k τ qs) (λ τ qs. solve-rename k τ qs)

    within-rename : (n : ℕ) (r : Option (Solved N)) → within n (rename_solved f r) ≡ rename_solved f (within n r)
    within-rename n None = refl
    within-rename n (Some r) = sym (if-map (rename_solved f) (leb r.1 n) (Some (r.0, n - r.1)) None)

    pub unify-rename : (left : ℕ) (σ : Bindings N) (ps : Pairs N) → unify eq2 left (rename_bindings f σ) (rename_pairs f ps)
        ≡ rename_solved f (unify eq left σ ps)
    unify-rename left σ ps = ap (within left) (solve-rename left σ ps) ∙ within-rename left (solve eq left σ ps)

-- numbers of names compare as their texts do
names-equal : (names : List (List ℕ)) → IsTable names → (m n : ℕ) → bytes_eq (name_at names m) (name_at names n) ≡ nat_eq m n
names-equal names t m n =
    by_test (nat_eq m n)
    (λ e. (bytes_eq-Decides (name_at names m) (name_at names n)).1 (ap (name_at names) ((Decides-eqb m n).0 e)) ∙ sym e)
    (λ e. by_test (bytes_eq (name_at names m) (name_at names n))
    (λ q. let i : m ≡ n = same_number names t m n ((bytes_eq-Decides (name_at names m) (name_at names n)).0 q) in
    absurd (false≢true (sym e ∙ (Decides-eqb m n).1 i)))
    (λ q. q ∙ sym e))

-- from numbers to texts
pub unify-named : (names : List (List ℕ)) → IsTable names → (left : ℕ) (σ : Bindings ℕ) (ps : Pairs ℕ)
    → unify bytes_eq left (rename_bindings (name_at names) σ) (rename_pairs (name_at names) ps) ≡ rename_solved
    (name_at names) (unify nat_eq left σ ps)
unify-named names t left σ ps = unify-rename (name_at names) nat_eq bytes_eq (names-equal names t) left σ ps
