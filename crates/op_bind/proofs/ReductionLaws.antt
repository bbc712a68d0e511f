-- One reduction of unifying: what two nodes that were followed come to.
use Rattle.std.proofs.Common.{◌≡◌, ℕ, zero, suc, ◌==◌, ◌<◌, ◌≤◌, nat_eq, Bool, true, false, ◌&&◌, cond, ltb, List, [], ◌∷◌, ◌++◌, length}
use Rattle.std.proofs.Common.{reverse, All, Option, None, sym, ◌∙◌, ap, subst, refl, arith}
use Rattle.std.specs.Ordering.{int_eq}
use Rattle.op_logic.specs.Term.{Term, var, int, node, no_args, arg, args_of, arity}
use Rattle.op_logic.specs.Bind.{Bindings, lookup, follow, Pairs, goes, zip_args, meet}
use Rattle.op_logic.proofs.BoolCases.{by_test, if_true, if_false}
use Rattle.op_logic.proofs.AppliedBindings.{eq_of}
use Rattle.op_logic.proofs.FollowedTerms.{follow-free}
use Rattle.op_logic.proofs.SolvedPairs.{and_right}
use Rattle.op_term.specs.Places.{term_at, args_at}
use Rattle.op_term.specs.Head.{head}
use Rattle.op_term.specs.declared.node.Node.{Node}
use Rattle.op_term.specs.declared.node.Node.TheVariants as nodes
use Rattle.op_bind.specs.State.{State, bindings, resolved}
use Rattle.op_bind.specs.inner.Sound.{IsSound}
use Rattle.op_bind.specs.inner.Pairs.{pairs_of, stack_pairs, same_node, step_of, reduction_of, zip, ArePairs}
use Rattle.op_bind.specs.declared.step.Step.TheVariants.{Same, Clash, Bind, Parts}
use Rattle.op_bind.proofs.BindingsInvariant.{var-of, acyclic, chain-index}

never-bind : {P : Type 0} (b : Bool) (v r : ℕ) → Bind v r ≡ cond b Parts Clash → P
never-bind true v r h = cc
never-bind false v r h = cc

-- a variable that is to be bound is one of the two nodes
pub step-bind : {P : Type 0} (n m : Node) (x y v r : ℕ) → Bind v r ≡ step_of n m x y → (nodes.Var v ≡ n → P) → (nodes.Var v ≡ m → P) → P
step-bind (nodes.Var p) (nodes.Var q) x y v r h f g =
    by_test (p == q)
    (λ e. let z : Bind v r ≡ Same = h ∙ if_true (p == q) Same _ e in cc)
    (λ e. by_test (ltb p q)
    (λ l. let z : Bind v r ≡ Bind q x = h ∙ (if_false (p == q) Same _ e ∙ if_true (ltb p q) (Bind q x) (Bind p y) l) in
    let i : v ≡ q = cc in g (ap (λ k. nodes.Var k) i))
    (λ l. let z : Bind v r ≡ Bind p y = h ∙ (if_false (p == q) Same _ e ∙ if_false (ltb p q) (Bind q x) (Bind p y) l) in
    let i : v ≡ p = cc in f (ap (λ k. nodes.Var k) i)))
step-bind (nodes.Var p) (nodes.Int j) x y v r h f g = let i : v ≡ p = cc in f (ap (λ k. nodes.Var k) i)
step-bind (nodes.Var p) (nodes.Atom j) x y v r h f g = let i : v ≡ p = cc in f (ap (λ k. nodes.Var k) i)
step-bind (nodes.Var p) (nodes.Struct j k) x y v r h f g = let i : v ≡ p = cc in f (ap (λ k. nodes.Var k) i)
step-bind (nodes.Int i) (nodes.Var q) x y v r h f g = let i : v ≡ q = cc in g (ap (λ k. nodes.Var k) i)
step-bind (nodes.Atom i) (nodes.Var q) x y v r h f g = let i : v ≡ q = cc in g (ap (λ k. nodes.Var k) i)
step-bind (nodes.Struct i k) (nodes.Var q) x y v r h f g = let i : v ≡ q = cc in g (ap (λ k. nodes.Var k) i)
step-bind (nodes.Int i) (nodes.Int j) x y v r h f g = never-bind (same_node (nodes.Int i) (nodes.Int j)) v r h
step-bind (nodes.Int i) (nodes.Atom j) x y v r h f g = never-bind false v r h
step-bind (nodes.Int i) (nodes.Struct j l) x y v r h f g = never-bind false v r h
step-bind (nodes.Atom i) (nodes.Int j) x y v r h f g = never-bind false v r h
step-bind (nodes.Atom i) (nodes.Atom j) x y v r h f g = never-bind (same_node (nodes.Atom i) (nodes.Atom j)) v r h
step-bind (nodes.Atom i) (nodes.Struct j l) x y v r h f g = never-bind false v r h
step-bind (nodes.Struct i k) (nodes.Int j) x y v r h f g = never-bind false v r h
step-bind (nodes.Struct i k) (nodes.Atom j) x y v r h f g = never-bind false v r h
step-bind (nodes.Struct i k) (nodes.Struct j l) x y v r h f g = never-bind (same_node (nodes.Struct i k) (nodes.Struct j l)) v r h

-- a variable that was reached is unbound
module _ (ts : List (Term ℕ)) (ps : List (ℕ × ℕ)) (table : List (Option ℕ)) (s : IsSound ts ps table) (a x : ℕ) (there : x < length ts)
    (reached : term_at ts x ≡ follow (resolved ts ps) (term_at ts a)) (v : ℕ) (is : nodes.Var v ≡ head (term_at ts x)) where
  pub reached-given_out : v < length table
  reached-given_out = chain-index ts ps table s x there v is

  pub reached-free : lookup (resolved ts ps) v ≡ None
  reached-free =
      follow-free (resolved ts ps) (term_at ts a) v (acyclic (length table) ts ps s.are_bound) (sym reached ∙ var-of (term_at ts x) v is)

parts-of-test : (b : Bool) → Parts ≡ cond b Parts Clash → b ≡ true
parts-of-test true h = refl
parts-of-test false h = cc

parts-of-vars : {P : Type 0} (b c : Bool) (s t : ℕ) (u w : ℕ) → Parts ≡ cond b Same (cond c (Bind s t) (Bind u w)) → P
parts-of-vars true c s t u w h = cc
parts-of-vars false true s t u w h = cc
parts-of-vars false false s t u w h = cc

-- where the parts are to be made equal, the heads agree, and the definition goes on with the arguments
pub step-parts : (t u : Term ℕ) (x y : ℕ) → Parts ≡ step_of (head t) (head u) x y → (σ : Bindings ℕ) (qs : Pairs ℕ)
    → (arity (args_of t) ≡ arity (args_of u)) × (meet nat_eq t u σ qs ≡ goes σ (zip_args (args_of t) (args_of u) qs) 1)
step-parts (var v) (var w) x y h σ qs = parts-of-vars (v == w) (ltb v w) w x v y h
step-parts (var v) (int j) x y h σ qs = cc
step-parts (var v) (node g no_args) x y h σ qs = cc
step-parts (var v) (node g (arg u us)) x y h σ qs = cc
step-parts (int i) (var w) x y h σ qs = cc
step-parts (int i) (int j) x y h σ qs = (refl, if_true _ _ _ (parts-of-test (int_eq i j) h))
step-parts (int i) (node g no_args) x y h σ qs = cc
step-parts (int i) (node g (arg u us)) x y h σ qs = cc
step-parts (node f no_args) (var w) x y h σ qs = cc
step-parts (node f (arg t ts)) (var w) x y h σ qs = cc
step-parts (node f no_args) (int j) x y h σ qs = cc
step-parts (node f (arg t ts)) (int j) x y h σ qs = cc
step-parts (node f no_args) (node g no_args) x y h σ qs =
    let e : (f == g) ≡ true = parts-of-test (f == g) h in
    let k : ((f == g) && (zero == zero)) ≡ true = ap (λ b. b && (zero == zero)) e in
    (refl, if_true _ _ _ k)
step-parts (node f no_args) (node g (arg u us)) x y h σ qs = cc
step-parts (node f (arg t ts)) (node g no_args) x y h σ qs = cc
step-parts (node f (arg t ts)) (node g (arg u us)) x y h σ qs =
    let e : ((f == g) && (suc (arity ts) == suc (arity us))) ≡ true = parts-of-test ((f == g) && (suc (arity ts) == suc (arity us))) h in
    (eq_of (suc (arity ts)) (suc (arity us)) (and_right (f == g) (suc (arity ts) == suc (arity us)) e), if_true _ _ _ e)

-- pairs of numbers and pairs of terms
pairs-append : (ts : List (Term ℕ)) (ps qs : List (ℕ × ℕ)) → pairs_of ts (ps ++ qs) ≡ pairs_of ts ps ++ pairs_of ts qs
pairs-append ts [] qs = refl
pairs-append ts (p ∷ ps) qs = ap (λ r. (term_at ts p.0, term_at ts p.1) ∷ r) (pairs-append ts ps qs)

zip-pairs : (ts : List (Term ℕ)) (xs ys : List ℕ) (qs : Pairs ℕ)
    → zip_args (args_at ts xs) (args_at ts ys) qs ≡ pairs_of ts (zip xs ys) ++ qs
zip-pairs ts [] ys qs = refl
zip-pairs ts (x ∷ xs) [] qs = refl
zip-pairs ts (x ∷ xs) (y ∷ ys) qs = ap (λ r. (term_at ts x, term_at ts y) ∷ r) (zip-pairs ts xs ys qs)

pub arity-parts : (ts : List (Term ℕ)) (ps : List ℕ) → arity (args_at ts ps) ≡ length ps
arity-parts ts [] = refl
arity-parts ts (p ∷ ps) = ap suc (arity-parts ts ps)

module _ (s : State) (a b x y : ℕ) (reached_x : term_at s.terms x ≡ follow (bindings s) (term_at s.terms a))
    (reached_y : term_at s.terms y ≡ follow (bindings s) (term_at s.terms b))
    (is : Parts ≡ step_of (head (term_at s.terms x)) (head (term_at s.terms y)) x y) (xs ys : List ℕ)
    (args_x : args_at s.terms xs ≡ args_of (term_at s.terms x)) (args_y : args_at s.terms ys ≡ args_of (term_at s.terms y)) where
  pub parts-alike : length xs ≡ length ys
  parts-alike =
      let e = (step-parts (term_at s.terms x) (term_at s.terms y) x y is [] []).0 in
      sym (arity-parts s.terms xs) ∙ (ap arity args_x ∙ (e ∙ (sym (ap arity args_y) ∙ arity-parts s.terms ys)))

  pub parts-reduction : (todo more : List (ℕ × ℕ)) (c : ℕ) → reverse more ≡ zip xs ys ++ reverse todo → c ≡ 1
      → reduction_of s todo a b ≡ goes (bindings s) (stack_pairs s.terms more) c
  parts-reduction todo more c e k =
      let σ : Bindings ℕ = bindings s in
      let qs : Pairs ℕ = stack_pairs s.terms todo in
      let t : Term ℕ = term_at s.terms x in
      let u : Term ℕ = term_at s.terms y in
      let m : meet nat_eq t u σ qs ≡ goes σ (zip_args (args_of t) (args_of u) qs) 1 = (step-parts t u x y is σ qs).1 in
      let f : reduction_of s todo a b ≡ meet nat_eq t u σ qs = ap (λ z. meet nat_eq z (follow σ (term_at s.terms b)) σ qs) (sym reached_x)
      ∙ ap (λ z. meet nat_eq t z σ qs) (sym reached_y) in
      let z : zip_args (args_of t) (args_of u) qs ≡ pairs_of s.terms (zip xs ys) ++ qs =
      ap (λ w. zip_args w (args_of u) qs) (sym args_x) ∙ (ap (λ w. zip_args (args_at s.terms xs) w qs) (sym args_y)
      ∙ zip-pairs s.terms xs ys qs) in
      let p : stack_pairs s.terms more ≡ pairs_of s.terms (zip xs ys) ++ qs = ap (pairs_of s.terms) e
      ∙ pairs-append s.terms (zip xs ys) (reverse todo) in
      f ∙ (m ∙ (ap (λ w. goes σ w 1) (z ∙ sym p) ∙ ap (λ w. goes σ (stack_pairs s.terms more) w) (sym k)))

are-pairs-append : (n : ℕ) (ps qs : List (ℕ × ℕ)) → ArePairs n ps → ArePairs n qs → ArePairs n (ps ++ qs)
are-pairs-append n [] qs h k = k
are-pairs-append n (p ∷ ps) qs h k = (h.0, h.1, are-pairs-append n ps qs h.2 k)

zip-there : (n i j : ℕ) → i ≤ n → j ≤ n → (xs ys : List ℕ) → All (λ x. x < i) xs → All (λ y. y < j) ys → ArePairs n (zip xs ys)
zip-there n i j l m [] ys h k = tt
zip-there n i j l m (x ∷ xs) [] h k = tt
zip-there n i j l m (x ∷ xs) (y ∷ ys) h k = (
  omega (arith, h 0 0 (omega arith)),
  omega (arith, k 0 0 (omega arith)),
  zip-there n i j l m xs ys (λ q d z. h (suc q) d (omega arith)) (λ q d z. k (suc q) d (omega arith)),
)

pub parts-there : (n i j : ℕ) → i < n → j < n → (xs ys : List ℕ) → All (λ x. x < i) xs → All (λ y. y < j) ys → (todo more : List (ℕ × ℕ))
    → ArePairs n (reverse todo) → reverse more ≡ zip xs ys ++ reverse todo → ArePairs n (reverse more)
parts-there n i j l m xs ys h k todo more t e =
    subst (ArePairs n) (sym e) (are-pairs-append n (zip xs ys) (reverse todo) (zip-there n i j (omega arith) (omega arith) xs ys h k) t)

-- a variable that two nodes ask to bind was given out and is unbound
pub bind-allowed : (s : State) (table : List (Option ℕ)) → IsSound s.terms s.bound table → s.count ≡ length table → (a b x y : ℕ)
    → x < length s.terms → y < length s.terms → term_at s.terms x ≡ follow (bindings s) (term_at s.terms a)
    → term_at s.terms y ≡ follow (bindings s) (term_at s.terms b) → (v r : ℕ)
    → Bind v r ≡ step_of (head (term_at s.terms x)) (head (term_at s.terms y)) x y → (v < s.count) × (lookup (bindings s) v ≡ None)
bind-allowed s table w c a b x y hx hy rx ry v r is =
    step-bind (head (term_at s.terms x)) (head (term_at s.terms y)) x y v r is
    (λ q. (omega (arith, reached-given_out s.terms s.bound table w a x hx rx v q), reached-free s.terms s.bound table w a x hx rx v q))
    (λ q. (omega (arith, reached-given_out s.terms s.bound table w b y hy ry v q), reached-free s.terms s.bound table w b y hy ry v q))
