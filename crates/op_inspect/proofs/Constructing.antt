-- Problems of construction by outermost nodes are the errors by terms.
use Rattle.std.proofs.Common.{◌≡◌, ℕ, zero, suc, ◌-◌, ◌<◌, ◌≤◌, nat_lt, Bool, true, false, List, [], ◌∷◌, Some, None}
use Rattle.std.proofs.Common.{codes, refl, ap, ◌∙◌, sym}
use Rattle.std.proofs.Common.{arith, if◌then◌else◌}
use Rattle.std.specs.Prelude.{pos, negsuc}
use Rattle.std.proofs.lemmas.Bool.Decides.{nat_tests}
use Rattle.op_logic.specs.Term.{Term, var, int, node, Args, no_args, arg, args_of, nth_arg, arity}
use Rattle.op_logic.specs.Bind.{Bindings, follow}
use Rattle.op_logic.specs.Names.{named}
use Rattle.op_term.specs.declared.node.Node.{Node}
use Rattle.op_term.specs.declared.node.Node.TheVariants as nodes
use Rattle.op_term.specs.Head.{head}
use Rattle.op_term.specs.Places.{term_at}
use Rattle.op_bind.specs.State.{State}
use Rattle.op_trace.specs.Database.{Text}
use Rattle.op_trace.specs.World.{World}
use Rattle.op_trace.specs.Act.{Fails, done}
use Rattle.op_trace.specs.Builtins.{type_error, throw}
use Rattle.op_inspect.specs.Answering.{decided, unify_terms, unify_pairs}
use Rattle.op_inspect.specs.Construction.{functor_error, arg_error, head_error, count_in, arg_act, arg_found, made_functor, name_of}
use Rattle.op_inspect.specs.Construction.{functor_by, functor_built, functor_taken, univ_by, univ_built, univ_taken}
use Rattle.op_inspect.specs.Errors.{domain_error}
use Rattle.op_inspect.specs.Outcomes.{text_at, IsKnown}
use Rattle.op_inspect.specs.inner.Nodes.{node_passes}
use Rattle.op_inspect.specs.inner.Refused.{functor_problem, count_problem, name_problem, natural_of}
use Rattle.op_inspect.specs.inner.Refused.{arg_problem, head_problem}
use Rattle.op_inspect.specs.inner.Made.{CanName, IsBound}
use Rattle.op_inspect.specs.declared.type_test.TypeTest.TheVariants as tests
use Rattle.op_inspect.proofs.Refusals.{ball_of, FoundIsKnown, refused-some, refused-none}

module _ (names : List (List ℕ)) (s : State) (r q : ℕ) where
  of-type : (word : Text) (i : ℕ) (t : Term ℕ) → term_at s.terms i ≡ t
      → Some (type_error word (text_at names s i)) ≡ Some (type_error word (named names t))
  of-type word i t h = ap (λ (x : Term ℕ). Some (type_error word (named names x))) h

  in-domain : (word : Text) (i : ℕ) (t : Term ℕ) → term_at s.terms i ≡ t
      → Some (domain_error word (text_at names s i)) ≡ Some (domain_error word (named names t))
  in-domain word i t h = ap (λ (x : Term ℕ). Some (domain_error word (named names x))) h

  -- functor/3
  pub functor-refused : (f n : Term ℕ) → term_at s.terms r ≡ f → term_at s.terms q ≡ n
      → ball_of names s (functor_problem (head f) (head n) r q) ≡ functor_error (named names f) (named names n)
  functor-refused (var v) n h k = refl
  functor-refused (int i) (var v) h k = refl
  functor-refused (int i) (int (pos zero)) h k = refl
  functor-refused (int i) (int (pos (suc n))) h k = of-type (codes "atom") r (int i) h
  functor-refused (int i) (int (negsuc n)) h k = in-domain (codes "not_less_than_zero") q (int (negsuc n)) k
  functor-refused (int i) (node g no_args) h k = of-type (codes "integer") q (node g no_args) k
  functor-refused (int i) (node g (arg u us)) h k = of-type (codes "integer") q (node g (arg u us)) k
  functor-refused (node f no_args) (var v) h k = refl
  functor-refused (node f no_args) (int (pos n)) h k = refl
  functor-refused (node f no_args) (int (negsuc n)) h k = in-domain (codes "not_less_than_zero") q (int (negsuc n)) k
  functor-refused (node f no_args) (node g no_args) h k = of-type (codes "integer") q (node g no_args) k
  functor-refused (node f no_args) (node g (arg u us)) h k = of-type (codes "integer") q (node g (arg u us)) k
  functor-refused (node f (arg t ts)) (var v) h k = refl
  functor-refused (node f (arg t ts)) (int (pos n)) h k = of-type (codes "atomic") r (node f (arg t ts)) h
  functor-refused (node f (arg t ts)) (int (negsuc n)) h k = in-domain (codes "not_less_than_zero") q (int (negsuc n)) k
  functor-refused (node f (arg t ts)) (node g no_args) h k = of-type (codes "integer") q (node g no_args) k
  functor-refused (node f (arg t ts)) (node g (arg u us)) h k = of-type (codes "integer") q (node g (arg u us)) k

  -- arg/3
  pub arg-refused : (n t : Term ℕ) → term_at s.terms r ≡ n → term_at s.terms q ≡ t
      → ball_of names s (arg_problem (head n) (head t) r q) ≡ arg_error (named names n) (named names t)
  arg-refused (var v) t h k = refl
  arg-refused (int i) (var v) h k = refl
  arg-refused (int i) (int j) h k = of-type (codes "compound") q (int j) k
  arg-refused (int i) (node f no_args) h k = of-type (codes "compound") q (node f no_args) k
  arg-refused (int (pos n)) (node f (arg t ts)) h k = refl
  arg-refused (int (negsuc n)) (node f (arg t ts)) h k = in-domain (codes "not_less_than_zero") r (int (negsuc n)) h
  arg-refused (node g no_args) (var v) h k = refl
  arg-refused (node g no_args) (int j) h k = of-type (codes "integer") r (node g no_args) h
  arg-refused (node g no_args) (node f no_args) h k = of-type (codes "integer") r (node g no_args) h
  arg-refused (node g no_args) (node f (arg t ts)) h k = of-type (codes "integer") r (node g no_args) h
  arg-refused (node g (arg u us)) (var v) h k = refl
  arg-refused (node g (arg u us)) (int j) h k = of-type (codes "integer") r (node g (arg u us)) h
  arg-refused (node g (arg u us)) (node f no_args) h k = of-type (codes "integer") r (node g (arg u us)) h
  arg-refused (node g (arg u us)) (node f (arg t ts)) h k = of-type (codes "integer") r (node g (arg u us)) h

  -- `=..`, by a list's first element and the others
  pub head-refused : (t : Term ℕ) (us : Args Text) → term_at s.terms r ≡ t
      → ball_of names s (head_problem (head t) (arity us) r) ≡ head_error (named names t) us
  head-refused (var v) us h = refl
  head-refused (int i) no_args h = refl
  head-refused (int i) (arg u us) h = of-type (codes "atom") r (int i) h
  head-refused (node f no_args) us h = refl
  head-refused (node f (arg t ts)) no_args h = of-type (codes "atomic") r (node f (arg t ts)) h
  head-refused (node f (arg t ts)) (arg u us) h = of-type (codes "atom") r (node f (arg t ts)) h

  module _ (kr : IsKnown names s r) where
    pub head-found : (n : Node) (k : ℕ) → FoundIsKnown names s (head_problem n k r)
    head-found (nodes.Var v) k = tt
    head-found (nodes.Atom f) k = tt
    head-found (nodes.Int i) zero = tt
    head-found (nodes.Int i) (suc k) = kr
    head-found (nodes.Struct f n) zero = kr
    head-found (nodes.Struct f n) (suc k) = kr

    name-found : (n : Node) (k : ℕ) → FoundIsKnown names s (name_problem n k r)
    name-found (nodes.Var v) k = tt
    name-found (nodes.Atom f) k = tt
    name-found (nodes.Int i) zero = tt
    name-found (nodes.Int i) (suc k) = kr
    name-found (nodes.Struct f n) k = kr

    module _ (kq : IsKnown names s q) where
      count-found : (n m : Node) → FoundIsKnown names s (count_problem n m r q)
      count-found n (nodes.Var v) = tt
      count-found n (nodes.Int (pos k)) = name-found n k
      count-found n (nodes.Int (negsuc k)) = kq
      count-found n (nodes.Atom f) = kq
      count-found n (nodes.Struct f k) = kq

      pub functor-found : (n m : Node) → FoundIsKnown names s (functor_problem n m r q)
      functor-found (nodes.Var v) m = tt
      functor-found (nodes.Int i) m = count-found (nodes.Int i) m
      functor-found (nodes.Atom f) m = count-found (nodes.Atom f) m
      functor-found (nodes.Struct f k) m = count-found (nodes.Struct f k) m

      pub arg-found : (n m : Node) → FoundIsKnown names s (arg_problem n m r q)
      arg-found (nodes.Var v) m = tt
      arg-found (nodes.Int i) (nodes.Var v) = tt
      arg-found (nodes.Int i) (nodes.Int j) = kq
      arg-found (nodes.Int i) (nodes.Atom f) = kq
      arg-found (nodes.Int (pos i)) (nodes.Struct f k) = tt
      arg-found (nodes.Int (negsuc i)) (nodes.Struct f k) = kr
      arg-found (nodes.Atom g) (nodes.Var v) = tt
      arg-found (nodes.Atom g) (nodes.Int j) = kr
      arg-found (nodes.Atom g) (nodes.Atom f) = kr
      arg-found (nodes.Atom g) (nodes.Struct f k) = kr
      arg-found (nodes.Struct g n) (nodes.Var v) = tt
      arg-found (nodes.Struct g n) (nodes.Int j) = kr
      arg-found (nodes.Struct g n) (nodes.Atom f) = kr
      arg-found (nodes.Struct g n) (nodes.Struct f k) = kr

-- the number that a term says
pub natural-is : (names : List (List ℕ)) (t : Term ℕ) → natural_of (head t) ≡ count_in (named names t)
natural-is names (var v) = refl
natural-is names (int (pos n)) = refl
natural-is names (int (negsuc n)) = refl
natural-is names (node f no_args) = refl
natural-is names (node f (arg t ts)) = refl

-- a name that can have so many arguments, where functor/3 or `=..` finds no error
pub can-name : (f : Term ℕ) (n : Node) (r q : ℕ) → functor_problem (head f) n r q ≡ None → CanName f (natural_of n)
can-name (var v) n r q e = absurd cc
can-name (int i) (nodes.Var v) r q e = absurd cc
can-name (int i) (nodes.Int (pos zero)) r q e = refl
can-name (int i) (nodes.Int (pos (suc n))) r q e = absurd cc
can-name (int i) (nodes.Int (negsuc n)) r q e = absurd cc
can-name (int i) (nodes.Atom g) r q e = absurd cc
can-name (int i) (nodes.Struct g k) r q e = absurd cc
can-name (node f no_args) n r q e = refl
can-name (node f (arg t ts)) (nodes.Var v) r q e = absurd cc
can-name (node f (arg t ts)) (nodes.Int (pos n)) r q e = absurd cc
can-name (node f (arg t ts)) (nodes.Int (negsuc n)) r q e = absurd cc
can-name (node f (arg t ts)) (nodes.Atom g) r q e = absurd cc
can-name (node f (arg t ts)) (nodes.Struct g k) r q e = absurd cc

pub can-head : (t : Term ℕ) (n r : ℕ) → head_problem (head t) n r ≡ None → CanName t n
can-head (var v) n r e = absurd cc
can-head (int i) zero r e = refl
can-head (int i) (suc n) r e = absurd cc
can-head (node f no_args) n r e = refl
can-head (node f (arg t ts)) zero r e = absurd cc
can-head (node f (arg t ts)) (suc n) r e = absurd cc

-- whether a node is a variable's
pub bound-node : (t : Term ℕ) → node_passes tests.Variable (head t) ≡ false → IsBound t
bound-node (var v) e = absurd cc
bound-node (int i) e = tt
bound-node (node f ts) e = tt

module _ (names : List (List ℕ)) (left : ℕ) (σ : Bindings Text) (w : World) where
  pub functor-variable : (t : Term ℕ) (f n : Term Text) → node_passes tests.Variable (head t) ≡ true
      → functor_by (named names t) f n left σ w ≡ functor_built (named names t) f n left σ w
  functor-variable (var v) f n e = refl
  functor-variable (int i) f n e = absurd cc
  functor-variable (node g no_args) f n e = absurd cc
  functor-variable (node g (arg u us)) f n e = absurd cc

  pub functor-other : (t : Term ℕ) (f n : Term Text) → node_passes tests.Variable (head t) ≡ false
      → functor_by (named names t) f n left σ w ≡ functor_taken (named names t) f n left σ w
  functor-other (var v) f n e = absurd cc
  functor-other (int i) f n e = refl
  functor-other (node g ts) f n e = refl

  pub univ-variable : (t : Term ℕ) (l : Term Text) → node_passes tests.Variable (head t) ≡ true
      → univ_by (named names t) l left σ w ≡ univ_built (named names t) l left σ w
  univ-variable (var v) l e = refl
  univ-variable (int i) l e = absurd cc
  univ-variable (node g no_args) l e = absurd cc
  univ-variable (node g (arg u us)) l e = absurd cc

  pub univ-other : (t : Term ℕ) (l : Term Text) → node_passes tests.Variable (head t) ≡ false
      → univ_by (named names t) l left σ w ≡ univ_taken (named names t) l left σ w
  univ-other (var v) l e = absurd cc
  univ-other (int i) l e = refl
  univ-other (node g ts) l e = refl

-- the argument at a place from 1 on
module _ (ts : Args Text) (a : Term Text) (left : ℕ) (σ : Bindings Text) (w : World) where
  pub none-found : (n : ℕ) → arity ts < n → arg_found n ts a left σ w ≡ decided false σ w
  none-found zero h = refl
  none-found (suc i) h = go (nat_lt i (arity ts)) refl
    where
      go : (b : Bool) → nat_lt i (arity ts) ≡ b → (if b then unify_terms a (nth_arg ts i) left σ w w else done w Fails) ≡ decided false σ w
      go true e = absurd (grind (arith, nat_tests))
      go false e = refl

  pub one-found : (n : ℕ) → 0 < n → n ≤ arity ts → arg_found n ts a left σ w ≡ unify_terms a (nth_arg ts (n - 1)) left σ w w
  one-found zero l h = absurd (omega (arith, l))
  one-found (suc i) l h = go (nat_lt i (arity ts)) refl
    where
      same : suc i - 1 ≡ i
      same = omega arith

      go : (b : Bool) → nat_lt i (arity ts) ≡ b → (if b then unify_terms a (nth_arg ts i) left σ w w else done w Fails)
          ≡ unify_terms a (nth_arg ts (suc i - 1)) left σ w w
      go true e = ap (λ (j : ℕ). unify_terms a (nth_arg ts j) left σ w w) (sym same)
      go false e = absurd (grind (arith, nat_tests))

module _ (left : ℕ) (σ : Bindings Text) (w : World) where
  -- arg/3, by what its arguments lead to
  pub arg-throws : (n x a i t b : Term Text) → i ≡ follow σ n → t ≡ follow σ x → arg_error i t ≡ Some b
      → arg_act n x a left σ w ≡ throw left σ b w
  arg-throws n x a i t b ei et e =
      refused-some (arg_error (follow σ n) (follow σ x)) b left σ w
      (arg_found (count_in (follow σ n)) (args_of (follow σ x)) a left σ w)
      (ap (λ (y : Term Text). arg_error y (follow σ x)) (sym ei) ∙ (ap (λ (y : Term Text). arg_error i y) (sym et) ∙ e))

  pub arg-finds : (n x a i t : Term Text) (k : ℕ) → i ≡ follow σ n → t ≡ follow σ x → arg_error i t ≡ None → k ≡ count_in i
      → arg_act n x a left σ w ≡ arg_found k (args_of t) a left σ w
  arg-finds n x a i t k ei et e ek =
      refused-none (arg_error (follow σ n) (follow σ x)) left σ w
      (arg_found (count_in (follow σ n)) (args_of (follow σ x)) a left σ w)
      (ap (λ (y : Term Text). arg_error y (follow σ x)) (sym ei) ∙ (ap (λ (y : Term Text). arg_error i y) (sym et) ∙ e))
      ∙ (ap (λ (y : Term Text). arg_found (count_in y) (args_of (follow σ x)) a left σ w) (sym ei)
      ∙ (ap (λ (y : Term Text). arg_found (count_in i) (args_of y) a left σ w) (sym et)
      ∙ ap (λ (j : ℕ). arg_found j (args_of t) a left σ w) (sym ek)))

  -- functor/3 of a variable, by what its name and its number of arguments lead to
  pub functor-throws : (t x y f n b : Term Text) → f ≡ follow σ x → n ≡ follow σ y → functor_error f n ≡ Some b
      → functor_built t x y left σ w ≡ throw left σ b w
  functor-throws t x y f n b ef en e =
      refused-some (functor_error (follow σ x) (follow σ y)) b left σ w
      (made_functor t (follow σ x) (count_in (follow σ y)) left σ w)
      (ap (λ (z : Term Text). functor_error z (follow σ y)) (sym ef) ∙ (ap (λ (z : Term Text). functor_error f z) (sym en) ∙ e))

  pub functor-makes : (t x y f n : Term Text) (k : ℕ) → f ≡ follow σ x → n ≡ follow σ y → functor_error f n ≡ None → k ≡ count_in n
      → functor_built t x y left σ w ≡ made_functor t f k left σ w
  functor-makes t x y f n k ef en e ek =
      refused-none (functor_error (follow σ x) (follow σ y)) left σ w
      (made_functor t (follow σ x) (count_in (follow σ y)) left σ w)
      (ap (λ (z : Term Text). functor_error z (follow σ y)) (sym ef) ∙ (ap (λ (z : Term Text). functor_error f z) (sym en) ∙ e))
      ∙ (ap (λ (z : Term Text). made_functor t z (count_in (follow σ y)) left σ w) (sym ef)
      ∙ (ap (λ (z : Term Text). made_functor t f (count_in z) left σ w) (sym en)
      ∙ ap (λ (j : ℕ). made_functor t f j left σ w) (sym ek)))

  -- functor/3 of another term, in the code's names and numbers
  pub takes-pairs : (x f n : Term Text) (p q u v : Term Text) (ρ : Bindings Text) → p ≡ f → u ≡ name_of x → q ≡ n
      → v ≡ int (pos (arity (args_of x))) → ρ ≡ σ
      → functor_taken x f n left σ w ≡ unify_pairs ((p, u) ∷ (q, v) ∷ []) left ρ w w
  takes-pairs x f n p q u v ρ ep eu eq ev er =
      ap (λ (y : Term Text). unify_pairs ((y, name_of x) ∷ (n, int (pos (arity (args_of x)))) ∷ []) left σ w w) (sym ep)
      ∙ (ap (λ (y : Term Text). unify_pairs ((p, y) ∷ (n, int (pos (arity (args_of x)))) ∷ []) left σ w w) (sym eu)
      ∙ (ap (λ (y : Term Text). unify_pairs ((p, u) ∷ (y, int (pos (arity (args_of x)))) ∷ []) left σ w w) (sym eq)
      ∙ (ap (λ (y : Term Text). unify_pairs ((p, u) ∷ (q, y) ∷ []) left σ w w) (sym ev)
      ∙ ap (λ (τ : Bindings Text). unify_pairs ((p, u) ∷ (q, v) ∷ []) left τ w w) (sym er))))
