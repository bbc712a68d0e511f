-- Two terms are compared with a list of the pairs that are still to be compared.
use Rattle.std.proofs.Common.{◌≡◌, ℕ, zero, suc, ◌+◌, ◌-◌, ◌<◌, ◌≤◌, Bool, true, false, List, [], ◌∷◌, ◌++◌, length, sym, ◌∙◌, ap, subst}
use Rattle.std.proofs.Common.{refl, arith, cond, eqb}
use Rattle.std.proofs.Common.{All, get_or, length-append}
use Rattle.std.proofs.lemmas.List.{get_or_append_left}
use Rattle.std.proofs.Math.Seq.{get_or-append_seam}
use Rattle.std.proofs.lemmas.Bool.Decides.{nat_tests}
use Rattle.std.specs.declared.cmp.Ordering.{Ordering}
use Rattle.std.specs.declared.cmp.Ordering.TheVariants.{Less, Equal, Greater}
use Rattle.std.specs.Ordering.{is_eq, is_ne, ordering_then, nat_cmp, int_cmp}
use Rattle.std.proofs.lemmas.Bool.{lt-ltb}
use Rattle.op_logic.specs.Term.{Term, var, int, node, Args, no_args, arg, args_of, nth_arg, arity, rename, rename_args}
use Rattle.op_logic.specs.Bind.{Pairs, zip_args}
use Rattle.op_logic.specs.Names.{name_at, named, HasNames, ArgsHaveNames, PairsHaveNames}
use Rattle.op_logic.proofs.BoolCases.{if_true, if_false}
use Rattle.op_term.specs.Arguments.{argument_count}
use Rattle.op_term.specs.Head.{head}
use Rattle.op_term.specs.Order.{name_order, head_order, standard_order, args_order, pairs_compared, args_compared}
use Rattle.op_term.specs.inner.Compared.{node_order, HasItsName, pairs_from}
use Rattle.op_term.specs.declared.node.Node.{Node}

pub then-equal : (o : Ordering) → ordering_then o Equal ≡ o
then-equal Less = refl
then-equal Equal = refl
then-equal Greater = refl

pub then-assoc : (a b c : Ordering) → ordering_then (ordering_then a b) c ≡ ordering_then a (ordering_then b c)
then-assoc Less b c = refl
then-assoc Equal b c = refl
then-assoc Greater b c = refl

if-none : (b : Bool) → ◌≡◌ {A = ℕ} (cond b 0 0) 0
if-none true = refl
if-none false = refl

-- the order of two terms is that of their heads, and then that of their arguments
pub order-is : (t u : Term (List ℕ)) → standard_order t u ≡ ordering_then (head_order t u) (args_order (args_of t) (args_of u))
order-is (var v) (var w) = sym (then-equal (nat_cmp v w))
order-is (var v) (int j) = refl
order-is (var v) (node g us) = refl
order-is (int i) (var w) = refl
order-is (int i) (int j) = sym (then-equal (int_cmp i j))
order-is (int i) (node g us) = refl
order-is (node f ts) u = refl

compared-is : (t u : Term (List ℕ)) → pairs_compared t u ≡ 1 + cond (is_eq (head_order t u)) (args_compared (args_of t) (args_of u)) 0
compared-is (var v) u = omega (arith, if-none (is_eq (head_order (var v) u)))
compared-is (int i) u = omega (arith, if-none (is_eq (head_order (int i) u)))
compared-is (node f ts) u = refl

-- pairs of terms, the first pair first
abbrev pub list_order : List (List ℕ) → Pairs ℕ → Ordering
list_order names [] = Equal
list_order names (p ∷ ps) = ordering_then (standard_order (named names p.0) (named names p.1)) (list_order names ps)

abbrev pub list_compared : List (List ℕ) → Pairs ℕ → ℕ
list_compared names [] = 0
list_compared names (p ∷ ps) = pairs_compared (named names p.0) (named names p.1)
    + cond (is_eq (standard_order (named names p.0) (named names p.1))) (list_compared names ps) 0

both-counts : (o a : Ordering) (c k l : ℕ) → c + cond (is_eq o) (k + cond (is_eq a) l 0) 0
    ≡ (c + cond (is_eq o) k 0) + cond (is_eq (ordering_then o a)) l 0
both-counts Less a c k l = omega arith
both-counts Equal a c k l = omega arith
both-counts Greater a c k l = omega arith

module _ (names : List (List ℕ)) where
  abbrev pub texts : Args ℕ → Args (List ℕ)
  texts ts = rename_args (name_at names) ts

  -- the arguments of two terms come before the other pairs
  zip-order : (ts us : Args ℕ) (ps : Pairs ℕ) → arity ts ≡ arity us
      → list_order names (zip_args ts us ps) ≡ ordering_then (args_order (texts ts) (texts us)) (list_order names ps)
  zip-order no_args no_args ps h = refl
  zip-order no_args (arg u us) ps h = absurd (omega (arith, h))
  zip-order (arg t ts) no_args ps h = absurd (omega (arith, h))
  zip-order (arg t ts) (arg u us) ps h =
      let o = standard_order (named names t) (named names u) in
      ap (λ a. ordering_then o a) (zip-order ts us ps (omega (arith, h)))
      ∙ sym (then-assoc o (args_order (texts ts) (texts us)) (list_order names ps))

  zip-compared : (ts us : Args ℕ) (ps : Pairs ℕ) → arity ts ≡ arity us → list_compared names (zip_args ts us ps)
      ≡ args_compared (texts ts) (texts us) + cond (is_eq (args_order (texts ts) (texts us))) (list_compared names ps) 0
  zip-compared no_args no_args ps h = omega arith
  zip-compared no_args (arg u us) ps h = absurd (omega (arith, h))
  zip-compared (arg t ts) no_args ps h = absurd (omega (arith, h))
  zip-compared (arg t ts) (arg u us) ps h =
      let o = standard_order (named names t) (named names u) in
      let c = pairs_compared (named names t) (named names u) in
      ap (λ k. c + cond (is_eq o) k 0) (zip-compared ts us ps (omega (arith, h)))
      ∙ both-counts o (args_order (texts ts) (texts us)) c (args_compared (texts ts) (texts us)) (list_compared names ps)

  zip-named : (n : ℕ) (ts us : Args ℕ) (ps : Pairs ℕ) → ArgsHaveNames n ts → ArgsHaveNames n us → PairsHaveNames n ps
      → PairsHaveNames n (zip_args ts us ps)
  zip-named n no_args us ps h k m = m
  zip-named n (arg t ts) no_args ps h k m = m
  zip-named n (arg t ts) (arg u us) ps h k m = (h.0, k.0, zip-named n ts us ps h.1 k.1 m)

  arity-texts : (ts : Args ℕ) → arity (texts ts) ≡ arity ts
  arity-texts no_args = refl
  arity-texts (arg t ts) = ap suc (arity-texts ts)

  args-texts : (t : Term ℕ) → args_of (named names t) ≡ texts (args_of t)
  args-texts (var v) = refl
  args-texts (int i) = refl
  args-texts (node f ts) = refl

  cmp-less : (m n : ℕ) → m < n → nat_cmp m n ≡ Less
  cmp-less m n h = ap (λ b. cond b Less (cond (eqb m n) Equal Greater)) (lt-ltb m n h)

  cmp-greater : (m n : ℕ) → n < m → nat_cmp m n ≡ Greater
  cmp-greater m n h = grind (arith, nat_tests)

  -- the order of two nodes is that of the terms' heads
  pub node-order-is : (t u : Term ℕ) → node_order names (head t) (head u) ≡ head_order (named names t) (named names u)
  node-order-is (var v) (var w) = refl
  node-order-is (var v) (int j) = refl
  node-order-is (var v) (node g no_args) = refl
  node-order-is (var v) (node g (arg u us)) = refl
  node-order-is (int i) (var w) = refl
  node-order-is (int i) (int j) = refl
  node-order-is (int i) (node g no_args) = refl
  node-order-is (int i) (node g (arg u us)) = refl
  node-order-is (node f no_args) (var w) = refl
  node-order-is (node f no_args) (int j) = refl
  node-order-is (node f (arg t ts)) (var w) = refl
  node-order-is (node f (arg t ts)) (int j) = refl
  node-order-is (node f no_args) (node g no_args) = refl
  node-order-is (node f no_args) (node g (arg u us)) =
      ap (λ o. ordering_then o (name_order (name_at names f) (name_at names g))) (sym (cmp-less 0 (suc (arity (texts us))) (omega arith)))
  node-order-is (node f (arg t ts)) (node g no_args) =
      ap (λ o. ordering_then o (name_order (name_at names f) (name_at names g))) (sym (cmp-greater (suc (arity (texts ts))) 0
      (omega arith)))
  node-order-is (node f (arg t ts)) (node g (arg u us)) =
      let a = arity-texts ts in
      let b = arity-texts us in
      ap (λ k. ordering_then (nat_cmp (suc k) (suc (arity us))) (name_order (name_at names f) (name_at names g))) (sym a)
      ∙ ap (λ k. ordering_then (nat_cmp (suc (arity (texts ts))) (suc k)) (name_order (name_at names f) (name_at names g))) (sym b)

  cmp-equal : (m n : ℕ) → nat_cmp m n ≡ Equal → m ≡ n
  cmp-equal m n h = grind (arith, nat_tests)

  then-first : (a b : Ordering) → ordering_then a b ≡ Equal → a ≡ Equal
  then-first Less b h = h
  then-first Equal b h = refl
  then-first Greater b h = h

  equal-arity : (t u : Term (List ℕ)) → head_order t u ≡ Equal → arity (args_of t) ≡ arity (args_of u)
  equal-arity (var v) (var w) h = refl
  equal-arity (var v) (int j) h = absurd cc
  equal-arity (var v) (node g us) h = absurd cc
  equal-arity (int i) (var w) h = absurd cc
  equal-arity (int i) (int j) h = refl
  equal-arity (int i) (node g us) h = absurd cc
  equal-arity (node f ts) (var w) h = absurd cc
  equal-arity (node f ts) (int j) h = absurd cc
  equal-arity (node f ts) (node g us) h = cmp-equal (arity ts) (arity us) (then-first _ _ h)

  pub same-arity : (t u : Term ℕ) → head_order (named names t) (named names u) ≡ Equal → arity (args_of t) ≡ arity (args_of u)
  same-arity t u h =
      sym (ap arity (args-texts t) ∙ arity-texts (args_of t)) ∙ (equal-arity (named names t) (named names u) h
      ∙ (ap arity (args-texts u) ∙ arity-texts (args_of u)))

  pub name-of-node : (n : ℕ) (t : Term ℕ) → HasNames n t → HasItsName n (head t)
  name-of-node n (var v) h = tt
  name-of-node n (int i) h = tt
  name-of-node n (node f no_args) h = h.0
  name-of-node n (node f (arg t ts)) h = h.0

  args-named : (n : ℕ) (t : Term ℕ) → HasNames n t → ArgsHaveNames n (args_of t)
  args-named n (var v) h = tt
  args-named n (int i) h = tt
  args-named n (node f ts) h = h.1

  pub not-unequal : (o : Ordering) → is_ne o ≡ false → o ≡ Equal
  not-unequal Less h = absurd cc
  not-unequal Equal h = refl
  not-unequal Greater h = absurd cc

  unequal-then : (o a : Ordering) → is_ne o ≡ true → ordering_then o a ≡ o
  unequal-then Less a h = refl
  unequal-then Equal a h = absurd cc
  unequal-then Greater a h = refl

  unequal-none : (o : Ordering) (k : ℕ) → is_ne o ≡ true → cond (is_eq o) k 0 ≡ 0
  unequal-none Less k h = refl
  unequal-none Equal k h = absurd cc
  unequal-none Greater k h = refl

  -- the rest of the pairs decides as the whole does, and costs what is left of it
  pub record IsComparing (t u : Term ℕ) (start left : ℕ) (ps : Pairs ℕ) : Type 0 where
    pub order : list_order names ps ≡ standard_order (named names t) (named names u)
    pub paid : start + list_compared names ps ≡ left + pairs_compared (named names t) (named names u)
    pub there : PairsHaveNames (length names) ps

  pub comparing-starts : (t u : Term ℕ) (start : ℕ) → HasNames (length names) t → HasNames (length names) u
      → IsComparing t u start start ((t, u) ∷ [])
  comparing-starts t u start h k = record {
    order = then-equal (standard_order (named names t) (named names u));
    paid = omega (arith, if-none (is_eq (standard_order (named names t) (named names u))));
    there = (h, k, tt);
  }

  module _ (t u : Term ℕ) (start left : ℕ) where
    pub comparing-ends : IsComparing t u start left [] → (Equal ≡ standard_order (named names t) (named names u))
        × (start ≡ left + pairs_compared (named names t) (named names u))
    comparing-ends c = (c.order, omega (arith, c.paid))

    module _ (x y : Term ℕ) (rest : Pairs ℕ) (c : IsComparing t u start left ((x, y) ∷ rest)) where
      pub comparing-spent : left < 1 → start < pairs_compared (named names t) (named names u)
      comparing-spent h = omega (arith, c.paid, compared-is (named names x) (named names y))

      pub comparing-differs : (o : Ordering) (after : ℕ) → o ≡ node_order names (head x) (head y) → is_ne o ≡ true → left ≡ after + 1
          → (o ≡ standard_order (named names t) (named names u)) × (start ≡ after + pairs_compared (named names t) (named names u))
      comparing-differs o after e n l =
          let h : o ≡ head_order (named names x) (named names y) = e ∙ node-order-is x y in
          let s : standard_order (named names x) (named names y) ≡ o =
          order-is (named names x) (named names y) ∙ (ap (λ a. ordering_then a (args_order (args_of (named names x))
          (args_of (named names y)))) (sym h) ∙ unequal-then o _ n) in
          let first : list_order names ((x, y) ∷ rest) ≡ o =
          ap (λ a. ordering_then a (list_order names rest)) s ∙ unequal-then o _ n in
          let one : pairs_compared (named names x) (named names y) ≡ 1 =
          compared-is (named names x) (named names y) ∙ (ap (λ a. 1 + cond (is_eq a) (args_compared (args_of (named names x))
          (args_of (named names y))) 0) (sym h) ∙ ap (λ k. 1 + k) (unequal-none o _ n)) in
          let none : cond (is_eq (standard_order (named names x) (named names y))) (list_compared names rest) 0 ≡ 0 =
          ap (λ a. cond (is_eq a) (list_compared names rest) 0) s ∙ unequal-none o _ n in
          (sym first ∙ c.order, omega (arith, c.paid, one, none, l))

      pub comparing-goes : (o : Ordering) (after : ℕ) → o ≡ node_order names (head x) (head y) → is_ne o ≡ false → left ≡ after + 1
          → IsComparing t u start after (zip_args (args_of x) (args_of y) rest)
      comparing-goes o after e n l =
          let h : head_order (named names x) (named names y) ≡ Equal = sym (node-order-is x y) ∙ (sym e ∙ not-unequal o n) in
          let same = same-arity x y h in
          let a = args_order (texts (args_of x)) (texts (args_of y)) in
          let k = args_compared (texts (args_of x)) (texts (args_of y)) in
          let args : args_order (args_of (named names x)) (args_of (named names y)) ≡ a =
          ap (λ ts. args_order ts (args_of (named names y))) (args-texts x) ∙ ap (λ ts. args_order (texts (args_of x)) ts) (args-texts y) in
          let counts : args_compared (args_of (named names x)) (args_of (named names y)) ≡ k =
          ap (λ ts. args_compared ts (args_of (named names y))) (args-texts x)
          ∙ ap (λ ts. args_compared (texts (args_of x)) ts) (args-texts y) in
          let s : standard_order (named names x) (named names y) ≡ a =
          order-is (named names x) (named names y) ∙ (ap (λ b. ordering_then b (args_order (args_of (named names x))
          (args_of (named names y)))) h ∙ args) in
          let p : pairs_compared (named names x) (named names y) ≡ 1 + k =
          compared-is (named names x) (named names y) ∙ (ap (λ b. 1 + cond (is_eq b) (args_compared (args_of (named names x))
          (args_of (named names y))) 0) h ∙ ap (λ m. 1 + m) counts) in
          let r : cond (is_eq (standard_order (named names x) (named names y))) (list_compared names rest) 0
          ≡ cond (is_eq a) (list_compared names rest) 0 = ap (λ b. cond (is_eq b) (list_compared names rest) 0) s in
          record {
            order = zip-order (args_of x) (args_of y) rest same ∙ (ap (λ b. ordering_then b (list_order names rest)) (sym s) ∙ c.order);
            paid = omega (arith, c.paid, p, r, l, zip-compared (args_of x) (args_of y) rest same);
            there = zip-named (length names) (args_of x) (args_of y) rest (args-named (length names) x c.there.0)
                (args-named (length names) y c.there.1) c.there.2;
          }

-- the arguments from one on
abbrev pub skip : ℕ → Args ℕ → Args ℕ
skip zero ts = ts
skip (suc i) no_args = no_args
skip (suc i) (arg t ts) = skip i ts

skip-all : (ts : Args ℕ) (n : ℕ) → n ≡ arity ts → skip n ts ≡ no_args
skip-all no_args zero h = refl
skip-all no_args (suc n) h = refl
skip-all (arg t ts) zero h = absurd (omega (arith, h))
skip-all (arg t ts) (suc n) h = skip-all ts n (omega (arith, h))

skip-one : (ts : Args ℕ) (i : ℕ) → i < arity ts → skip i ts ≡ arg (nth_arg ts i) (skip (i + 1) ts)
skip-one no_args i h = absurd (omega arith)
skip-one (arg t ts) zero h = refl
skip-one (arg t ts) (suc i) h =
    let e : suc i + 1 ≡ suc (i + 1) = omega arith in
    skip-one ts i (omega arith) ∙ ap (λ (k : ℕ). arg (nth_arg ts i) (skip k (arg t ts))) (sym e)

zipped : (ts us : Args ℕ) (i : ℕ) (x y : Term ℕ) (ps : Pairs ℕ) → i < arity ts → i < arity us → x ≡ nth_arg ts i → y ≡ nth_arg us i
    → (x, y) ∷ zip_args (skip (i + 1) ts) (skip (i + 1) us) ps ≡ zip_args (skip i ts) (skip i us) ps
zipped ts us i x y ps h k e f =
    let a = skip-one ts i h in
    let b = skip-one us i k in
    cc

-- the terms at pairs of places
module _ {P : Type 0} (term : P → Term ℕ) where
  pub pairs-last : (xs : List (P × P)) (p : P × P) (ps : Pairs ℕ) → pairs_from term (xs ++ p ∷ []) ps
      ≡ (term p.0, term p.1) ∷ pairs_from term xs ps
  pairs-last [] p ps = refl
  pairs-last (x ∷ xs) p ps = pairs-last xs p ((term x.0, term x.1) ∷ ps)

  -- the arguments from i on were pushed
  pub record ArePushed (t u : Term ℕ) (old todo : List (P × P)) (i : ℕ) : Type 0 where
    pub pairs : pairs_from term todo [] ≡ zip_args (skip i (args_of t)) (skip i (args_of u)) (pairs_from term old [])

  pub none-pushed : (t u : Term ℕ) (old : List (P × P)) (n : ℕ) → n ≡ arity (args_of t) → n ≡ arity (args_of u) → ArePushed t u old old n
  none-pushed t u old n h k = record {
    pairs = sym (ap (λ ts. zip_args ts (skip n (args_of u)) (pairs_from term old [])) (skip-all (args_of t) n h));
  }

  pub all-pushed : (t u : Term ℕ) (old todo : List (P × P)) → ArePushed t u old todo 0
      → pairs_from term todo [] ≡ zip_args (args_of t) (args_of u) (pairs_from term old [])
  all-pushed t u old todo a = a.pairs

  pub one-pushed : (t u : Term ℕ) (old todo new : List (P × P)) (i : ℕ) (p : P × P) → i < arity (args_of t) → i < arity (args_of u)
      → term p.0 ≡ nth_arg (args_of t) i → term p.1 ≡ nth_arg (args_of u) i → new ≡ todo ++ p ∷ []
      → ArePushed t u old todo (i + 1) → ArePushed t u old new i
  one-pushed t u old todo new i p h k e f g a = record {
    pairs =
        ap (λ ps. pairs_from term ps []) g
        ∙ (pairs-last todo p []
        ∙ (ap (λ ps. (term p.0, term p.1) ∷ ps) a.pairs
        ∙ zipped (args_of t) (args_of u) i (term p.0) (term p.1) (pairs_from term old []) h k e f));
  }

  pub comparing-last : (names : List (List ℕ)) (t u : Term ℕ) (start left : ℕ) (todo rest : List (P × P)) (p : P × P)
      → todo ≡ rest ++ p ∷ []
      → IsComparing names t u start left (pairs_from term todo [])
      → IsComparing names t u start left ((term p.0, term p.1) ∷ pairs_from term rest [])
  comparing-last names t u start left todo rest p e c =
      subst (λ (ps : Pairs ℕ). IsComparing names t u start left ps) (ap (λ ps. pairs_from term ps []) e ∙ pairs-last rest p []) c

-- what holds of all of a stack holds of its top, and of the others
pub all-last : {A : Type 0} (Q : A → Type 0) (xs rest : List A) (x : A) → xs ≡ rest ++ x ∷ [] → All Q xs → Q x
all-last Q xs rest x e h =
    subst Q (ap (λ ys. get_or ys (length rest) x) e ∙ get_or-append_seam rest x [] x)
    (h (length rest) x (omega (arith, ap length e, length-append rest (x ∷ []))))

pub all-rest : {A : Type 0} (Q : A → Type 0) (xs rest : List A) (x : A) → xs ≡ rest ++ x ∷ [] → All Q xs → All Q rest
all-rest Q xs rest x e h k d l =
    subst Q (ap (λ ys. get_or ys k d) e ∙ get_or_append_left rest (x ∷ []) d k l)
    (h k d (omega (arith, l, ap length e, length-append rest (x ∷ []))))

pub all-one : {A : Type 0} (Q : A → Type 0) (x : A) → Q x → All Q (x ∷ [])
all-one Q x h zero d l = h
all-one Q x h (suc k) d l = absurd (omega arith)
