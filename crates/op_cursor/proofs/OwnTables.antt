-- A term with the names of a table of its own.
use Rattle.std.proofs.Common.{◌≡◌, ℕ, zero, suc, ◌+◌, ◌<◌, Bool, true, false, cond, not, ◌||◌, List, [], ◌∷◌, ◌++◌, length, get_or, All}
use Rattle.std.proofs.Common.{Some, None, sym, ◌∙◌, ap, subst, refl, arith, length-append}
use Rattle.std.specs.Prelude.{bytes_eq}
use Rattle.std.specs.List.{list_any, position, position_or_len}
use Rattle.std.proofs.lemmas.Bool.{lt-ltb}
use Rattle.std.proofs.lemmas.List.{get_or_append_left, get_or-append-add}
use Rattle.std.proofs.lemmas.List.Elements.{All-head, All-tail, All-append}
use Rattle.std.proofs.lemmas.List.Folds.{list_any-append}
use Rattle.std.proofs.lemmas.Slice.Eq.{bytes_eq-Decides}
use Rattle.op_logic.specs.Term.{Term, var, int, node, Args, no_args, arg, args_of, nth_arg, arity, rename, rename_args}
use Rattle.op_logic.specs.Names.{name_at, named, with_name, HasNames, ArgsHaveNames}
use Rattle.op_logic.proofs.BoolCases.{by_test, if_true, if_false}
use Rattle.op_logic.proofs.RenamedUnification.{arity-rename}
use Rattle.op_logic.proofs.ShiftedTerms.{nth-rename}
use Rattle.op_term.specs.Head.{head, sym as name_of}
use Rattle.op_term.specs.declared.node.Node.{Node}
use Rattle.op_term.specs.declared.node.Node.TheVariants as nodes
use Rattle.op_trace.specs.Database.{Text}
use Rattle.op_bind.specs.Visited.{visit, visit_args}
use Rattle.op_cursor.specs.inner.OwnNames.{own_number, IsOwn, AreOwn, ArgsAreOwn, IsOwnNode, IsNamedBelow, own_node}

-- a name that is there stays there, and a name that was added is there
any-more : (p : Text → Bool) (xs ys : List Text) → list_any p xs ≡ true → list_any p (xs ++ ys) ≡ true
any-more p xs ys h = list_any-append p xs ys ∙ ap (λ b. b || list_any p ys) h

pub own-kept : (p : Text → Bool) (own : List Text) (name : Text) → list_any p own ≡ true → list_any p (with_name own name) ≡ true
own-kept p own name h =
    by_test (list_any (bytes_eq name) own)
    (λ e. ap (list_any p) (if_true _ _ _ e) ∙ h)
    (λ e. ap (list_any p) (if_false _ _ _ e) ∙ any-more p own (name ∷ []) h)

or-true : (b : Bool) → (b || true) ≡ true
or-true true = refl
or-true false = refl

pub own-added : (own : List Text) (name : Text) → list_any (bytes_eq name) (with_name own name) ≡ true
own-added own name =
    by_test (list_any (bytes_eq name) own)
    (λ e. ap (list_any (bytes_eq name)) (if_true _ _ _ e) ∙ e)
    (λ e. ap (list_any (bytes_eq name)) (if_false _ _ _ e) ∙ (list_any-append (bytes_eq name) own (name ∷ [])
    ∙ (ap (λ b. list_any (bytes_eq name) own || (b || false)) ((bytes_eq-Decides name name).1 refl)
    ∙ or-true (list_any (bytes_eq name) own))))

pub kept-node : (names own : List Text) (name : Text) (n : Node) → IsOwnNode names own n → IsOwnNode names (with_name own name) n
kept-node names own name (nodes.Var v) h = tt
kept-node names own name (nodes.Int i) h = tt
kept-node names own name (nodes.Atom f) h = own-kept (bytes_eq (name_at names f.0)) own name h
kept-node names own name (nodes.Struct f n) h = own-kept (bytes_eq (name_at names f.0)) own name h

-- the number of a name that is there
found-at : (p : Text → Bool) (xs : List Text) (d : Text) → list_any p xs ≡ true
    → (position_or_len p xs < length xs) × (p (get_or xs (position_or_len p xs) d) ≡ true)
found-at p [] d h = absurd cc
found-at p (x ∷ xs) d h =
    by_test (p x)
    (λ e. let z : position_or_len p (x ∷ xs) ≡ 0 = ap (λ b. cond (not b) (1 + position_or_len p xs) 0) e in
    (omega (arith, z), subst (λ (i : ℕ). p (get_or (x ∷ xs) i d) ≡ true) (sym z) e))
    (λ e. let n : 1 + position_or_len p xs ≡ suc (position_or_len p xs) = omega arith in
    let z : position_or_len p (x ∷ xs) ≡ suc (position_or_len p xs) = ap (λ b. cond (not b) (1 + position_or_len p xs) 0) e ∙ n in
    let r = found-at p xs d (sym (ap (λ b. b || list_any p xs) e) ∙ h) in
    (omega (arith, z, r.0), subst (λ (i : ℕ). p (get_or (x ∷ xs) i d) ≡ true) (sym z) r.1))

pub position-is : (p : Text → Bool) (xs : List Text) (i : ℕ) → Some i ≡ position p xs → i ≡ position_or_len p xs
position-is p xs i h = over _ h
  where
    over : (b : Bool) → Some i ≡ cond b (Some (position_or_len p xs)) None → i ≡ position_or_len p xs
    over true e = cc
    over false e = absurd cc

module _ (names own : List Text) where
  own-below : (n : ℕ) → IsOwn names own n → own_number names own n < length own
  own-below n h = (found-at (bytes_eq (name_at names n)) own [] h).0

  own-named : (n : ℕ) → IsOwn names own n → name_at own (own_number names own n) ≡ name_at names n
  own-named n h =
      let r = found-at (bytes_eq (name_at names n)) own [] h in
      if_true _ _ _ (lt-ltb _ _ r.0) ∙ sym ((bytes_eq-Decides (name_at names n) (get_or own (own_number names own n) [])).0 r.1)

  mutual
    pub renamed-same : (t : Term ℕ) → AreOwn names own t → named own (rename (own_number names own) t) ≡ named names t
    renamed-same (var v) h = refl
    renamed-same (int i) h = refl
    renamed-same (node f ts) h = let a = own-named f h.0 in let b = args-same ts h.1 in cc

    args-same : (ts : Args ℕ) → ArgsAreOwn names own ts
        → rename_args (name_at own) (rename_args (own_number names own) ts) ≡ rename_args (name_at names) ts
    args-same no_args h = refl
    args-same (arg t ts) h = let a = renamed-same t h.0 in let b = args-same ts h.1 in cc

  mutual
    pub renamed-names : (t : Term ℕ) → AreOwn names own t → HasNames (length own) (rename (own_number names own) t)
    renamed-names (var v) h = tt
    renamed-names (int i) h = tt
    renamed-names (node f ts) h = (own-below f h.0, args-names ts h.1)

    args-names : (ts : Args ℕ) → ArgsAreOwn names own ts → ArgsHaveNames (length own) (rename_args (own_number names own) ts)
    args-names no_args h = tt
    args-names (arg t ts) h = (renamed-names t h.0, args-names ts h.1)

  pub head-renamed : (t : Term ℕ) → head (rename (own_number names own) t) ≡ own_node names own (head t)
  head-renamed (var v) = refl
  head-renamed (int i) = refl
  head-renamed (node f no_args) = refl
  head-renamed (node f (arg t ts)) =
      ap (λ (k : ℕ). nodes.Struct (name_of (own_number names own f)) (suc k)) (arity-rename (own_number names own) ts)

  pub head-own : (t : Term ℕ) → AreOwn names own t → IsOwnNode names own (head t)
  head-own (var v) h = tt
  head-own (int i) h = tt
  head-own (node f no_args) h = h.0
  head-own (node f (arg t ts)) h = h.0

  nth-own : (ts : Args ℕ) (i : ℕ) → ArgsAreOwn names own ts → AreOwn names own (nth_arg ts i)
  nth-own no_args i h = tt
  nth-own (arg t ts) zero h = h.0
  nth-own (arg t ts) (suc i) h = nth-own ts i h.1

  pub part-own : (t : Term ℕ) (i : ℕ) → AreOwn names own t → AreOwn names own (nth_arg (args_of t) i)
  part-own (var v) i h = tt
  part-own (int j) i h = tt
  part-own (node f ts) i h = nth-own ts i h.1

pub head-below : (k : ℕ) (t : Term ℕ) → HasNames k t → IsNamedBelow k (head t)
head-below k (var v) h = tt
head-below k (int i) h = tt
head-below k (node f no_args) h = h.0
head-below k (node f (arg t ts)) h = h.0

args-renamed : (g : ℕ → ℕ) (t : Term ℕ) → args_of (rename g t) ≡ rename_args g (args_of t)
args-renamed g (var v) = refl
args-renamed g (int i) = refl
args-renamed g (node f ts) = refl

pub arity-renamed : (g : ℕ → ℕ) (t : Term ℕ) → arity (args_of (rename g t)) ≡ arity (args_of t)
arity-renamed g t = ap arity (args-renamed g t) ∙ arity-rename g (args_of t)

pub nth-renamed : (g : ℕ → ℕ) (t : Term ℕ) (i : ℕ) → i < arity (args_of t)
    → nth_arg (args_of (rename g t)) i ≡ rename g (nth_arg (args_of t) i)
nth-renamed g t i h = ap (λ (ts : Args ℕ). nth_arg ts i) (args-renamed g t) ∙ nth-rename g (args_of t) i h

-- what holds of all nodes holds of the term's parts
module _ (P : Node → Type 0) where
  all-left : (xs ys : List Node) → All P (xs ++ ys) → All P xs
  all-left xs ys h k d l =
      subst P (get_or_append_left xs ys d k l) (h k d (omega (arith, l, length-append xs ys)))

  all-right : (xs ys : List Node) → All P (xs ++ ys) → All P ys
  all-right xs ys h k d l =
      subst P (get_or-append-add xs ys k d) (h (length xs + k) d (omega (arith, l, length-append xs ys)))

module _ (names own : List Text) where
  mutual
    pub visited-own : (t : Term ℕ) → All (λ n. IsOwnNode names own n) (visit t) → AreOwn names own t
    visited-own (var v) h = tt
    visited-own (int i) h = tt
    visited-own (node f no_args) h = (h 0 (nodes.Atom (name_of f)) (omega arith), tt)
    visited-own (node f (arg t ts)) h =
        let q = IsOwnNode names own in
        let r = All-tail q (head (node f (arg t ts))) (visit_args (arg t ts)) h in (
          All-head q (head (node f (arg t ts))) (visit_args (arg t ts)) h,
          (visited-own t (all-right q (visit_args ts) (visit t) r), args-own ts (all-left q (visit_args ts) (visit t) r)),
        )

    args-own : (ts : Args ℕ) → All (λ n. IsOwnNode names own n) (visit_args ts) → ArgsAreOwn names own ts
    args-own no_args h = tt
    args-own (arg t ts) h =
        let q = IsOwnNode names own in
        (visited-own t (all-right q (visit_args ts) (visit t) h), args-own ts (all-left q (visit_args ts) (visit t) h))

one : (P : Node → Type 0) (x : Node) (xs : List Node) → P x → All P xs → All P (x ∷ xs)
one P x xs h k zero d l = h
one P x xs h k (suc i) d l = k i d (omega (arith, l))

mutual
  pub visited-below : (k : ℕ) (t : Term ℕ) → HasNames k t → All (λ n. IsNamedBelow k n) (visit t)
  visited-below k (var v) h = one (IsNamedBelow k) (nodes.Var v) [] tt (λ i d l. absurd (omega (arith, l)))
  visited-below k (int i) h = one (IsNamedBelow k) (nodes.Int i) [] tt (λ i d l. absurd (omega (arith, l)))
  visited-below k (node f ts) h =
      one (IsNamedBelow k) (head (node f ts)) (visit_args ts) (head-below k (node f ts) h) (args-below k ts h.1)

  args-below : (k : ℕ) (ts : Args ℕ) → ArgsHaveNames k ts → All (λ n. IsNamedBelow k n) (visit_args ts)
  args-below k no_args h = λ i d l. absurd (omega (arith, l))
  args-below k (arg t ts) h =
      All-append (IsNamedBelow k) (visit_args ts) (visit t) (args-below k ts h.1) (visited-below k t h.0)
