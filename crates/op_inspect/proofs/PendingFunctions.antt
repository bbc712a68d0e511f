-- What pending functions owe, as functions are added to them and go on.
use Rattle.std.proofs.Common.{◌≡◌, ℕ, suc, ◌+◌, ◌≤◌, ◌<◌, List, [], ◌∷◌, ◌++◌, sym, ◌∙◌, ap, subst, refl, arith}
use Rattle.std.proofs.lemmas.List.Elements.{All-push}
use Rattle.std.proofs.Math.Path.{ap₂}
use Rattle.std.specs.Prelude.{length, ◌-◌, nat_le, Bool, true, false, if◌then◌else◌, ℤ, Option, Some, None, Result, Ok, Err, IfSome}
use Rattle.std.specs.Prelude.{IfErr, IsErr, IsErrAnd}
use Rattle.op_logic.specs.Bind.{within}
use Rattle.op_inspect.specs.declared.fault.EvalFault.{EvalFault}
use Rattle.op_inspect.specs.declared.pending.Next.{Next}
use Rattle.op_inspect.specs.declared.pending.Next.TheVariants.{Expression, Value}
use Rattle.op_logic.specs.Term.{Term, var, int, node, no_args, arg, args_of, nth_arg, arity}
use Rattle.op_logic.specs.Names.{name_at, named}
use Rattle.op_term.specs.Head.{head, sym as sym_of}
use Rattle.op_term.specs.declared.node.Node.TheVariants.{Struct}
use Rattle.op_term.specs.declared.symbols.Sym.{Sym}
use Rattle.op_bind.specs.State.{State, value_of}
use Rattle.op_inspect.specs.Arithmetic.{Cause, evaluable, Evaluated, add_nodes, and_then, answered, if_function, evaluated, unary_of}
use Rattle.op_inspect.specs.Arithmetic.{binary_of}
use Rattle.op_inspect.specs.Arithmetic.{unary_value, binary_value}
use Rattle.op_inspect.specs.declared.pending.Pending.{Pending}
use Rattle.op_inspect.specs.declared.pending.Pending.TheVariants.{Single, First, Second}
use Rattle.op_inspect.specs.declared.function.Unary.{Unary}
use Rattle.op_inspect.specs.declared.function.Binary.{Binary}
use Rattle.op_inspect.specs.inner.Pending.{meaning_at, next_meaning, resumed, all_resumed, moves_of, moves_left, IsReady, IsReadyPending}
use Rattle.op_inspect.specs.inner.Pending.{AreReady, Ends}
use Rattle.op_inspect.specs.Told.{of_error}
use Rattle.op_inspect.specs.declared.fault.EvaluationError.{EvaluationError}
use Rattle.op_inspect.specs.declared.fault.EvaluationError.TheVariants as errors
use Rattle.op_inspect.proofs.MetNodes.{error-not-spent}

pub add-add : (a b : ℕ) (e : Evaluated) → add_nodes a (add_nodes b e) ≡ add_nodes (a + b) e
add-add a b e = ap (λ (n : ℕ). (e.0, n)) (omega arith)

pub add-none : (e : Evaluated) → add_nodes 0 e ≡ e
add-none e = ap (λ (n : ℕ). (e.0, n)) (omega arith)

pub then-add : (n : ℕ) (e : Evaluated) (k : ℤ → Evaluated) → and_then (add_nodes n e) k ≡ add_nodes n (and_then e k)
then-add n (Ok x, m) k = sym (add-add n m (k x))
then-add n (Err c, m) k = refl

pub then-value : (x : ℤ) (k : ℤ → Evaluated) → and_then (Ok x, 0) k ≡ k x
then-value x k = add-none (k x)

module _ (names : List (List ℕ)) (s : State) where
  pub resumed-add : (ps : List Pending) (n : ℕ) (e : Evaluated)
      → all_resumed names s ps (add_nodes n e) ≡ add_nodes n (all_resumed names s ps e)
  resumed-add [] n e = refl
  resumed-add (p ∷ ps) n e = ap (λ (r : Evaluated). and_then r (resumed names s p)) (resumed-add ps n e)
      ∙ then-add n (all_resumed names s ps e) (resumed names s p)

  pub resumed-push : (ps : List Pending) (p : Pending) (e : Evaluated)
      → all_resumed names s (ps ++ p ∷ []) e ≡ all_resumed names s ps (and_then e (resumed names s p))
  resumed-push [] p e = refl
  resumed-push (q ∷ ps) p e = ap (λ (r : Evaluated). and_then r (resumed names s q)) (resumed-push ps p e)

  pub resumed-ends : (ps : List Pending) (c : Cause) (n : ℕ) → all_resumed names s ps (Err c, n) ≡ (Err c, n)
  resumed-ends [] c n = refl
  resumed-ends (p ∷ ps) c n = ap (λ (r : Evaluated). and_then r (resumed names s p)) (resumed-ends ps c n)

  then-more : (e : Evaluated) (k : ℤ → Evaluated) → e.1 ≤ (and_then e k).1
  then-more (Ok x, n) k = omega arith
  then-more (Err c, n) k = omega arith

  pub resumed-more : (ps : List Pending) (e : Evaluated) → e.1 ≤ (all_resumed names s ps e).1
  resumed-more [] e = omega arith
  resumed-more (p ∷ ps) e =
      let more = then-more (all_resumed names s ps e) (resumed names s p) in
      let less = resumed-more ps e in
      omega (arith, more, less)

pub some-node : (t : Term (List ℕ)) → 0 < (evaluated t).1
some-node (var v) = omega arith
some-node (int i) = omega arith
some-node (node f no_args) = omega arith
some-node (node f (arg t no_args)) = omega arith
some-node (node f (arg t (arg u no_args))) = omega arith
some-node (node f (arg t (arg u (arg v ts)))) = omega arith

pub moves-push : (ps : List Pending) (p : Pending) → moves_left (ps ++ p ∷ []) ≡ moves_left ps + moves_of p
moves-push [] p = omega arith
moves-push (q ∷ ps) p = let rest = moves-push ps p in omega (arith, rest)

-- what a node of one or two arguments is
pub one-argument : (t : Term ℕ) (f : Sym) → head t ≡ Struct f 1 → t ≡ node f.0 (arg (nth_arg (args_of t) 0) no_args)
one-argument (var v) f h = cc
one-argument (int i) f h = cc
one-argument (node g no_args) f h = cc
one-argument (node g (arg t no_args)) f h = let same : sym_of g ≡ f = cc in ap (λ (k : Sym). node k.0 (arg t no_args)) same
one-argument (node g (arg t (arg u us))) f h = let many : suc (suc (arity us)) ≡ suc 0 = cc in absurd (omega (arith, many))

pub two-arguments : (t : Term ℕ) (f : Sym) → head t ≡ Struct f 2
    → t ≡ node f.0 (arg (nth_arg (args_of t) 0) (arg (nth_arg (args_of t) 1) no_args))
two-arguments (var v) f h = cc
two-arguments (int i) f h = cc
two-arguments (node g no_args) f h = cc
two-arguments (node g (arg t no_args)) f h = let few : suc 0 ≡ suc (suc 0) = cc in absurd (omega (arith, few))
two-arguments (node g (arg t (arg u no_args))) f h =
    let same : sym_of g ≡ f = cc in ap (λ (k : Sym). node k.0 (arg t (arg u no_args))) same
two-arguments (node g (arg t (arg u (arg v vs)))) f h =
    let many : suc (suc (suc (arity vs))) ≡ suc (suc 0) = cc in absurd (omega (arith, many))

module _ (names : List (List ℕ)) (s : State) (ps : List Pending) where
  pub unary-goes : (t u : Term ℕ) (f : ℕ) (g : Unary) → t ≡ node f (arg u no_args) → unary_of (name_at names f) ≡ Some g
      → all_resumed names s ps (evaluated (named names t))
      ≡ add_nodes 1 (all_resumed names s (ps ++ Single g ∷ []) (evaluated (named names u)))
  unary-goes t u f g e known =
      ap (λ (v : Term ℕ). all_resumed names s ps (evaluated (named names v))) e
      ∙ (ap (λ (o : Option Unary). all_resumed names s ps (add_nodes 1 (if_function o (name_at names f) 1
      (λ h. and_then (evaluated (named names u)) (λ x. answered (unary_value h x)))))) known
      ∙ (resumed-add names s ps 1 _ ∙ ap (add_nodes 1) (sym (resumed-push names s ps (Single g) (evaluated (named names u))))))

  pub unary-ends : (t u : Term ℕ) (f : ℕ) → t ≡ node f (arg u no_args) → unary_of (name_at names f) ≡ None
      → all_resumed names s ps (evaluated (named names t)) ≡ (Err (evaluable (name_at names f) 1), 1)
  unary-ends t u f e unknown =
      ap (λ (v : Term ℕ). all_resumed names s ps (evaluated (named names v))) e
      ∙ (ap (λ (o : Option Unary). all_resumed names s ps (add_nodes 1 (if_function o (name_at names f) 1
      (λ h. and_then (evaluated (named names u)) (λ x. answered (unary_value h x)))))) unknown
      ∙ resumed-ends names s ps _ 1)

  pub binary-goes : (t u v : Term ℕ) (f r : ℕ) (g : Binary) → t ≡ node f (arg u (arg v no_args)) → value_of s r ≡ v
      → binary_of (name_at names f) ≡ Some g
      → all_resumed names s ps (evaluated (named names t))
      ≡ add_nodes 1 (all_resumed names s (ps ++ First g r ∷ []) (evaluated (named names u)))
  binary-goes t u v f r g e place known =
      ap (λ (w : Term ℕ). all_resumed names s ps (evaluated (named names w)))
      (e ∙ ap (λ (w : Term ℕ). node f (arg u (arg w no_args))) (sym place))
      ∙ (ap (λ (o : Option Binary). all_resumed names s ps (add_nodes 1 (if_function o (name_at names f) 2
      (λ h. and_then (evaluated (named names u)) (λ x. and_then (evaluated (named names (value_of s r)))
      (λ y. answered (binary_value h x y))))))) known
      ∙ (resumed-add names s ps 1 _ ∙ ap (add_nodes 1) (sym (resumed-push names s ps (First g r) (evaluated (named names u))))))

  pub binary-ends : (t u v : Term ℕ) (f : ℕ) → t ≡ node f (arg u (arg v no_args)) → binary_of (name_at names f) ≡ None
      → all_resumed names s ps (evaluated (named names t)) ≡ (Err (evaluable (name_at names f) 2), 1)
  binary-ends t u v f e unknown =
      ap (λ (w : Term ℕ). all_resumed names s ps (evaluated (named names w))) e
      ∙ (ap (λ (o : Option Binary). all_resumed names s ps (add_nodes 1 (if_function o (name_at names f) 2
      (λ h. and_then (evaluated (named names u)) (λ x. and_then (evaluated (named names v))
      (λ y. answered (binary_value h x y))))))) unknown
      ∙ resumed-ends names s ps _ 1)

  -- what comes next behind a function whose second argument is not evaluated yet
  pub first-goes : (qs : List Pending) (p : Pending) (g : Binary) (r : ℕ) (x : ℤ) → p ≡ First g r → qs ≡ ps ++ Second g x ∷ []
      → IsReadyPending (length names) s p → AreReady (length names) s ps
      → IsReady (length names) s r × AreReady (length names) s qs
      × (all_resumed names s ps (resumed names s p x) ≡ add_nodes 0 (all_resumed names s qs (meaning_at names s r)))
  first-goes qs p g r x e items one all = (
    subst (IsReadyPending (length names) s) e one,
    subst (λ (l : List Pending). AreReady (length names) s l) (sym items)
        (All-push (IsReadyPending (length names) s) ps (Second g x) all tt),
    ap (λ (q : Pending). all_resumed names s ps (resumed names s q x)) e
        ∙ (sym (resumed-push names s ps (Second g x) (meaning_at names s r))
        ∙ (ap (λ (l : List Pending). all_resumed names s l (meaning_at names s r)) (sym items) ∙ sym (add-none _))),
  )

  -- a function that has an error ends the evaluation
  pub error-ends : (e : EvaluationError) → Ends names (all_resumed names s ps (answered (Err e))) 0 (of_error e)
  error-ends errors.Overflow = (error-not-spent errors.Overflow, tt, resumed-ends names s ps _ 0)
  error-ends errors.ZeroDivisor = (error-not-spent errors.ZeroDivisor, tt, resumed-ends names s ps _ 0)
  error-ends errors.Undefined = (error-not-spent errors.Undefined, tt, resumed-ends names s ps _ 0)

  -- what a function pends for is its argument's value
  pub value-goes : (whole : Evaluated) (k : ℕ) (qs : List Pending) (p : Pending) (n : Next) (x : ℤ) → n ≡ Value x → qs ≡ ps ++ p ∷ []
      → whole ≡ add_nodes k (all_resumed names s qs (next_meaning names s n))
      → whole ≡ add_nodes k (all_resumed names s ps (resumed names s p x))
  value-goes whole k qs p n x e items e0 =
      e0 ∙ (ap₂ (λ (l : List Pending) (m : Next). add_nodes k (all_resumed names s l (next_meaning names s m))) items e
      ∙ ap (add_nodes k) (resumed-push names s ps p (Ok x, 0) ∙ ap (all_resumed names s ps) (then-value x (resumed names s p))))

-- the steps that are left behind so many nodes
pub within-enough : (total k left : ℕ) (r : Result ℤ Cause) → k + left ≡ total → within total (Some (r, k)) ≡ Some (r, left)
within-enough total k left r e =
    let enough : nat_le k total ≡ true = grind (arith, e) in
    let rest : total - k ≡ left = omega (arith, e) in
    ap (λ (b : Bool). if b then Some (r, total - k) else None) enough ∙ ap (λ (n : ℕ). Some (r, n)) rest

pub within-spent : (total : ℕ) (e : Evaluated) → total < e.1 → within total (Some e) ≡ None
within-spent total e less =
    let spent : nat_le e.1 total ≡ false = grind (arith, less) in
    ap (λ (b : Bool). if b then Some (e.0, total - e.1) else None) spent

-- a cause ends the evaluation once the nodes behind it are paid
pub ends-within : (o : Option Cause) (total left : ℕ) (whole e : Evaluated) → left ≤ total → whole ≡ add_nodes (total - left) e
    → IfSome o (λ c. e ≡ (Err c, 0)) → IfSome o (λ c. within total (Some whole) ≡ Some (Err c, left))
ends-within None total left whole e paid same told = tt
ends-within (Some c) total left whole e paid same told =
    ap (λ (w : Evaluated). within total (Some w)) (same ∙ ap (add_nodes (total - left)) told)
    ∙ within-enough total (total - left + 0) left (Err c) (omega (arith, paid))

-- no step is left for a node that is to be met
pub spent-within : (names : List (List ℕ)) (s : State) (ps : List Pending) (n : Next) (r total left : ℕ) (whole : Evaluated) → left < 1
    → n ≡ Expression r → whole ≡ add_nodes (total - left) (all_resumed names s ps (next_meaning names s n))
    → within total (Some whole) ≡ None
spent-within names s ps n r total left whole none e same =
    let is : whole ≡ add_nodes (total - left) (all_resumed names s ps (meaning_at names s r)) =
    same ∙ ap (λ (m : Next). add_nodes (total - left) (all_resumed names s ps (next_meaning names s m))) e in
    let more = resumed-more names s ps (meaning_at names s r) in
    let some = some-node (named names (value_of s r)) in
    let count = ap (λ (w : Evaluated). w.1) is in
    within-spent total whole (omega (arith, none, more, some, count))

pub moves-popped : (ps qs : List Pending) (p : Pending) → qs ≡ ps ++ p ∷ [] → moves_left qs ≡ moves_left ps + moves_of p
moves-popped ps qs p items = ap moves_left items ∙ moves-push ps p

-- what holds of a fault holds of the answer that passes it on
pub passed-on : (r : Result ℤ EvalFault) (fault : EvalFault) → IsErr r × IsErrAnd r (λ e. e ≡ fault) → (P : EvalFault → Type 0) → P fault
    → IfErr r P
passed-on (Ok x) fault h P told = tt
passed-on (Err e) fault h P told = subst P (sym h.1) told

pub not-passed-on : (r : Result ℤ EvalFault) (fault other : EvalFault) → IsErr r × IsErrAnd r (λ e. e ≡ fault) → (fault ≡ other → ⊥)
    → r ≡ Err other → ⊥
not-passed-on (Ok x) fault other h differs e = let no : ⊥ = cc in no
not-passed-on (Err f) fault other h differs e = let same : f ≡ other = cc in differs (sym h.1 ∙ same)
