-- Which control construct a goal is, by the numbers of names.
use Rattle.std.proofs.Common.{◌≡◌, ◌≢◌, ℕ, ◌<◌, Bool, true, false, List, length, take, codes, refl, sym, ap, ◌∙◌, subst, arith}
use Rattle.std.specs.Bool.{OnTrue, OnFalse}
use Rattle.std.proofs.lemmas.Slice.Eq.{bytes_eq-Decides}
use Rattle.op_logic.proofs.BoolCases.{by_order, by_test}
use Rattle.op_logic.proofs.NameTables.{same_number, name-more}
use Rattle.op_logic.specs.Term.{Term, var, int, node, Args, no_args, arg, args_of, nth_arg, arity, atom}
use Rattle.op_logic.specs.Names.{name_at, IsTable}
use Rattle.op_term.specs.Head.{head, sym as sym_of}
use Rattle.op_term.specs.declared.node.Node.TheVariants as nodes
use Rattle.op_term.specs.declared.symbols.Sym.{Sym}
use Rattle.op_trace.specs.Database.{Text, text_eq}
use Rattle.op_trace.specs.Visit.{Control, TrueGoal, FailGoal, CutGoal, IfThenElse, Disjunction, BoxedGoal, control_of_disjunction, control}
use Rattle.op_trace.specs.Visit.{control_of_atom, control_of_pair, is_true}
use Rattle.op_trace.specs.Visit as visit
use Rattle.op_store.specs.Stored.{Stored, first_names}
use Rattle.op_machine.specs.Program.{goal_named}
use Rattle.op_machine.specs.inner.GoalKinds.{control_of_kind, IsPair}
use Rattle.op_machine.specs.declared.goal_kind.GoalKind.{GoalKind}
use Rattle.op_machine.specs.declared.goal_kind.GoalKind.TheVariants as kinds

pub by_equal : {P : Type 0} (m n : ℕ) → (m ≡ n → P) → (m ≢ n → P) → P
by_equal m n f g =
    by_order m n (λ l. g (λ e. omega arith)) (λ h. by_order n m (λ l. g (λ e. omega arith)) (λ k. f (omega arith)))

text_eq-same : (x y : Text) → x ≡ y → text_eq x y ≡ true
text_eq-same x y e = (bytes_eq-Decides x y).1 e

names-differ : (names : List Text) (m n : ℕ) → IsTable names → m ≢ n → text_eq (name_at names m) (name_at names n) ≡ false
names-differ names m n t ne =
    by_test (text_eq (name_at names m) (name_at names n)) (λ e. absurd (ne (same_number names t m n ((bytes_eq-Decides _ _).0 e))))
    (λ e. e)

-- the first names are there
pub first-name : (names : List Text) (k : ℕ) → take (length first_names) names ≡ first_names → k < 22
    → name_at names k ≡ name_at first_names k
first-name names k b h = name-more first_names names b k h

-- a name's text is that of number k exactly where it is number k
module _ (t : Stored) (table : IsTable t.names) (begins : take (length first_names) t.names ≡ first_names) where
  pub same-text : (n k : ℕ) (x : Text) → k < 22 → name_at first_names k ≡ x → n ≡ k → text_eq (name_at t.names n) x ≡ true
  same-text n k x h e q = text_eq-same _ _ (ap (name_at t.names) q ∙ (first-name t.names k begins h ∙ e))

  pub other-text : (n k : ℕ) (x : Text) → k < 22 → name_at first_names k ≡ x → n ≢ k → text_eq (name_at t.names n) x ≡ false
  other-text n k x h e ne = subst (λ (y : Text). text_eq (name_at t.names n) y ≡ false) (first-name t.names k begins h ∙ e)
      (names-differ t.names n k table ne)

  pub true_name-atom : (n : ℕ) → n ≡ 0 → control_of_atom (name_at t.names n) ≡ TrueGoal
  true_name-atom n e = rw (same-text n 0 (codes "true") (omega arith) refl e) refl

  pub fail_name-atom : (n : ℕ) → n ≡ 1 → control_of_atom (name_at t.names n) ≡ FailGoal
  fail_name-atom n e = rw (
    other-text n 0 (codes "true") (omega arith) refl (λ q. omega arith),
    same-text n 1 (codes "fail") (omega arith)
        refl e,
  ) refl

  pub false_name-atom : (n : ℕ) → n ≡ 2 → control_of_atom (name_at t.names n) ≡ FailGoal
  false_name-atom n e =
      rw (
        other-text n 0 (codes "true") (omega arith) refl (λ q. omega arith),
        other-text n 1 (codes "fail") (omega arith) refl
            (λ q. omega arith),
        same-text n 2 (codes "false") (omega arith) refl e,
      ) refl

  pub cut_name-atom : (n : ℕ) → n ≡ 6 → control_of_atom (name_at t.names n) ≡ CutGoal
  cut_name-atom n e =
      rw (
        other-text n 0 (codes "true") (omega arith) refl (λ q. omega arith),
        other-text n 1 (codes "fail") (omega arith) refl
            (λ q. omega arith),
        other-text n 2 (codes "false") (omega arith) refl (λ q. omega arith),
        same-text n 6 (codes "!") (omega arith)
            refl e,
      ) refl

  pub other-atom : (n : ℕ) → n ≢ 0 → n ≢ 1 → n ≢ 2 → n ≢ 6 → control_of_atom (name_at t.names n) ≡ BoxedGoal
  other-atom n a b c d =
      rw (
        other-text n 0 (codes "true") (omega arith) refl a,
        other-text n 1 (codes "fail") (omega arith) refl b,
        other-text n 2
            (codes "false") (omega arith) refl c,
        other-text n 6 (codes "!") (omega arith) refl d,
      ) refl

  pub true-atom : (n : ℕ) → n ≡ 0 → is_true (goal_named t (node n no_args)) ≡ true
  true-atom n e = same-text n 0 (codes "true") (omega arith) refl e

  pub not-true-atom : (n : ℕ) → n ≢ 0 → is_true (goal_named t (node n no_args)) ≡ false
  not-true-atom n e = other-text n 0 (codes "true") (omega arith) refl e

  pub conjunction-pair : (n : ℕ) (a b : Term Text) → n ≡ 3 → control_of_pair (name_at t.names n) a b ≡ visit.Conjunction a b
  conjunction-pair n a b e = rw (same-text n 3 (codes ",") (omega arith) refl e) refl

  pub disjunction-pair : (n : ℕ) (a b : Term Text) → n ≡ 4 → control_of_pair (name_at t.names n) a b ≡ control_of_disjunction a b
  disjunction-pair n a b e =
      rw (other-text n 3 (codes ",") (omega arith) refl (λ q. omega arith), same-text n 4 (codes ";") (omega arith) refl e) refl

  pub if_then-pair : (n : ℕ) (a b : Term Text) → n ≡ 5 → control_of_pair (name_at t.names n) a b ≡ IfThenElse a b (atom (codes "fail"))
  if_then-pair n a b e =
      rw (
        other-text n 3 (codes ",") (omega arith) refl (λ q. omega arith),
        other-text n 4 (codes ";") (omega arith) refl
            (λ q. omega arith),
        same-text n 5 (codes "->") (omega arith) refl e,
      ) refl

  pub other-pair : (n : ℕ) (a b : Term Text) → n ≢ 3 → n ≢ 4 → n ≢ 5 → control_of_pair (name_at t.names n) a b ≡ BoxedGoal
  other-pair n a b x y z =
      rw (
        other-text n 3 (codes ",") (omega arith) refl x,
        other-text n 4 (codes ";") (omega arith) refl y,
        other-text n 5 (codes "->")
            (omega arith) refl z,
      ) refl

  -- the kind of an atom, by its number
  pub atom-control : (g : Term ℕ) (n : ℕ) (k : GoalKind) → (n ≡ 0 → k ≡ kinds.True) → (n ≡ 1 → k ≡ kinds.Fail) → (n ≡ 2 → k ≡ kinds.Fail)
      → (n ≡ 6 → k ≡ kinds.Cut)
      → (n ≢ 0 → n ≢ 1 → n ≢ 2 → n ≢ 6 → k ≡ kinds.Boxed) → control_of_atom (name_at t.names n) ≡ control_of_kind t g k
  atom-control g n k a b c d e =
      by_equal n 0 (λ q. true_name-atom n q ∙ ap (control_of_kind t g) (sym (a q))) (λ x.
      by_equal n 1 (λ q. fail_name-atom n q ∙ ap (control_of_kind t g) (sym (b q))) (λ y.
      by_equal n 2 (λ q. false_name-atom n q ∙ ap (control_of_kind t g) (sym (c q))) (λ z.
      by_equal n 6 (λ q. cut_name-atom n q ∙ ap (control_of_kind t g) (sym (d q))) (λ w.
      other-atom n x y z w ∙ ap (control_of_kind t g) (sym (e x y z w))))))

  -- the kind of a compound, by its number and its arguments
  pub struct-control : (f : ℕ) (ts : Args ℕ) (k : GoalKind) → 0 < arity ts → (f ≡ 3 → arity ts ≡ 2 → k ≡ kinds.Conjunction)
      → (f ≡ 4 → arity ts ≡ 2 → k ≡ kinds.Disjunction) → (f ≡ 5 → arity ts ≡ 2 → k ≡ kinds.IfThen)
      → (f ≢ 3 → f ≢ 4 → f ≢ 5 → k ≡ kinds.Boxed) → (arity ts ≢ 2 → k ≡ kinds.Boxed)
      → control (goal_named t (node f ts)) ≡ control_of_kind t (node f ts) k
  struct-control f no_args k p a b c d l = absurd (omega (arith, p))
  struct-control f (arg x no_args) k p a b c d l = ap (control_of_kind t (node f (arg x no_args))) (sym (l (λ q. omega (arith, q))))
  struct-control f (arg x (arg y no_args)) k p a b c d l =
      let X : Term Text = goal_named t x in
      let Y : Term Text = goal_named t y in
      let of : GoalKind → Control = control_of_kind t (node f (arg x (arg y no_args))) in
      by_equal f 3 (λ e. conjunction-pair f X Y e ∙ ap of (sym (a e refl))) (λ m.
      by_equal f 4 (λ e. disjunction-pair f X Y e ∙ ap of (sym (b e refl))) (λ n.
      by_equal f 5 (λ e. if_then-pair f X Y e ∙ ap of (sym (c e refl))) (λ o.
      other-pair f X Y m n o ∙ ap of (sym (d m n o)))))
  struct-control f (arg x (arg y (arg z us))) k p a b c d l =
      ap (control_of_kind t (node f (arg x (arg y (arg z us))))) (sym (l (λ q. omega (arith, q))))

  -- whether the first part of a disjunction is a condition
  pub if_then-disjunction : (g : Term ℕ) (e : Term Text) → g ≡ node 5 (args_of g) → arity (args_of g) ≡ 2
      → control_of_disjunction (goal_named t g) e ≡ IfThenElse (goal_named t (nth_arg (args_of g) 0))
      (goal_named t (nth_arg (args_of g) 1)) e
  if_then-disjunction (var v) e q two = absurd cc
  if_then-disjunction (int i) e q two = absurd cc
  if_then-disjunction (node f no_args) e q two = absurd (omega (arith, two))
  if_then-disjunction (node f (arg x no_args)) e q two = absurd (omega (arith, two))
  if_then-disjunction (node f (arg x (arg y no_args))) e q two =
      let is : f ≡ 5 = cc in
      rw (same-text f 5 (codes "->") (omega arith) refl is) refl
  if_then-disjunction (node f (arg x (arg y (arg z us)))) e q two = absurd (omega (arith, two))

  pub other-disjunction : (g : Term ℕ) (e : Term Text) → ((ts : Args ℕ) → g ≡ node 5 ts → arity ts ≡ 2 → ⊥)
      → control_of_disjunction (goal_named t g) e ≡ Disjunction (goal_named t g) e
  other-disjunction (var v) e other = refl
  other-disjunction (int i) e other = refl
  other-disjunction (node f no_args) e other = refl
  other-disjunction (node f (arg x no_args)) e other = refl
  other-disjunction (node f (arg x (arg y no_args))) e other =
      rw (other-text f 5 (codes "->") (omega arith) refl
      (λ q. other (arg x (arg y no_args)) (ap (λ (n : ℕ). node n (arg x (arg y no_args))) q) refl)) refl
  other-disjunction (node f (arg x (arg y (arg z us)))) e other = refl

-- a term that is no atom is not true
pub not-true : (t : Stored) (g : Term ℕ) → ((f : Sym) → head g ≡ nodes.Atom f → ⊥) → is_true (goal_named t g) ≡ false
not-true t (var v) h = refl
not-true t (int i) h = refl
not-true t (node f no_args) h = absurd (h (sym_of f) refl)
not-true t (node f (arg x xs)) h = refl

-- no atom has two parts
pub no-pair : {P : Type 0} (n : ℕ) (k : GoalKind) → IsPair k → (n ≡ 0 → k ≡ kinds.True) → (n ≡ 1 → k ≡ kinds.Fail)
    → (n ≡ 2 → k ≡ kinds.Fail) → (n ≡ 6 → k ≡ kinds.Cut)
    → (n ≢ 0 → n ≢ 1 → n ≢ 2 → n ≢ 6 → k ≡ kinds.Boxed) → P
no-pair {P} n k pair a b c d e =
    by_equal n 0 (λ q. single kinds.True (a q) (λ h. h)) (λ x.
    by_equal n 1 (λ q. single kinds.Fail (b q) (λ h. h)) (λ y.
    by_equal n 2 (λ q. single kinds.Fail (c q) (λ h. h)) (λ z.
    by_equal n 6 (λ q. single kinds.Cut (d q) (λ h. h)) (λ w. single kinds.Boxed (e x y z w) (λ h. h)))))
  where
    single : (j : GoalKind) → k ≡ j → (IsPair j → ⊥) → P
    single j q none = absurd (none (subst IsPair q pair))

pub on-true : {P Q : Type 0} (r : Bool) → OnTrue r P → (P → Q) → OnTrue r Q
on-true true h f = f h
on-true false h f = tt

pub on-false : {P Q : Type 0} (r : Bool) → OnFalse r P → (P → Q) → OnFalse r Q
on-false true h f = tt
on-false false h f = f h

-- equal compounds have one name
pub name-of : (f n : ℕ) (ts us : Args ℕ) → node f ts ≡ node n us → f ≡ n
name-of f n ts us e = cc
