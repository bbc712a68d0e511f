-- A term is the tree of its row.
use Rattle.std.proofs.Common.{◌≡◌, ◌≤◌, ◌+◌, ℕ, zero, suc, Bool, true, false, cond, List, [], ◌∷◌, ◌++◌, Option, Some, None, length, refl}
use Rattle.std.proofs.Common.{sym, ◌∙◌, ap, subst, arith, leb, length-append, IfSome}
use Rattle.std.specs.Prelude.{codes}
use Rattle.std.specs.Str.{bytes_eq}
use Rattle.std.specs.Option.{option_and_then}
use Rattle.std.proofs.lemmas.Bool.{le-leb}
use Rattle.op_logic.proofs.BoolCases.{by_test, if_true, if_false}
use Rattle.op_logic.specs.Term.{Term, var, int, node, Args, no_args, arg}
use Rattle.op_term.specs.declared.ops.OpKind.{OpKind}
use Rattle.op_term.specs.declared.ops.OpKind.TheVariants.{Xfx, Xfy, Yfx, Fy, Fx, Xf, Yf}
use Rattle.op_term.specs.declared.ops.Meaning.{Meaning}
use Rattle.op_term.specs.Ops.{Table, IsTable, IsMeaning, prefix_in, infix_in, postfix_in, is_prefix, is_infix, is_postfix}
use Rattle.op_reader.specs.Row.{Member, operand, operator, Operator, split_at, joined, left_bound, right_bound, tree_of, tree}
use Rattle.op_reader.proofs.Spines.{is_single, tree_at, tree_step, tree_more, tree_single}
use Rattle.op_writer.specs.declared.style.Style.{Style}
use Rattle.op_writer.specs.declared.bound.Bound.{Bound}
use Rattle.op_writer.specs.declared.notation.Notation.{Notation}
use Rattle.op_writer.specs.declared.notation.Notation.TheVariants.{List as Listed, Braces, Infix, Prefix, Postfix, Functional}
use Rattle.op_writer.specs.Text.{fits, left_of, right_of, notation_of, binary, unary, is_canonical}
use Rattle.op_readback.specs.Rows.{operator_of, alone, notation_row, row_of, limit}
use Rattle.op_readback.proofs.RowRoots.{AllAllowed, allowed-append, allowed-map, allowed-limit, fits-allowed, left-weakens, right-weakens}
use Rattle.op_readback.proofs.RowRoots.{left-cases, right-cases, root-is}

abbrev Text : Type 0
Text = List ℕ

-- a row with an operator is no single operand
not-single : (xs : List (Member Text)) (o : Operator Text) (ys : List (Member Text)) → is_single (xs ++ operator o ∷ ys) ≡ false
not-single [] o ys = refl
not-single (operator p ∷ xs) o ys = refl
not-single (operand t ∷ []) o ys = refl
not-single (operand t ∷ x ∷ xs) o ys = refl

-- more steps than members
more : (k bound : ℕ) (ps : List (Member Text)) → tree_of (length ps) bound ps ≡ tree_of (k + length ps) bound ps
more zero bound ps = ap (λ (n : ℕ). tree_of n bound ps) (let e : length ps ≡ 0 + length ps = omega arith in e)
more (suc k) bound ps =
    more k bound ps ∙ (tree_more (k + length ps) bound ps (omega arith)
    ∙ ap (λ (n : ℕ). tree_of n bound ps) (let e : suc (k + length ps) ≡ suc k + length ps = omega arith in e))

left-limit : (f : Text) (m : Meaning) → left_bound (operator_of f m) ≡ limit (left_of m)
left-limit f m = left-cases m
    (λ y e. if_true _ _ _ y ∙ sym (ap limit e))
    (λ y e. if_false _ _ _ y ∙ sym (ap limit e))

right-limit : (f : Text) (m : Meaning) → right_bound (operator_of f m) ≡ limit (right_of m)
right-limit f m = right-cases m
    (λ y e. if_true _ _ _ y ∙ sym (ap limit e))
    (λ y e. if_false _ _ _ y ∙ sym (ap limit e))

-- the tree of a row at its operator
module _ (f : Text) (m : Meaning) (one : 1 ≤ m.priority) (xs ys : List (Member Text)) (hx : AllAllowed (left_of m) xs)
    (hy : AllAllowed (right_of m) ys) where
  at-root : (p : ℕ) (left right : Option (Term Text)) → m.priority ≤ p → tree (limit (left_of m)) xs ≡ left
      → tree (limit (right_of m)) ys ≡ right
      → tree p (xs ++ operator (operator_of f m) ∷ ys) ≡ joined (split_at xs (operator_of f m) ys) left right
  at-root p left right l hl hr =
      let o = operator_of f m in
      let s = split_at xs o ys in
      let whole = xs ++ operator o ∷ ys in
      let n = length xs + length ys in
      let size : length whole ≡ suc n = (let e : length whole ≡ length xs + suc (length ys) = length-append xs
      (operator o ∷ ys) in omega (arith, e)) in
      let tl : tree_of n (left_bound o) xs ≡ left =
      ap (λ (k : ℕ). tree_of k (left_bound o) xs) (let e : n ≡ length ys + length xs = omega arith in e)
      ∙ (sym (more (length ys) (left_bound o) xs) ∙ (ap (λ (b : ℕ). tree b xs) (left-limit f m) ∙ hl)) in
      let tr : tree_of n (right_bound o) ys ≡ right =
      sym (more (length xs) (right_bound o) ys) ∙ (ap (λ (b : ℕ). tree b ys) (right-limit f m) ∙ hr) in
      ap (λ (k : ℕ). tree_of k p whole) size
      ∙ (tree_step n p whole (not-single xs o ys)
      ∙ (ap (option_and_then (tree_at n p)) (root-is f m one xs ys hx hy)
      ∙ (if_true (leb m.priority p) (joined s (tree_of n (left_bound o) xs) (tree_of n (right_bound o) ys)) None (le-leb m.priority p l)
      ∙ (ap (λ (x : Option (Term Text)). joined s x (tree_of n (right_bound o) ys)) tl
      ∙ ap (λ (x : Option (Term Text)). joined s left x) tr))))

-- the classes
infix-class : (k : OpKind) → is_infix k ≡ true → (is_prefix k ≡ false) × (is_postfix k ≡ false)
infix-class Xfx h = (refl, refl)
infix-class Xfy h = (refl, refl)
infix-class Yfx h = (refl, refl)
infix-class Fy h = absurd (let e : false ≡ true = h in cc)
infix-class Fx h = absurd (let e : false ≡ true = h in cc)
infix-class Xf h = absurd (let e : false ≡ true = h in cc)
infix-class Yf h = absurd (let e : false ≡ true = h in cc)

postfix-class : (k : OpKind) → is_postfix k ≡ true → is_prefix k ≡ false
postfix-class Xf h = refl
postfix-class Yf h = refl
postfix-class Xfx h = refl
postfix-class Xfy h = refl
postfix-class Yfx h = refl
postfix-class Fy h = absurd (let e : false ≡ true = h in cc)
postfix-class Fx h = absurd (let e : false ≡ true = h in cc)

-- what a notation says of the table
binary-is : (o : Option Meaning) (m : Meaning) → binary o ≡ Infix m → o ≡ Some m
binary-is None m h = absurd (cc)
binary-is (Some k) m h = let e : k ≡ m = cc in cc

unary-prefix : (o q : Option Meaning) (m : Meaning) → unary o q ≡ Prefix m → o ≡ Some m
unary-prefix None None m h = absurd (cc)
unary-prefix None (Some k) m h = absurd (cc)
unary-prefix (Some k) q m h = let e : k ≡ m = cc in cc

unary-postfix : (o q : Option Meaning) (m : Meaning) → unary o q ≡ Postfix m → q ≡ Some m
unary-postfix None None m h = absurd (cc)
unary-postfix None (Some k) m h = let e : k ≡ m = cc in cc
unary-postfix (Some k) q m h = absurd (cc)

pub notation-infix : (ops : Table) (style : Style) (f : Text) (m : Meaning) → notation_of ops style f 2 ≡ Infix m → infix_in ops f ≡ Some m
notation-infix ops style f m h = by_test (bytes_eq f (codes "."))
    (λ e. absurd (let k : Listed ≡ Infix m = sym (if_true _ _ _ e) ∙ h in cc))
    (λ e. by_test (is_canonical style)
    (λ c. absurd (let k : Functional ≡ Infix m = sym (if_false _ _ _ e ∙ if_true _ _ _ c) ∙ h in cc))
    (λ c. binary-is (infix_in ops f) m (sym (if_false _ _ _ e ∙ if_false _ _ _ c) ∙ h)))

pub notation-prefix : (ops : Table) (style : Style) (f : Text) (m : Meaning) → notation_of ops style f 1 ≡ Prefix m
    → prefix_in ops f ≡ Some m
notation-prefix ops style f m h = by_test (bytes_eq f (codes "{}"))
    (λ e. absurd (let k : Braces ≡ Prefix m = sym (if_true _ _ _ e) ∙ h in cc))
    (λ e. by_test (is_canonical style)
    (λ c. absurd (let k : Functional ≡ Prefix m = sym (if_false _ _ _ e ∙ if_true _ _ _ c) ∙ h in cc))
    (λ c. unary-prefix (prefix_in ops f) (postfix_in ops f) m (sym (if_false _ _ _ e ∙ if_false _ _ _ c) ∙ h)))

pub notation-postfix : (ops : Table) (style : Style) (f : Text) (m : Meaning) → notation_of ops style f 1 ≡ Postfix m
    → postfix_in ops f ≡ Some m
notation-postfix ops style f m h = by_test (bytes_eq f (codes "{}"))
    (λ e. absurd (let k : Braces ≡ Postfix m = sym (if_true _ _ _ e) ∙ h in cc))
    (λ e. by_test (is_canonical style)
    (λ c. absurd (let k : Functional ≡ Postfix m = sym (if_false _ _ _ e ∙ if_true _ _ _ c) ∙ h in cc))
    (λ c. unary-postfix (prefix_in ops f) (postfix_in ops f) m (sym (if_false _ _ _ e ∙ if_false _ _ _ c) ∙ h)))

meaning-of : (class : OpKind → Bool) (o : Option Meaning) (m : Meaning) → IfSome o (IsMeaning class) → o ≡ Some m → IsMeaning class m
meaning-of class o m h e = subst (λ (q : Option Meaning). IfSome q (IsMeaning class)) e h

-- what holds of the row of a term within each bound
abbrev Good : Table → Style → Term Text → Type 0
Good ops style t = (bound : Bound) → AllAllowed bound (row_of ops style t bound) × (tree (limit bound) (row_of ops style t bound) ≡ Some t)

abbrev GoodRow : Term Text → Bound → List (Member Text) → Type 0
GoodRow t bound row = AllAllowed bound row × (tree (limit bound) row ≡ Some t)

alone-good : (t : Term Text) (bound : Bound) → GoodRow t bound (alone t)
alone-good t bound = (tt, tree_single 0 (limit bound) t)

-- with an operator where it fits, and alone where it doesn't
fits-or : (t : Term Text) (bound : Bound) (m : Meaning) (row : List (Member Text)) → (fits bound m ≡ true → GoodRow t bound row)
    → GoodRow t bound (cond (fits bound m) row (alone t))
fits-or t bound m row h = by_test (fits bound m)
    (λ e. subst (GoodRow t bound) (sym (if_true (fits bound m) row (alone t) e)) (h e))
    (λ e. subst (GoodRow t bound) (sym (if_false (fits bound m) row (alone t) e)) (alone-good t bound))

module _ (ops : Table) (table : IsTable ops) (style : Style) where
  infix-good : (f : Text) (a b : Term Text) → Good ops style a → Good ops style b → (bound : Bound) (m : Meaning)
      → infix_in ops f ≡ Some m → fits bound m ≡ true
      → GoodRow (node f (arg a (arg b no_args))) bound (row_of ops style a (left_of m) ++ operator (operator_of f m) ∷ row_of ops style b
      (right_of m))
  infix-good f a b ga gb bound m e fit =
      let k = meaning-of is_infix (infix_in ops f) m (table.infixes f) e in
      let one = k.1 in
      let xs = row_of ops style a (left_of m) in
      let ys = row_of ops style b (right_of m) in
      let hx = (ga (left_of m)).0 in
      let hy = (gb (right_of m)).0 in
      let o = operator_of f m in
      let class = infix-class m.kind k.0 in (
        allowed-append bound xs (operator o ∷ ys) (allowed-map (left_of m) bound xs (λ p h. left-weakens m bound p one fit h) hx)
            (fits-allowed f m bound fit, allowed-map (right_of m) bound ys (λ p h. right-weakens m bound p one fit h) hy),
        at-root f m one xs ys hx hy (limit bound) (Some a) (Some b) (allowed-limit bound o (fits-allowed f m bound fit))
            (ga (left_of m)).1 (gb (right_of m)).1
            ∙ (if_false (is_prefix m.kind) _ _ class.0 ∙ if_false (is_postfix m.kind) _ _ class.1),
      )

  prefix-good : (f : Text) (a : Term Text) → Good ops style a → (bound : Bound) (m : Meaning)
      → prefix_in ops f ≡ Some m → fits bound m ≡ true
      → GoodRow (node f (arg a no_args)) bound (operator (operator_of f m) ∷ row_of ops style a (right_of m))
  prefix-good f a ga bound m e fit =
      let k = meaning-of is_prefix (prefix_in ops f) m (table.prefixes f) e in
      let one = k.1 in
      let ys = row_of ops style a (right_of m) in
      let hy = (ga (right_of m)).0 in
      let o = operator_of f m in (
        (fits-allowed f m bound fit, allowed-map (right_of m) bound ys (λ p h. right-weakens m bound p one fit h) hy),
        at-root f m one [] ys tt hy (limit bound) (tree (limit (left_of m)) []) (Some a)
            (allowed-limit bound o (fits-allowed f m bound fit)) refl (ga (right_of m)).1
            ∙ if_true (is_prefix m.kind) _ _ k.0,
      )

  postfix-good : (f : Text) (a : Term Text) → Good ops style a → (bound : Bound) (m : Meaning)
      → postfix_in ops f ≡ Some m → fits bound m ≡ true
      → GoodRow (node f (arg a no_args)) bound (row_of ops style a (left_of m) ++ operator (operator_of f m) ∷ [])
  postfix-good f a ga bound m e fit =
      let k = meaning-of is_postfix (postfix_in ops f) m (table.postfixes f) e in
      let one = k.1 in
      let xs = row_of ops style a (left_of m) in
      let hx = (ga (left_of m)).0 in
      let o = operator_of f m in (
        allowed-append bound xs (operator o ∷ []) (allowed-map (left_of m) bound xs (λ p h. left-weakens m bound p one fit h) hx)
            (fits-allowed f m bound fit, tt),
        at-root f m one xs [] hx tt (limit bound) (Some a) (tree (limit (right_of m)) [])
            (allowed-limit bound o (fits-allowed f m bound fit)) (ga (left_of m)).1 refl
            ∙ (if_false (is_prefix m.kind) _ _ (postfix-class m.kind k.0) ∙ if_true (is_postfix m.kind) _ _ k.0),
      )

  one-good : (f : Text) (a : Term Text) → Good ops style a → (bound : Bound) (nt : Notation) → notation_of ops style f 1 ≡ nt
      → GoodRow (node f (arg a no_args)) bound (notation_row (node f (arg a no_args)) f (row_of ops style a ∷ []) bound nt)
  one-good f a ga bound (Prefix m) e = fits-or _ bound m _ (prefix-good f a ga bound m (notation-prefix ops style f m e))
  one-good f a ga bound (Postfix m) e = fits-or _ bound m _ (postfix-good f a ga bound m (notation-postfix ops style f m e))
  one-good f a ga bound (Infix m) e = alone-good _ bound
  one-good f a ga bound Listed e = alone-good _ bound
  one-good f a ga bound Braces e = alone-good _ bound
  one-good f a ga bound Functional e = alone-good _ bound

  two-good : (f : Text) (a b : Term Text) → Good ops style a → Good ops style b → (bound : Bound) (nt : Notation)
      → notation_of ops style f 2 ≡ nt
      → GoodRow (node f (arg a (arg b no_args))) bound (notation_row (node f (arg a (arg b no_args))) f
      (row_of ops style a ∷ row_of ops style b ∷ []) bound nt)
  two-good f a b ga gb bound (Infix m) e = fits-or _ bound m _ (infix-good f a b ga gb bound m (notation-infix ops style f m e))
  two-good f a b ga gb bound (Prefix m) e = alone-good _ bound
  two-good f a b ga gb bound (Postfix m) e = alone-good _ bound
  two-good f a b ga gb bound Listed e = alone-good _ bound
  two-good f a b ga gb bound Braces e = alone-good _ bound
  two-good f a b ga gb bound Functional e = alone-good _ bound

  abbrev AllGood : Args Text → Type 0
  AllGood no_args = Unit {0}
  AllGood (arg t ts) = Good ops style t × AllGood ts

  node-good : (f : Text) (ts : Args Text) → AllGood ts → Good ops style (node f ts)
  node-good f no_args g bound = alone-good _ bound
  node-good f (arg a no_args) g bound = one-good f a g.0 bound _ refl
  node-good f (arg a (arg b no_args)) g bound = two-good f a b g.0 g.1.0 bound _ refl
  node-good f (arg a (arg b (arg d ts))) g bound = alone-good _ bound

  mutual
    pub good : (t : Term Text) → Good ops style t
    good (var v) bound = alone-good (var v) bound
    good (int i) bound = alone-good (int i) bound
    good (node f ts) bound = node-good f ts (goods ts) bound

    goods : (ts : Args Text) → AllGood ts
    goods no_args = tt
    goods (arg t ts) = (good t, goods ts)

pub rows-are-terms : (ops : Table) → IsTable ops → (style : Style) (t : Term Text) (bound : Bound)
    → tree (limit bound) (row_of ops style t bound) ≡ Some t
rows-are-terms ops table style t bound = (good ops table style t bound).1
