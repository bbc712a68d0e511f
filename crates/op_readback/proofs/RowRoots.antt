-- The root of a row whose operators are within the bounds of its sides.
use Rattle.std.proofs.Common.{◌≡◌, ◌<◌, ◌≤◌, ◌-◌, ℕ, Bool, true, false, ◌||◌, ◌&&◌, List, [], ◌∷◌, ◌++◌, Option, Some, max, refl, sym, ◌∙◌}
use Rattle.std.proofs.Common.{ap, subst, arith, ltb, eqb}
use Rattle.std.proofs.lemmas.Bool.{leb-true, ltb-true, lt-ltb, eqb-true}
use Rattle.op_logic.proofs.BoolCases.{by_test, by_order, if_true, if_false}
use Rattle.op_term.specs.declared.ops.OpKind.{OpKind}
use Rattle.op_term.specs.declared.ops.OpKind.TheVariants.{Xfx, Xfy, Yfx, Fy, Fx, Xf, Yf}
use Rattle.op_term.specs.declared.ops.Meaning.{Meaning}
use Rattle.op_term.specs.Ops.{is_y_left, is_y_right}
use Rattle.op_reader.specs.Row.{Member, operand, operator, Operator, Split, split_at, top, leftmost, rightmost, root, root_among}
use Rattle.op_reader.proofs.RowSplits.{extended, top-append, leftmost-here, leftmost-more, rightmost-here, rightmost-there, leftmost-there}
use Rattle.op_reader.proofs.RowSplits.{leftmost-splits}
use Rattle.op_writer.specs.declared.bound.Bound.{Bound}
use Rattle.op_writer.specs.declared.bound.Bound.TheVariants.{Whole, Operand, Left, Right}
use Rattle.op_writer.specs.Text.{fits, left_of, right_of}
use Rattle.op_readback.specs.Rows.{operator_of, limit}

abbrev Text : Type 0
Text = List ℕ

-- an operator that stands in a part within a bound
abbrev pub IsAllowed : Bound → Operator Text → Type 0
IsAllowed (Whole p) o = o.priority ≤ p
IsAllowed (Operand p) o = o.priority ≤ p
IsAllowed (Left p) o = (o.priority ≤ p) × (o.priority ≡ p → is_y_left o.kind ≡ true)
IsAllowed (Right p) o = (o.priority ≤ p) × (o.priority ≡ p → is_y_right o.kind ≡ true)

abbrev pub AllAllowed : Bound → List (Member Text) → Type 0
AllAllowed b [] = Unit {0}
AllAllowed b (operand t ∷ ps) = AllAllowed b ps
AllAllowed b (operator o ∷ ps) = IsAllowed b o × AllAllowed b ps

pub allowed-append : (b : Bound) (xs ys : List (Member Text)) → AllAllowed b xs → AllAllowed b ys → AllAllowed b (xs ++ ys)
allowed-append b [] ys h g = g
allowed-append b (operand t ∷ xs) ys h g = allowed-append b xs ys h g
allowed-append b (operator o ∷ xs) ys h g = (h.0, allowed-append b xs ys h.1 g)

pub allowed-map : (b c : Bound) (xs : List (Member Text)) → ((o : Operator Text) → IsAllowed b o → IsAllowed c o)
    → AllAllowed b xs → AllAllowed c xs
allowed-map b c [] f h = tt
allowed-map b c (operand t ∷ xs) f h = allowed-map b c xs f h
allowed-map b c (operator o ∷ xs) f h = (f o h.0, allowed-map b c xs f h.1)

allowed-in : (b : Bound) (xs ys : List (Member Text)) (o : Operator Text) → AllAllowed b (xs ++ operator o ∷ ys) → IsAllowed b o
allowed-in b [] ys o h = h.0
allowed-in b (operand t ∷ xs) ys o h = allowed-in b xs ys o h
allowed-in b (operator p ∷ xs) ys o h = allowed-in b xs ys o h.1

pub allowed-limit : (b : Bound) (o : Operator Text) → IsAllowed b o → o.priority ≤ limit b
allowed-limit (Whole p) o h = h
allowed-limit (Operand p) o h = h
allowed-limit (Left p) o h = h.0
allowed-limit (Right p) o h = h.0

pub top-limit : (b : Bound) (xs : List (Member Text)) → AllAllowed b xs → top xs ≤ limit b
top-limit b [] h = omega arith
top-limit b (operand t ∷ xs) h = top-limit b xs h
top-limit b (operator o ∷ xs) h = omega (arith, allowed-limit b o h.0, top-limit b xs h.1)

not-both : (k : OpKind) → is_y_left k ≡ true → is_y_right k ≡ false
not-both Yfx h = refl
not-both Yf h = refl
not-both Xfx h = refl
not-both Xfy h = absurd (let e : false ≡ true = h in cc)
not-both Fy h = absurd (let e : false ≡ true = h in cc)
not-both Fx h = refl
not-both Xf h = refl

-- the bounds of an operator's sides
pub left-cases : {P : Type 0} (m : Meaning) → (is_y_left m.kind ≡ true → left_of m ≡ Left m.priority → P)
    → (is_y_left m.kind ≡ false → left_of m ≡ Operand (m.priority - 1) → P) → P
left-cases m f g = by_test (is_y_left m.kind) (λ h. f h (if_true _ _ _ h)) (λ h. g h (if_false _ _ _ h))

pub right-cases : {P : Type 0} (m : Meaning) → (is_y_right m.kind ≡ true → right_of m ≡ Right m.priority → P)
    → (is_y_right m.kind ≡ false → right_of m ≡ Operand (m.priority - 1) → P) → P
right-cases m f g = by_test (is_y_right m.kind) (λ h. f h (if_true _ _ _ h)) (λ h. g h (if_false _ _ _ h))

either : {P : Type 0} (a b : Bool) → a || b ≡ true → (a ≡ true → P) → (b ≡ true → P) → P
either true b h f g = f refl
either false b h f g = g h

both : (a b : Bool) → a && b ≡ true → (a ≡ true) × (b ≡ true)
both true b h = (refl, h)
both false b h = absurd (let e : false ≡ true = h in cc)

-- what is allowed on a side of an operator that fits is allowed
pub left-weakens : (m : Meaning) (bound : Bound) (o : Operator Text) → 1 ≤ m.priority → fits bound m ≡ true
    → IsAllowed (left_of m) o → IsAllowed bound o
left-weakens m bound o one fit h = left-cases m
    (λ y e. within bound fit y (subst (λ (b : Bound). IsAllowed b o) e h))
    (λ y e. below bound fit y (let l : o.priority ≤ m.priority - 1 = subst (λ (b : Bound). IsAllowed b o) e h in l))
  where
    within : (bound : Bound) → fits bound m ≡ true → is_y_left m.kind ≡ true → IsAllowed (Left m.priority) o → IsAllowed bound o
    within (Whole p) f y h = omega (arith, leb-true m.priority p f, h.0)
    within (Operand p) f y h = omega (arith, leb-true m.priority p f, h.0)
    within (Left p) f y h = either (ltb m.priority p) (eqb m.priority p && is_y_left m.kind) f
        (λ l. (omega (arith, ltb-true m.priority p l, h.0), λ e. absurd (omega (arith, ltb-true m.priority p l, h.0, e))))
        (λ k. let q = eqb-true m.priority p (both (eqb m.priority p) (is_y_left m.kind) k).0 in (
          omega (arith, q, h.0),
          λ e. h.1 (omega (arith, q, e)),
        ))
    within (Right p) f y h = either (ltb m.priority p) (eqb m.priority p && is_y_right m.kind) f
        (λ l. (omega (arith, ltb-true m.priority p l, h.0), λ e. absurd (omega (arith, ltb-true m.priority p l, h.0, e))))
        (λ k. absurd (let r : is_y_right m.kind ≡ true = (both (eqb m.priority p) (is_y_right m.kind) k).1 in
        let n : is_y_right m.kind ≡ false = not-both m.kind y in let z : true ≡ false = sym r ∙ n in cc))

    below : (bound : Bound) → fits bound m ≡ true → is_y_left m.kind ≡ false → o.priority ≤ m.priority - 1 → IsAllowed bound o
    below (Whole p) f y h = omega (arith, leb-true m.priority p f, h, one)
    below (Operand p) f y h = omega (arith, leb-true m.priority p f, h, one)
    below (Left p) f y h = either (ltb m.priority p) (eqb m.priority p && is_y_left m.kind) f
        (λ l. (omega (arith, ltb-true m.priority p l, h), λ e. absurd (omega (arith, ltb-true m.priority p l, h, e, one))))
        (λ k. let q = eqb-true m.priority p (both (eqb m.priority p) (is_y_left m.kind) k).0 in (
          omega (arith, q, h),
          λ e. absurd (omega (arith, q, h, e, one)),
        ))
    below (Right p) f y h = either (ltb m.priority p) (eqb m.priority p && is_y_right m.kind) f
        (λ l. (omega (arith, ltb-true m.priority p l, h), λ e. absurd (omega (arith, ltb-true m.priority p l, h, e, one))))
        (λ k. let q = eqb-true m.priority p (both (eqb m.priority p) (is_y_right m.kind) k).0 in (
          omega (arith, q, h),
          λ e. absurd (omega (arith, q, h, e, one)),
        ))

pub right-weakens : (m : Meaning) (bound : Bound) (o : Operator Text) → 1 ≤ m.priority → fits bound m ≡ true
    → IsAllowed (right_of m) o → IsAllowed bound o
right-weakens m bound o one fit h = right-cases m
    (λ y e. within bound fit y (subst (λ (b : Bound). IsAllowed b o) e h))
    (λ y e. below bound fit y (let l : o.priority ≤ m.priority - 1 = subst (λ (b : Bound). IsAllowed b o) e h in l))
  where
    within : (bound : Bound) → fits bound m ≡ true → is_y_right m.kind ≡ true → IsAllowed (Right m.priority) o → IsAllowed bound o
    within (Whole p) f y h = omega (arith, leb-true m.priority p f, h.0)
    within (Operand p) f y h = omega (arith, leb-true m.priority p f, h.0)
    within (Right p) f y h = either (ltb m.priority p) (eqb m.priority p && is_y_right m.kind) f
        (λ l. (omega (arith, ltb-true m.priority p l, h.0), λ e. absurd (omega (arith, ltb-true m.priority p l, h.0, e))))
        (λ k. let q = eqb-true m.priority p (both (eqb m.priority p) (is_y_right m.kind) k).0 in (
          omega (arith, q, h.0),
          λ e. h.1 (omega (arith, q, e)),
        ))
    within (Left p) f y h = either (ltb m.priority p) (eqb m.priority p && is_y_left m.kind) f
        (λ l. (omega (arith, ltb-true m.priority p l, h.0), λ e. absurd (omega (arith, ltb-true m.priority p l, h.0, e))))
        (λ k. absurd (let r : is_y_left m.kind ≡ true = (both (eqb m.priority p) (is_y_left m.kind) k).1 in
        let n : is_y_right m.kind ≡ false = not-both m.kind r in let z : true ≡ false = sym y ∙ n in cc))

    below : (bound : Bound) → fits bound m ≡ true → is_y_right m.kind ≡ false → o.priority ≤ m.priority - 1 → IsAllowed bound o
    below (Whole p) f y h = omega (arith, leb-true m.priority p f, h, one)
    below (Operand p) f y h = omega (arith, leb-true m.priority p f, h, one)
    below (Left p) f y h = either (ltb m.priority p) (eqb m.priority p && is_y_left m.kind) f
        (λ l. (omega (arith, ltb-true m.priority p l, h), λ e. absurd (omega (arith, ltb-true m.priority p l, h, e, one))))
        (λ k. let q = eqb-true m.priority p (both (eqb m.priority p) (is_y_left m.kind) k).0 in (
          omega (arith, q, h),
          λ e. absurd (omega (arith, q, h, e, one)),
        ))
    below (Right p) f y h = either (ltb m.priority p) (eqb m.priority p && is_y_right m.kind) f
        (λ l. (omega (arith, ltb-true m.priority p l, h), λ e. absurd (omega (arith, ltb-true m.priority p l, h, e, one))))
        (λ k. let q = eqb-true m.priority p (both (eqb m.priority p) (is_y_right m.kind) k).0 in (
          omega (arith, q, h),
          λ e. absurd (omega (arith, q, h, e, one)),
        ))

-- an operator that fits is allowed
pub fits-allowed : (f : Text) (m : Meaning) (bound : Bound) → fits bound m ≡ true → IsAllowed bound (operator_of f m)
fits-allowed f m (Whole p) h = leb-true m.priority p h
fits-allowed f m (Operand p) h = leb-true m.priority p h
fits-allowed f m (Left p) h = either (ltb m.priority p) (eqb m.priority p && is_y_left m.kind) h
    (λ l. (omega (arith, ltb-true m.priority p l), λ e. absurd (let q : m.priority ≡ p = e in omega (arith, ltb-true m.priority p l, q))))
    (λ k. let b = both (eqb m.priority p) (is_y_left m.kind) k in (omega (arith, eqb-true m.priority p b.0), λ e. b.1))
fits-allowed f m (Right p) h = either (ltb m.priority p) (eqb m.priority p && is_y_right m.kind) h
    (λ l. (omega (arith, ltb-true m.priority p l), λ e. absurd (let q : m.priority ≡ p = e in omega (arith, ltb-true m.priority p l, q))))
    (λ k. let b = both (eqb m.priority p) (is_y_right m.kind) k in (omega (arith, eqb-true m.priority p b.0), λ e. b.1))

-- the root
chosen-left : (l r : Split Text) → (ltb (top l.after) l.root.priority || is_y_right l.root.kind) ≡ true
    → root_among (Some l) (Some r) ≡ Some l
chosen-left l r h = if_true _ _ _ h

chosen-right : (l r : Split Text) → (ltb (top l.after) l.root.priority || is_y_right l.root.kind) ≡ false → is_y_left r.root.kind ≡ true
    → root_among (Some l) (Some r) ≡ Some r
chosen-right l r h g = if_false _ _ _ h ∙ if_true _ _ _ g

or-true-left : (a b : Bool) → a ≡ true → (a || b) ≡ true
or-true-left true b h = refl
or-true-left false b h = absurd (let e : false ≡ true = h in cc)

or-true-right : (a b : Bool) → b ≡ true → (a || b) ≡ true
or-true-right true b h = refl
or-true-right false b h = h

or-false : (a b : Bool) → a ≡ false → b ≡ false → (a || b) ≡ false
or-false true b h g = absurd (let e : true ≡ false = h in cc)
or-false false b h g = g

module _ (f : Text) (m : Meaning) (one : 1 ≤ m.priority) (xs ys : List (Member Text)) (hx : AllAllowed (left_of m) xs)
    (hy : AllAllowed (right_of m) ys) where
  abbrev here : Split Text
  here = split_at xs (operator_of f m) ys

  abbrev whole : List (Member Text)
  whole = xs ++ operator (operator_of f m) ∷ ys

  top-left : top xs ≤ m.priority
  top-left = left-cases m
      (λ y e. top-limit (Left m.priority) xs (subst (λ (b : Bound). AllAllowed b xs) e hx))
      (λ y e. let l = top-limit (Operand (m.priority - 1)) xs (subst (λ (b : Bound). AllAllowed b xs) e hx) in omega (arith, l))

  top-right : top ys ≤ m.priority
  top-right = right-cases m
      (λ y e. top-limit (Right m.priority) ys (subst (λ (b : Bound). AllAllowed b ys) e hy))
      (λ y e. let l = top-limit (Operand (m.priority - 1)) ys (subst (λ (b : Bound). AllAllowed b ys) e hy) in omega (arith, l))

  top-whole : top whole ≡ m.priority
  top-whole = let e : top whole ≡ max (top xs) (max m.priority (top ys)) = top-append xs (operator (operator_of f m) ∷ ys) in omega
      (arith, e, top-left, top-right)

  -- the right side has the operator's priority only where it may
  right-test : (ltb (top ys) m.priority || is_y_right m.kind) ≡ true
  right-test = by_order (top ys) m.priority
      (λ l. or-true-left _ _ (lt-ltb (top ys) m.priority l))
      (λ l. right-cases m
      (λ y e. or-true-right _ _ y)
      (λ y e. absurd (let k = top-limit (Operand (m.priority - 1)) ys (subst (λ (b : Bound). AllAllowed b ys) e hy) in omega
      (arith, k, l, one))))

  root-first : top xs < m.priority → root whole ≡ Some here
  root-first h =
      let l : leftmost m.priority whole ≡ Some here = leftmost-here xs (operator_of f m) ys h in
      let r = rightmost-there m.priority whole top-whole (omega (arith, one)) in
      ap (λ (n : ℕ). root_among (leftmost n whole) (rightmost n whole)) top-whole
      ∙ (ap (λ (q : Option (Split Text)). root_among q (rightmost m.priority whole)) l
      ∙ (ap (λ (q : Option (Split Text)). root_among (Some here) q) r.1 ∙ chosen-left here r.0 right-test))

  root-last : is_y_left m.kind ≡ true → left_of m ≡ Left m.priority → m.priority ≤ top xs → root whole ≡ Some here
  root-last y e h =
      let t : top xs ≡ m.priority = omega (arith, top-left, h) in
      let l = leftmost-there m.priority xs t (omega (arith, one)) in
      let s = leftmost-splits m.priority xs l.0 l.1 in
      let more = extended (operator (operator_of f m) ∷ ys) l.0 in
      let lw : leftmost m.priority whole ≡ Some more = leftmost-more m.priority xs (operator (operator_of f m) ∷ ys) l.0 l.1 in
      let no : is_y_right m.kind ≡ false = not-both m.kind y in
      let er : right_of m ≡ Operand (m.priority - 1) = if_false _ _ _ no in
      let less : top ys < m.priority = (let k = top-limit (Operand (m.priority - 1)) ys
      (subst (λ (b : Bound). AllAllowed b ys) er hy) in omega (arith, k, one)) in
      let rw : rightmost m.priority whole ≡ Some here = rightmost-here xs (operator_of f m) ys less in
      let al : IsAllowed (Left m.priority) l.0.root = allowed-in (Left m.priority) l.0.before l.0.after l.0.root
      (subst (λ (ps : List (Member Text)). AllAllowed (Left m.priority) ps) s.members (subst (λ (b : Bound). AllAllowed b xs) e hx)) in
      let not-right : is_y_right l.0.root.kind ≡ false = not-both l.0.root.kind (al.1 s.priority) in
      let not-less : ltb (top more.after) more.root.priority ≡ false = by_test (ltb (top more.after) more.root.priority)
      (λ k. absurd (let d : top more.after ≡ max (top l.0.after) (max m.priority (top ys)) = top-append l.0.after
      (operator (operator_of f m) ∷ ys) in
      omega (arith, ltb-true (top more.after) more.root.priority k, d, s.priority)))
      (λ k. k) in
      ap (λ (n : ℕ). root_among (leftmost n whole) (rightmost n whole)) top-whole
      ∙ (ap (λ (q : Option (Split Text)). root_among q (rightmost m.priority whole)) lw
      ∙ (ap (λ (q : Option (Split Text)). root_among (Some more) q) rw ∙ chosen-right more here (or-false _ _ not-less not-right) y))

  -- the operator is the root of its row
  pub root-is : root whole ≡ Some here
  root-is = by_order (top xs) m.priority root-first
      (λ h. left-cases m (λ y e. root-last y e h)
      (λ y e. absurd (let k = top-limit (Operand (m.priority - 1)) xs (subst (λ (b : Bound). AllAllowed b xs) e hx) in omega
      (arith, k, h, one))))
