-- The standard order is total, and tells apart exactly the terms that differ.
use Rattle.std.proofs.Common.{◌≡◌, ℕ, zero, suc, Bool, true, false, ℤ, List, [], ◌∷◌, sym, ◌∙◌, ap, subst, refl, arith, pos}
use Rattle.std.specs.declared.cmp.Ordering.{Ordering}
use Rattle.std.specs.declared.cmp.Ordering.TheVariants.{Less, Equal, Greater}
use Rattle.std.specs.Ordering.{is_eq, ordering_then, ordering_reverse, nat_cmp, int_cmp, then_cmp, on}
use Rattle.std.specs.Cmp.{IsTotalOrder}
use Rattle.std.specs.Cmp.Lexicographic.{slice_cmp}
use Rattle.std.specs.Str.{bytes_eq}
use Rattle.std.proofs.lemmas.Cmp.{nat_cmp_total, int_cmp_total, nat_list_cmp_total, on_total, then_total, tied_itself, alike_right}
use Rattle.std.proofs.lemmas.Cmp.{int_ranked}
use Rattle.std.proofs.lemmas.Map.Text.{is_eq-slice_cmp}
use Rattle.std.proofs.lemmas.Slice.Eq.{bytes_eq-Decides}
use Rattle.std.proofs.lemmas.Bool.Decides.{nat_tests}
use Rattle.op_logic.specs.Term.{Term, var, int, node, Args, no_args, arg, args_of, arity}
use Rattle.op_term.specs.Order.{name_order, head_order, standard_order, args_order}
use Rattle.op_term.proofs.TermOrders.{then-equal, order-is}

-- a term's head by numbers and a text
abbrev kind : Term (List ℕ) → ℕ
kind (var v) = 0
kind (int i) = 1
kind (node f ts) = 2

abbrev number : Term (List ℕ) → ℕ
number (var v) = v
number (int i) = 0
number (node f ts) = arity ts

abbrev value : Term (List ℕ) → ℤ
value (var v) = pos 0
value (int i) = i
value (node f ts) = pos 0

abbrev name : Term (List ℕ) → List ℕ
name (var v) = []
name (int i) = []
name (node f ts) = f

abbrev by_parts : Term (List ℕ) → Term (List ℕ) → Ordering
by_parts = then_cmp (on kind nat_cmp) (then_cmp (on value int_cmp) (then_cmp (on number nat_cmp) (on name (slice_cmp nat_cmp))))

by_parts-total : IsTotalOrder by_parts
by_parts-total = then_total (on_total kind nat_cmp_total) (then_total (on_total value int_cmp_total)
    (then_total (on_total number nat_cmp_total) (on_total name nat_list_cmp_total)))

head-parts : (t u : Term (List ℕ)) → head_order t u ≡ by_parts t u
head-parts (var v) (var w) = sym (then-equal (nat_cmp v w))
head-parts (var v) (int j) = refl
head-parts (var v) (node g us) = refl
head-parts (int i) (var w) = refl
head-parts (int i) (int j) = sym (then-equal (int_cmp i j))
head-parts (int i) (node g us) = refl
head-parts (node f ts) (var w) = refl
head-parts (node f ts) (int j) = refl
head-parts (node f ts) (node g us) = refl

head-total : IsTotalOrder head_order
head-total = subst IsTotalOrder (λ i t u. sym (head-parts t u) i) by_parts-total

then-back : (a b : Ordering) → ordering_then (ordering_reverse a) (ordering_reverse b) ≡ ordering_reverse (ordering_then a b)
then-back Less b = refl
then-back Equal b = refl
then-back Greater b = refl

then-parts : (a b : Ordering) → ordering_then a b ≡ Equal → (a ≡ Equal) × (b ≡ Equal)
then-parts Less b h = absurd cc
then-parts Equal b h = (refl, h)
then-parts Greater b h = absurd cc

-- two terms the other way round
back-then : (a b c d : Ordering) → a ≡ ordering_reverse c → b ≡ ordering_reverse d
    → ordering_then a b ≡ ordering_reverse (ordering_then c d)
back-then a b c d h k = ap (λ x. ordering_then x b) h ∙ (ap (λ x. ordering_then (ordering_reverse c) x) k ∙ then-back c d)

none-back : (us : Args (List ℕ)) → args_order no_args us ≡ ordering_reverse (args_order us no_args)
none-back no_args = refl
none-back (arg u us) = refl

order-back : (t u : Term (List ℕ)) → args_order (args_of t) (args_of u) ≡ ordering_reverse (args_order (args_of u) (args_of t))
    → standard_order t u ≡ ordering_reverse (standard_order u t)
order-back t u h =
    order-is t u
    ∙ (back-then (head_order t u) (args_order (args_of t) (args_of u)) (head_order u t) (args_order (args_of u) (args_of t))
    (head-total.antisymm t u) h ∙ ap ordering_reverse (sym (order-is u t)))

mutual
  terms-back : (t u : Term (List ℕ)) → standard_order t u ≡ ordering_reverse (standard_order u t)
  terms-back (var v) u = order-back (var v) u (none-back (args_of u))
  terms-back (int i) u = order-back (int i) u (none-back (args_of u))
  terms-back (node f ts) u = order-back (node f ts) u (args-back ts (args_of u))

  args-back : (ts us : Args (List ℕ)) → args_order ts us ≡ ordering_reverse (args_order us ts)
  args-back no_args us = none-back us
  args-back (arg t ts) no_args = refl
  args-back (arg t ts) (arg u us) =
      back-then (standard_order t u) (args_order ts us) (standard_order u t) (args_order us ts) (terms-back t u) (args-back ts us)

-- equal terms are the same
same-text : (f g : List ℕ) → name_order f g ≡ Equal → f ≡ g
same-text f g h = (bytes_eq-Decides f g).0 (sym (is_eq-slice_cmp f g) ∙ ap is_eq h)

same-number : (m n : ℕ) → nat_cmp m n ≡ Equal → m ≡ n
same-number m n h = grind (arith, nat_tests)

same-value : (i j : ℤ) (o : Ordering) → o ≡ int_cmp i j → o ≡ Equal → i ≡ j
same-value i j Less e h = absurd cc
same-value i j Equal e h = int_ranked i j Equal e
same-value i j Greater e h = absurd cc

mutual
  pub equal-same : (t u : Term (List ℕ)) → standard_order t u ≡ Equal → t ≡ u
  equal-same (var v) (var w) h = ap var (same-number v w h)
  equal-same (var v) (int j) h = absurd cc
  equal-same (var v) (node g us) h = absurd cc
  equal-same (int i) (var w) h = absurd cc
  equal-same (int i) (int j) h = ap int (same-value i j (int_cmp i j) refl h)
  equal-same (int i) (node g us) h = absurd cc
  equal-same (node f ts) (var w) h = absurd cc
  equal-same (node f ts) (int j) h = absurd cc
  equal-same (node f ts) (node g us) h =
      let p = then-parts (ordering_then (nat_cmp (arity ts) (arity us)) (name_order f g)) (args_order ts us) h in
      let n : f ≡ g = same-text f g (then-parts (nat_cmp (arity ts) (arity us)) (name_order f g) p.0).1 in
      let a : ts ≡ us = args-same ts us p.1 in
      cc

  args-same : (ts us : Args (List ℕ)) → args_order ts us ≡ Equal → ts ≡ us
  args-same no_args no_args h = refl
  args-same no_args (arg u us) h = absurd cc
  args-same (arg t ts) no_args h = absurd cc
  args-same (arg t ts) (arg u us) h =
      let p = then-parts (standard_order t u) (args_order ts us) h in
      let a : t ≡ u = equal-same t u p.0 in
      let b : ts ≡ us = args-same ts us p.1 in
      cc

-- where both parts are in order, so is the whole: of three, by what the first and the second part say of each two
module _ (a b c x y z : Ordering) (less : a ≡ Less → b ≡ Less → c ≡ Less) (left : a ≡ Equal → c ≡ b) (right : b ≡ Equal → c ≡ a)
    (rest : x ≡ Less → y ≡ Less → z ≡ Less) where
  then-less : c ≡ Less → ordering_then c z ≡ Less
  then-less h = ap (λ o. ordering_then o z) h

  pub then-trans : (p q : Ordering) → p ≡ a → q ≡ b → ordering_then p x ≡ Less → ordering_then q y ≡ Less → ordering_then c z ≡ Less
  then-trans Less Less e f h k = then-less (less (sym e) (sym f))
  then-trans Less Equal e f h k = then-less (right (sym f) ∙ sym e)
  then-trans Less Greater e f h k = absurd cc
  then-trans Equal Less e f h k = then-less (left (sym e) ∙ sym f)
  then-trans Equal Equal e f h k = ap (λ o. ordering_then o z) (left (sym e) ∙ sym f) ∙ rest h k
  then-trans Equal Greater e f h k = absurd cc
  then-trans Greater q e f h k = absurd cc

none-trans : (us ws : Args (List ℕ)) → args_order no_args us ≡ Less → args_order us ws ≡ Less → args_order no_args ws ≡ Less
none-trans no_args ws h k = absurd cc
none-trans (arg u us) no_args h k = absurd cc
none-trans (arg u us) (arg w ws) h k = refl

order-trans : (t u w : Term (List ℕ))
    → (args_order (args_of t) (args_of u) ≡ Less → args_order (args_of u) (args_of w) ≡ Less
    → args_order (args_of t) (args_of w) ≡ Less) → standard_order t u ≡ Less → standard_order u w ≡ Less → standard_order t w ≡ Less
order-trans t u w rest h k =
    order-is t w
    ∙ then-trans (head_order t u) (head_order u w) (head_order t w) (args_order (args_of t) (args_of u))
    (args_order (args_of u) (args_of w)) (args_order (args_of t) (args_of w)) (head-total.trans t u w) (head-total.congr t u w)
    (λ e. sym (alike_right head-total u w t e)) rest (head_order t u) (head_order u w) refl refl
    (sym (order-is t u) ∙ h) (sym (order-is u w) ∙ k)

mutual
  terms-trans : (t u w : Term (List ℕ)) → standard_order t u ≡ Less → standard_order u w ≡ Less → standard_order t w ≡ Less
  terms-trans (var v) u w = order-trans (var v) u w (none-trans (args_of u) (args_of w))
  terms-trans (int i) u w = order-trans (int i) u w (none-trans (args_of u) (args_of w))
  terms-trans (node f ts) u w = order-trans (node f ts) u w (args-trans ts (args_of u) (args_of w))

  args-trans : (ts us ws : Args (List ℕ)) → args_order ts us ≡ Less → args_order us ws ≡ Less → args_order ts ws ≡ Less
  args-trans no_args us ws h k = none-trans us ws h k
  args-trans (arg t ts) no_args ws h k = absurd cc
  args-trans (arg t ts) (arg u us) no_args h k = absurd cc
  args-trans (arg t ts) (arg u us) (arg w ws) h k =
      then-trans (standard_order t u) (standard_order u w) (standard_order t w) (args_order ts us) (args_order us ws) (args_order ts ws)
      (terms-trans t u w) (λ e. ap (λ s. standard_order s w) (equal-same t u e)) (λ e. ap (standard_order t) (sym (equal-same u w e)))
      (args-trans ts us ws) (standard_order t u) (standard_order u w) refl refl h k

pub standard-total : IsTotalOrder standard_order
standard-total = record {
  antisymm = terms-back;
  trans = terms-trans;
  congr = λ t u w e. ap (λ s. standard_order s w) (equal-same t u e);
}

pub same-equal : (t u : Term (List ℕ)) → t ≡ u → standard_order t u ≡ Equal
same-equal t u e = ap (standard_order t) (sym e) ∙ tied_itself standard-total t
