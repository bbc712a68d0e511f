-- An operator that is added on the right of a row changes the row's tree along its right spine alone; and a row without a tree has
-- none after it.
use Rattle.std.proofs.Common.{◌≡◌, ℕ, zero, suc, ◌+◌, ◌<◌, ◌≤◌, Bool, true, false, cond, List, [], ◌∷◌, ◌++◌, Option, Some, None, length}
use Rattle.std.proofs.Common.{refl, ap, sym, ◌∙◌, arith, subst, length-append, leb}
use Rattle.std.specs.Option.{option_map, option_and_then}
use Rattle.std.proofs.lemmas.Bool.{le-leb, leb-true}
use Rattle.op_logic.specs.Term.{Term}
use Rattle.op_logic.proofs.BoolCases.{by_test, if_true, if_false}
use Rattle.op_term.specs.Ops.{is_prefix, is_postfix, is_y_left, is_y_right}
use Rattle.op_term.specs.declared.ops.OpKind.{OpKind}
use Rattle.op_term.specs.declared.ops.OpKind.TheVariants.{Xf, Yf}
use Rattle.op_reader.specs.Row.{Member, operand, operator, Operator, Split, split_at, top, root}
use Rattle.op_reader.specs.Row.{left_bound, right_bound, is_empty, with_one}
use Rattle.op_reader.specs.Row.{tree_of}
use Rattle.op_reader.specs.inner.Spine.{Arm, Spine, ended, under, whole_priority, spine_within, spine_of}
use Rattle.op_reader.specs.inner.Adding.{added, added_to}
use Rattle.op_reader.proofs.RowSplits.{extended}
use Rattle.op_reader.proofs.RowRoots.{stays, none, over, clash, outcome, right_below}
use Rattle.op_reader.proofs.Spines.{is_single, single_or, right_at, spine_split, spine_step, spine_single}

pub only_when : {A B P : Type 0} (f : A → Option B) (o : Option A) (y : B) → option_and_then f o ≡ Some y
    → ((x : A) → o ≡ Some x → f x ≡ Some y → P) → P
only_when f None y h k = cc
only_when f (Some x) y h k = k x refl h

postfix_no_right : (k : OpKind) → is_postfix k ≡ true → is_y_right k ≡ false
postfix_no_right Yf h = refl
postfix_no_right Xf h = refl
postfix_no_right k h = cc

same_in : {A B : Type 0} (f g : A → Option B) (o : Option A) → ((x : A) → o ≡ Some x → f x ≡ g x)
    → option_and_then f o ≡ option_and_then g o
same_in f g None h = refl
same_in f g (Some x) h = h x refl

pub none_in : {A B : Type 0} (f : A → Option B) (o : Option A) → ((x : A) → o ≡ Some x → f x ≡ None) → option_and_then f o ≡ None
none_in f None h = refl
none_in f (Some x) h = h x refl

pub map_some : {A B P : Type 0} (f : A → B) (o : Option A) (y : B) → option_map f o ≡ Some y → ((x : A) → o ≡ Some x → f x ≡ y → P) → P
map_some f None y h k = cc
map_some f (Some x) y h k = k x refl (let i : Some (f x) ≡ Some y = h in cc)

pub by_option : {A P : Type 0} (o : Option A) → (o ≡ None → P) → ((x : A) → o ≡ Some x → P) → P
by_option None f g = f refl
by_option (Some x) f g = g x refl

pub false_by : (b : Bool) → (b ≡ true → ⊥) → b ≡ false
false_by true h = absurd (h refl)
false_by false h = refl

module _ {N : Type 0} where
  not_empty : (row : List (Member N)) (o : Operator N) (e : List (Member N)) → is_empty (row ++ operator o ∷ e) ≡ false
  not_empty [] o e = refl
  not_empty (p ∷ row) o e = refl

  root_not_single : (ps : List (Member N)) (s : Split N) → root ps ≡ Some s → is_single ps ≡ false
  root_not_single ps s h =
      single_or ps (λ t e. let i : root (operand t ∷ []) ≡ Some s = subst (λ (qs : List (Member N)). root qs ≡ Some s) e h in cc) (λ e. e)

  top_not_single : (ps : List (Member N)) → 0 < top ps → is_single ps ≡ false
  top_not_single ps h = single_or ps (λ t e. absurd (omega (arith, ap top e))) (λ e. e)

  operator_not_single : (row : List (Member N)) (o : Operator N) (e : List (Member N)) → is_single (row ++ operator o ∷ e) ≡ false
  operator_not_single [] o e = refl
  operator_not_single (operator p ∷ row) o e = refl
  operator_not_single (operand t ∷ []) o e = refl
  operator_not_single (operand t ∷ p ∷ row) o e = refl

  pub spine_cases : {P : Type 0} (n : ℕ) (ps : List (Member N)) (sp : Spine N) → spine_of (suc n) ps ≡ Some sp
      → ((t : Term N) → ps ≡ operand t ∷ [] → ended t 0 ≡ sp → P) → ((s : Split N) → root ps ≡ Some s → spine_split n s ≡ Some sp → P) → P
  spine_cases n ps sp h f g = single_or ps
      (λ t e. f t e (let i : Some (ended t 0) ≡ Some sp = sym (spine_single n t)
      ∙ subst (λ (qs : List (Member N)). spine_of (suc n) qs ≡ Some sp) e h in cc))
      (λ e. only_when (spine_split n) (root ps) sp (sym (spine_step n ps e) ∙ h) g)

  -- the spine that a root leads
  pub record IsLed (p : Operator N) (sp : Spine N) : Type 0 where
    pub whole : whole_priority sp ≡ p.priority
    pub below : (o : Operator N) (change : Spine N → Option (Spine N)) → right_bound p < o.priority → added_to o change sp ≡ change sp

  under_led : (p : Operator N) (left : Option (Term N)) (r : Spine N) → IsLed p (under p left r)
  unfolding added
  under_led p left r = record {
    whole = refl;
    below = λ o change h. if_false _ _ _ (by_test (leb o.priority (right_bound p))
        (λ e. absurd (omega (arith, leb-true o.priority (right_bound p) e))) (λ e. e));
  }

  ended_led : (p : Operator N) (t : Term N) → IsLed p (ended t p.priority)
  unfolding added
  ended_led p t = record { whole = refl; below = λ o change h. refl }

  abbrev pub led_parts : Operator N → Bool → Bool → Bool → Bool → Option (Term N) → Option (Spine N) → Option (Spine N)
  led_parts p a b c d left right =
      cond a (cond c (option_map (under p None) right) None)
      (cond b (cond d (option_map (λ l. ended (with_one p.name l) p.priority) left) None)
      (option_and_then (λ l. option_map (under p (Some l)) right) left))

  led_by_tests : (p : Operator N) (a b c d : Bool) (left : Option (Term N)) (right : Option (Spine N)) (sp : Spine N)
      → led_parts p a b c d left right ≡ Some sp → IsLed p sp
  led_by_tests p true b true d left None sp h = cc
  led_by_tests p true b true d left (Some r) sp h = let i : under p None r ≡ sp = cc in subst (IsLed p) i (under_led p None r)
  led_by_tests p true b false d left right sp h = cc
  led_by_tests p false true c true None right sp h = cc
  led_by_tests p false true c true (Some l) right sp h =
      let i : ended (with_one p.name l) p.priority ≡ sp = cc in subst (IsLed p) i (ended_led p (with_one p.name l))
  led_by_tests p false true c false left right sp h = cc
  led_by_tests p false false c d None right sp h = cc
  led_by_tests p false false c d (Some l) None sp h = cc
  led_by_tests p false false c d (Some l) (Some r) sp h = let i : under p (Some l) r ≡ sp = cc in subst (IsLed p) i (under_led p (Some l) r)

  pub led_is : (n : ℕ) (s : Split N) (sp : Spine N) → spine_split n s ≡ Some sp → IsLed s.root sp
  led_is n s sp h =
      led_by_tests s.root (is_prefix s.root.kind) (is_postfix s.root.kind) (is_empty s.before) (is_empty s.after)
      (tree_of n (left_bound s.root) s.before) (right_at n s) sp h

module _ {N : Type 0} (F : List (Member N)) (o : Operator N) (e : List (Member N)) (nF : top F ≡ 0) (ne : top e ≡ 0)
    (some : 0 < o.priority) where
  -- what is to be known of the change at the place where the operator stands
  pub record IsChange (change : Spine N → Option (Spine N)) : Type 0 where
    pub above : (s r : Spine N) → change s ≡ Some r → (whole_priority s ≤ o.priority) × (whole_priority r ≡ o.priority)
    pub beside : (s : Spine N) → whole_priority s ≡ o.priority → is_y_left o.kind ≡ false → change s ≡ None
    pub at_root : (n : ℕ) (row : List (Member N)) → length (row ++ operator o ∷ e) ≤ suc n
        → spine_split n (split_at row o e) ≡ option_and_then change (spine_of (suc n) (row ++ F))

  module _ (change : Spine N → Option (Spine N)) (is : IsChange change) where
    abbrev E : List (Member N)
    E = operator o ∷ e

    -- what is changed is within a bound that the operator is within, where it was within it
    record Keeps (bound : ℕ) (s r : Spine N) : Type 0 where
      pub to : whole_priority s ≤ bound → whole_priority r ≤ bound
      pub from : whole_priority r ≤ bound → whole_priority s ≤ bound

    keeps_parts : (bound : ℕ) (arms : List (Arm N)) (t : Term N) (q : ℕ) (r : Spine N) → o.priority ≤ bound
        → added o change arms t q ≡ Some r → Keeps bound (record { arms = arms; last = t; priority = q }) r
    unfolding added
    keeps_parts bound [] t q r h k = let a = is.above (ended t q) r k in record { to = λ z. omega arith; from = λ z. omega arith }
    keeps_parts bound (a ∷ arms) t q r h k =
        by_test (leb o.priority (right_bound a.op))
        (λ y. map_some (under a.op a.left) (added o change arms t q) r (sym (if_true _ _ _ y) ∙ k)
        (λ x _ i. let w : a.op.priority ≡ whole_priority r = ap whole_priority i in record
        { to = λ z. omega arith; from = λ z. omega arith }))
        (λ y. let b = is.above (record { arms = a ∷ arms; last = t; priority = q }) r (sym (if_false _ _ _ y)
        ∙ k) in record { to = λ z. omega arith; from = λ z. omega arith })

    keeps : (bound : ℕ) (s r : Spine N) → o.priority ≤ bound → added_to o change s ≡ Some r → Keeps bound s r
    keeps bound s r h k = keeps_parts bound s.arms s.last s.priority r h k

    under_root : (p : Operator N) (left : Option (Term N)) (s : Spine N) → o.priority ≤ right_bound p
        → added_to o change (under p left s) ≡ option_map (under p left) (added_to o change s)
    unfolding added
    under_root p left s h = if_true _ _ _ (le-leb o.priority (right_bound p) h)

    -- below a root that it may stand on the right of
    abbrev within_right : Operator N → Option (Spine N) → Option (Spine N)
    within_right p q = option_and_then (spine_within (right_bound p)) q

    below_root : (p : Operator N) (left : Option (Term N)) (q : Option (Spine N)) → o.priority ≤ right_bound p →
        option_map (under p left) (within_right p (option_and_then (added_to o change) q)) ≡ option_and_then (added_to o change)
        (option_map (under p left) (within_right p q))
    below_root p left None h = refl
    below_root p left (Some s) h =
        by_test (leb (whole_priority s) (right_bound p))
        (λ w.
        let r : option_and_then (added_to o change) (option_map (under p left) (within_right p (Some s))) ≡ option_map
        (under p left) (added_to o change s) =
        ap (λ (x : Option (Spine N)). option_and_then (added_to o change) (option_map (under p left) x)) (if_true _ _ _ w)
        ∙ under_root p left s h in
        by_option (added_to o change s)
        (λ n. ap (λ (x : Option (Spine N)). option_map (under p left) (within_right p x)) n ∙ sym (r ∙ ap (option_map (under p left)) n))
        (λ x k. ap (λ (x : Option (Spine N)). option_map (under p left) (within_right p x)) k
        ∙ (ap (option_map (under p left)) (if_true _ _ _ (le-leb (whole_priority x) (right_bound p) ((keeps (right_bound p) s x h k).to
        (leb-true (whole_priority s) (right_bound p) w))))
        ∙ sym (r ∙ ap (option_map (under p left)) k))))
        (λ w.
        let r : option_and_then (added_to o change) (option_map (under p left) (within_right p (Some s))) ≡ None =
        ap (λ (x : Option (Spine N)). option_and_then (added_to o change) (option_map (under p left) x)) (if_false _ _ _ w) in
        by_option (added_to o change s)
        (λ n. ap (λ (x : Option (Spine N)). option_map (under p left) (within_right p x)) n ∙ sym r)
        (λ x k. ap (λ (x : Option (Spine N)). option_map (under p left) (within_right p x)) k
        ∙ (ap (option_map (under p left)) (if_false _ _ _ (false_by (leb (whole_priority x) (right_bound p))
        (λ y. let z = le-leb (whole_priority s) (right_bound p) ((keeps (right_bound p) s x h k).from (leb-true (whole_priority x)
        (right_bound p) y)) in cc)))
        ∙ sym r)))

    -- a postfix operator that ends the row is of no higher priority, or nothing is added behind it
    ended_above : (p : Operator N) (t : Term N) → o.priority < p.priority → added_to o change (ended t p.priority) ≡ None
    unfolding added
    ended_above p t h =
        by_option (change (ended t p.priority)) (λ n. n) (λ r k. absurd (let a = is.above (ended t p.priority) r k in omega arith))

    stays_by_tests : (p : Operator N) (a b c d : Bool) (left : Option (Term N)) (q : Option (Spine N)) → o.priority ≤ right_bound p
        → (b ≡ true → o.priority < p.priority) →
        led_parts p a b c false left (within_right p (option_and_then (added_to o change) q)) ≡ option_and_then (added_to o change)
        (led_parts p a b c d left (within_right p q))
    stays_by_tests p true b true d left q h k = below_root p None q h
    stays_by_tests p true b false d left q h k = refl
    stays_by_tests p false true c true None q h k = refl
    stays_by_tests p false true c true (Some l) q h k = sym (ended_above p (with_one p.name l) (k refl))
    stays_by_tests p false true c false left q h k = refl
    stays_by_tests p false false c d None q h k = refl
    stays_by_tests p false false c d (Some l) q h k = below_root p (Some l) q h

    postfix_below : (p : Operator N) → o.priority ≤ right_bound p → is_postfix p.kind ≡ true → o.priority < p.priority
    postfix_below p h y = let e = right_below p (postfix_no_right p.kind y) in omega arith

    stays_split : (n : ℕ) (s : Split N) → o.priority ≤ right_bound s.root
        → spine_of n (s.after ++ E) ≡ option_and_then (added_to o change) (spine_of n (s.after ++ F)) →
        spine_split n (extended E s) ≡ option_and_then (added_to o change) (spine_split n (extended F s))
    stays_split n s h i =
        let k = s.root.kind in
        let left = tree_of n (left_bound s.root) s.before in
        ap (λ (d : Bool). led_parts s.root (is_prefix k) (is_postfix k) (is_empty s.before) d left
        (within_right s.root (spine_of n (s.after ++ E)))) (not_empty s.after o e)
        ∙ (ap (λ (x : Option (Spine N)). led_parts s.root (is_prefix k) (is_postfix k) (is_empty s.before) false left
        (within_right s.root x)) i
        ∙ stays_by_tests s.root (is_prefix k) (is_postfix k) (is_empty s.before) (is_empty (s.after ++ F)) left
        (spine_of n (s.after ++ F)) h (postfix_below s.root h))

    single_same : (t : Term N) (sp : Spine N) → ended t 0 ≡ sp → change sp ≡ added_to o change sp
    unfolding added
    single_same t sp i = subst (λ (x : Spine N). change x ≡ added_to o change x) i refl

    pub adds : (n : ℕ) (row : List (Member N)) → length (row ++ E) ≤ n
        → spine_of n (row ++ E) ≡ option_and_then (added_to o change) (spine_of n (row ++ F))
    adds zero row h = absurd (omega (arith, length-append row E))
    adds (suc n) row h =
        let split = spine_split n in
        let add = option_and_then (added_to o change) in
        spine_step n (row ++ E) (operator_not_single row o e) ∙
        elim (outcome row F o e nF ne some) [
          | stays s rF rE ps le ↦
              let l : length row ≡ length s.before + suc (length s.after) = ap length ps
              ∙ length-append s.before (operator s.root ∷ s.after) in
              let i = adds n s.after (omega (arith, length-append row E, length-append s.after E)) in
              ap (option_and_then split) rE ∙ (stays_split n s le i
              ∙ sym (ap add (spine_step n (row ++ F) (root_not_single (row ++ F) (extended F s) rF) ∙ ap (option_and_then split) rF)))
          | none z rF rE ↦
              ap (option_and_then split) rE ∙ sym (ap add (spine_step n (row ++ F) (top_not_single (row ++ F) z)
              ∙ ap (option_and_then split) rF))
          | over rE k ↦
              ap (option_and_then split) rE ∙ (is.at_root n row h
              ∙ same_in change (added_to o change) (spine_of (suc n) (row ++ F)) (λ sp g. spine_cases n (row ++ F) sp g
              (λ t _ i. single_same t sp i)
              (λ s r f. sym ((led_is n s sp f).below o change (k s r)))))
          | clash z rE y k ↦
              ap (option_and_then split) rE
              ∙ sym (none_in (added_to o change) (spine_of (suc n) (row ++ F)) (λ sp g. spine_cases n (row ++ F) sp g
              (λ t i _. absurd (omega (arith, ap top i)))
              (λ s r f. let L = led_is n s sp f in L.below o change (k s r).1 ∙ is.beside sp (L.whole ∙ (k s r).0) y)))
        ]
