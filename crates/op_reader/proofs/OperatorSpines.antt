-- What a prefix, an infix and a postfix operator change.
use Rattle.std.proofs.Common.{◌≡◌, ℕ, zero, suc, ◌-◌, ◌+◌, ◌<◌, ◌≤◌, ◌==◌, Bool, true, false, cond, List, [], ◌∷◌, ◌++◌, Option, Some, None}
use Rattle.std.proofs.Common.{length, refl, ap, sym, ◌∙◌, arith, subst, length-append, leb}
use Rattle.std.specs.Option.{option_map, option_and_then}
use Rattle.std.proofs.lemmas.Bool.{le-leb, leb-true, eqb-true}
use Rattle.std.proofs.lemmas.List.{append-nil}
use Rattle.op_logic.specs.Term.{Term}
use Rattle.op_logic.proofs.BoolCases.{by_test, if_true, if_false}
use Rattle.op_term.specs.Ops.{is_prefix, is_infix, is_postfix, is_y_left}
use Rattle.op_term.specs.declared.ops.OpKind.{OpKind}
use Rattle.op_term.specs.declared.ops.OpKind.TheVariants.{Xfx, Xfy, Yfx, Fy, Fx, Xf, Yf}
use Rattle.op_reader.specs.Row.{Member, operand, operator, Operator, split_at, top, left_bound, right_bound, is_empty, with_one, tree_of}
use Rattle.op_reader.specs.inner.Spine.{Arm, Spine, ended, under, arms_priority, whole_priority, spine_within, spine_of, spine}
use Rattle.op_reader.specs.inner.Adding.{whole_term, taken, added_to}
use Rattle.op_reader.proofs.RowRoots.{root_splits}
use Rattle.op_reader.proofs.Spines.{right_at, spine_split, spine_single, spine_more, closed, tree_closed}
use Rattle.op_reader.proofs.AddedOperators.{IsChange, adds, led_parts, spine_cases, none_in, false_by}

infix_only : (k : OpKind) → is_infix k ≡ true → (is_prefix k ≡ false) × (is_postfix k ≡ false)
infix_only Xfx h = (refl, refl)
infix_only Xfy h = (refl, refl)
infix_only Yfx h = (refl, refl)
infix_only Fy h = cc
infix_only Fx h = cc
infix_only Xf h = cc
infix_only Yf h = cc

postfix_only : (k : OpKind) → is_postfix k ≡ true → is_prefix k ≡ false
postfix_only Xf h = refl
postfix_only Yf h = refl
postfix_only k h = cc

map_as_then : {A B : Type 0} (f : A → B) (q : Option A) → option_and_then (λ x. Some (f x)) q ≡ option_map f q
map_as_then f None = refl
map_as_then f (Some x) = refl

-- whether the last member is an operand
abbrev ends_with_operand : {N : Type 0} → List (Member N) → Bool
ends_with_operand [] = false
ends_with_operand (operand t ∷ []) = true
ends_with_operand (operator o ∷ []) = false
ends_with_operand (p ∷ q ∷ ps) = ends_with_operand (q ∷ ps)

module _ {N : Type 0} where
  -- more steps than members
  spine_enough : (n k : ℕ) (ps : List (Member N)) → n ≡ length ps + k → spine_of n ps ≡ spine ps
  spine_enough n zero ps h = ap (λ (m : ℕ). spine_of m ps) (let i : n ≡ length ps = omega arith in i)
  spine_enough zero (suc k) ps h = absurd (omega arith)
  spine_enough (suc n) (suc k) ps h = sym (spine_more n ps (omega arith)) ∙ spine_enough n k ps (omega arith)

  pub spine_with : (n : ℕ) (ps : List (Member N)) → length ps ≤ n → spine_of n ps ≡ spine ps
  spine_with n ps h = spine_enough n (n - length ps) ps (omega arith)

  left_within : (o : Operator N) → left_bound o ≤ o.priority
  left_within o =
      by_test (is_y_left o.kind) (λ h. omega (arith, if_true (is_y_left o.kind) o.priority (o.priority - 1) h))
      (λ h. omega (arith, if_false (is_y_left o.kind) o.priority (o.priority - 1) h))

  -- what an infix or postfix operator takes is within its bound
  taken_above : (o : Operator N) (made : Term N → Spine N) → ((t : Term N) → whole_priority (made t) ≡ o.priority) → (s r : Spine N)
      → taken o made s ≡ Some r → (whole_priority s ≤ o.priority) × (whole_priority r ≡ o.priority)
  taken_above o made m s r h =
      by_test (leb (whole_priority s) (left_bound o))
      (λ y. let i : made (whole_term s) ≡ r = (let j : Some (made (whole_term s)) ≡ Some r = sym (if_true _ _ _ y) ∙ h in cc) in
      (omega (arith, leb-true (whole_priority s) (left_bound o) y, left_within o), sym (ap whole_priority i) ∙ m (whole_term s)))
      (λ y. let j : None ≡ Some r = sym (if_false _ _ _ y) ∙ h in cc)

  taken_beside : (o : Operator N) (made : Term N → Spine N) → 0 < o.priority → (s : Spine N) → whole_priority s ≡ o.priority
      → is_y_left o.kind ≡ false → taken o made s ≡ None
  taken_beside o made some s w y =
      let b : left_bound o ≡ o.priority - 1 = if_false _ _ _ y in
      if_false _ _ _ (false_by (leb (whole_priority s) (left_bound o)) (λ z. let l = leb-true (whole_priority s)
      (left_bound o) z in omega arith))

  taken_closed : (o : Operator N) (made : Term N → Spine N) (q : Option (Spine N))
      → option_map made (option_and_then (closed (left_bound o)) q) ≡ option_and_then (taken o made) q
  taken_closed o made None = refl
  taken_closed o made (Some s) =
      by_test (leb (whole_priority s) (left_bound o))
      (λ y. ap (option_map made) (if_true _ _ _ y) ∙ sym (if_true _ _ _ y))
      (λ y. ap (option_map made) (if_false _ _ _ y) ∙ sym (if_false _ _ _ y))

  -- the tree on the left, as it is taken
  left_taken : (o : Operator N) (made : Term N → Spine N) (n : ℕ) (row : List (Member N)) → length row ≤ n →
      option_map made (tree_of n (left_bound o) row) ≡ option_and_then (taken o made) (spine_of (suc n) (row ++ []))
  left_taken o made n row h =
      ap (option_map made) (tree_closed n (left_bound o) row)
      ∙ (taken_closed o made (spine_of n row)
      ∙ ap (option_and_then (taken o made)) (spine_more n row h ∙ ap (spine_of (suc n)) (sym (append-nil row))))

  -- a single operand on the right
  right_single : (o : Operator N) (x : Term N) (n : ℕ)
      → option_and_then (spine_within (right_bound o)) (spine_of (suc n) (operand x ∷ [])) ≡ Some (ended x 0)
  right_single o x n =
      ap (option_and_then (spine_within (right_bound o))) (spine_single n x) ∙ if_true _ _ _ (le-leb 0 (right_bound o) (omega arith))

  abbrev pub by_infix : Operator N → Term N → Term N → Spine N
  by_infix o x t = under o (Some t) (ended x 0)

  abbrev pub by_postfix : Operator N → Term N → Spine N
  by_postfix o t = ended (with_one o.name t) o.priority

  infix_root : (o : Operator N) (x : Term N) → is_infix o.kind ≡ true → (n : ℕ) (row : List (Member N))
      → length (row ++ operator o ∷ operand x ∷ []) ≤ suc n →
      spine_split n (split_at row o (operand x ∷ [])) ≡ option_and_then (taken o (by_infix o x)) (spine_of (suc n) (row ++ []))
  infix_root o x k zero row h = absurd (omega (arith, length-append row (operator o ∷ operand x ∷ [])))
  infix_root o x k (suc n) row h =
      let only = infix_only o.kind k in
      let left = tree_of (suc n) (left_bound o) row in
      let right = right_at (suc n) (split_at row o (operand x ∷ [])) in
      ap (λ (a : Bool). led_parts o a (is_postfix o.kind) (is_empty row) false left right) only.0
      ∙ (ap (λ (b : Bool). led_parts o false b (is_empty row) false left right) only.1
      ∙ (ap (λ (q : Option (Spine N)). led_parts o false false (is_empty row) false left q) (right_single o x n)
      ∙ (map_as_then (by_infix o x) left
      ∙ left_taken o (by_infix o x) (suc n) row (omega (arith, length-append row (operator o ∷ operand x ∷ []))))))

  postfix_root : (o : Operator N) → is_postfix o.kind ≡ true → (n : ℕ) (row : List (Member N)) → length (row ++ operator o ∷ []) ≤ suc n →
      spine_split n (split_at row o []) ≡ option_and_then (taken o (by_postfix o)) (spine_of (suc n) (row ++ []))
  postfix_root o k n row h =
      let left = tree_of n (left_bound o) row in
      let right = right_at n (split_at row o []) in
      ap (λ (a : Bool). led_parts o a (is_postfix o.kind) (is_empty row) true left right) (postfix_only o.kind k)
      ∙ (ap (λ (b : Bool). led_parts o false b (is_empty row) true left right) k
      ∙ left_taken o (by_postfix o) n row (omega (arith, length-append row (operator o ∷ []))))

  -- An infix operator and its operand.
  pub spine-infix : (o : Operator N) (x : Term N) → is_infix o.kind ≡ true → 0 < o.priority → (ps : List (Member N)) →
      spine (ps ++ operator o ∷ operand x ∷ []) ≡ option_and_then (added_to o (taken o (by_infix o x))) (spine ps)
  spine-infix o x k some ps =
      let E : List (Member N) = operator o ∷ operand x ∷ [] in
      let is : IsChange [] o (operand x ∷ []) refl refl some (taken o (by_infix o x)) = record {
        above = taken_above o (by_infix o x) (λ t. refl);
        beside = taken_beside o (by_infix o x) some;
        at_root = infix_root o x k;
      } in
      adds [] o (operand x ∷ []) refl refl some (taken o (by_infix o x)) is (length (ps ++ E)) ps (omega arith)
      ∙ ap (option_and_then (added_to o (taken o (by_infix o x)))) (ap (spine_of (length (ps ++ E))) (append-nil ps)
      ∙ spine_with (length (ps ++ E)) ps (omega (arith, length-append ps E)))

  -- A postfix operator.
  pub spine-postfix : (o : Operator N) → is_postfix o.kind ≡ true → 0 < o.priority → (ps : List (Member N)) →
      spine (ps ++ operator o ∷ []) ≡ option_and_then (added_to o (taken o (by_postfix o))) (spine ps)
  spine-postfix o k some ps =
      let E : List (Member N) = operator o ∷ [] in
      let is : IsChange [] o [] refl refl some (taken o (by_postfix o)) = record {
        above = taken_above o (by_postfix o) (λ t. refl);
        beside = taken_beside o (by_postfix o) some;
        at_root = postfix_root o k;
      } in
      adds [] o [] refl refl some (taken o (by_postfix o)) is (length (ps ++ E)) ps (omega arith)
      ∙ ap (option_and_then (added_to o (taken o (by_postfix o)))) (ap (spine_of (length (ps ++ E))) (append-nil ps)
      ∙ spine_with (length (ps ++ E)) ps (omega (arith, length-append ps E)))

  ends_operand : (ps : List (Member N)) (t : Term N) → ends_with_operand (ps ++ operand t ∷ []) ≡ true
  ends_operand [] t = refl
  ends_operand (operand u ∷ []) t = refl
  ends_operand (operator o ∷ []) t = refl
  ends_operand (operand u ∷ q ∷ ps) t = ends_operand (q ∷ ps) t
  ends_operand (operator o ∷ q ∷ ps) t = ends_operand (q ∷ ps) t

  ends_operator : (ps : List (Member N)) (o : Operator N) → ends_with_operand (ps ++ operator o ∷ []) ≡ false
  ends_operator [] o = refl
  ends_operator (operand u ∷ []) o = refl
  ends_operator (operator p ∷ []) o = refl
  ends_operator (operand u ∷ q ∷ ps) o = ends_operator (q ∷ ps) o
  ends_operator (operator p ∷ q ∷ ps) o = ends_operator (q ∷ ps) o

  not_last : (ps before after : List (Member N)) (t : Term N) (o : Operator N) → ps ++ operand t ∷ [] ≡ before ++ operator o ∷ after
      → is_empty after ≡ true → ⊥
  not_last ps before [] t o e h = let i : true ≡ false = sym (ends_operand ps t) ∙ (ap ends_with_operand e ∙ ends_operator before o) in cc
  not_last ps before (p ∷ after) t o e h = cc

  -- a prefix operator stands before what is as yet the only operand
  abbrev at_first : Operator N → Term N → List (Arm N) → ℕ → Option (Spine N)
  at_first o x [] q = cond (q == 0) (Some (under o None (ended x 0))) None
  at_first o x (a ∷ arms) q = None

  abbrev pub by_prefix : Operator N → Term N → Spine N → Option (Spine N)
  by_prefix o x s = at_first o x s.arms s.priority

  first_above : (o : Operator N) (x : Term N) (arms : List (Arm N)) (q : ℕ) (r : Spine N) → at_first o x arms q ≡ Some r
      → (arms_priority arms q ≤ o.priority) × (whole_priority r ≡ o.priority)
  first_above o x [] q r h =
      by_test (q == 0)
      (λ y. let z = eqb-true q 0 y in
      let i : under o None (ended x 0) ≡ r = (let j : Some (under o None (ended x 0)) ≡ Some r = sym (if_true _ _ _ y) ∙ h in cc) in
      (omega arith, sym (ap whole_priority i)))
      (λ y. let j : None ≡ Some r = sym (if_false _ _ _ y) ∙ h in cc)
  first_above o x (a ∷ arms) q r h = cc

  first_beside : (o : Operator N) (x : Term N) → 0 < o.priority → (arms : List (Arm N)) (q : ℕ) → arms_priority arms q ≡ o.priority
      → at_first o x arms q ≡ None
  first_beside o x some [] q h = if_false _ _ _ (false_by (q == 0) (λ y. let z = eqb-true q 0 y in omega arith))
  first_beside o x some (a ∷ arms) q h = refl

  not_first : (o : Operator N) (x : Term N) (p : Operator N) (a b c d : Bool) (left : Option (Term N))
      (right : Option (Spine N)) (sp : Spine N) →
      led_parts p a b c d left right ≡ Some sp → (d ≡ true → ⊥) → by_prefix o x sp ≡ None
  not_first o x p true b true d left None sp h k = cc
  not_first o x p true b true d left (Some r) sp h k =
      let i : under p None r ≡ sp = cc in subst (λ (s : Spine N). by_prefix o x s ≡ None) i refl
  not_first o x p true b false d left right sp h k = cc
  not_first o x p false true c true left right sp h k = absurd (k refl)
  not_first o x p false true c false left right sp h k = cc
  not_first o x p false false c d None right sp h k = cc
  not_first o x p false false c d (Some l) None sp h k = cc
  not_first o x p false false c d (Some l) (Some r) sp h k =
      let i : under p (Some l) r ≡ sp = cc in subst (λ (s : Spine N). by_prefix o x s ≡ None) i refl

  prefix_parts : (o : Operator N) (x : Term N) (n : ℕ) (row : List (Member N)) (b : Bool) (left : Option (Term N)) →
      led_parts o true b (is_empty row) false left (Some (ended x 0)) ≡ option_and_then (by_prefix o x)
      (spine_of (suc (suc n)) (row ++ operand x ∷ []))
  prefix_parts o x n [] b left = sym (ap (option_and_then (by_prefix o x)) (spine_single (suc n) x))
  prefix_parts o x n (p ∷ row) b left =
      sym (none_in (by_prefix o x) (spine_of (suc (suc n)) (p ∷ row ++ operand x ∷ [])) (λ sp g.
      spine_cases (suc n) (p ∷ row ++ operand x ∷ []) sp g
      (λ t e _. absurd (omega (arith, ap length e, length-append row (operand x ∷ []))))
      (λ s r f. not_first o x s.root (is_prefix s.root.kind) (is_postfix s.root.kind) (is_empty s.before) (is_empty s.after)
      (tree_of (suc n) (left_bound s.root) s.before) (right_at (suc n) s) sp f
      (not_last (p ∷ row) s.before s.after x s.root (root_splits (top (p ∷ row ++ operand x ∷ []))
      (p ∷ row ++ operand x ∷ []) s refl r).members))))

  prefix_root : (o : Operator N) (x : Term N) → is_prefix o.kind ≡ true → (n : ℕ) (row : List (Member N))
      → length (row ++ operator o ∷ operand x ∷ []) ≤ suc n →
      spine_split n (split_at row o (operand x ∷ [])) ≡ option_and_then (by_prefix o x) (spine_of (suc n) (row ++ operand x ∷ []))
  prefix_root o x k zero row h = absurd (omega (arith, length-append row (operator o ∷ operand x ∷ [])))
  prefix_root o x k (suc n) row h =
      let left = tree_of (suc n) (left_bound o) row in
      ap (λ (a : Bool). led_parts o a (is_postfix o.kind) (is_empty row) false left (right_at (suc n) (split_at row o (operand x ∷ [])))) k
      ∙ (ap (λ (q : Option (Spine N)). led_parts o true (is_postfix o.kind) (is_empty row) false left q) (right_single o x n)
      ∙ prefix_parts o x n row (is_postfix o.kind) left)

  -- A prefix operator before an operand.
  pub spine-prefix : (o : Operator N) (x : Term N) → is_prefix o.kind ≡ true → 0 < o.priority → (ps : List (Member N)) →
      spine (ps ++ operator o ∷ operand x ∷ []) ≡ option_and_then (added_to o (by_prefix o x)) (spine (ps ++ operand x ∷ []))
  spine-prefix o x k some ps =
      let F : List (Member N) = operand x ∷ [] in
      let E : List (Member N) = operator o ∷ F in
      let is : IsChange F o F refl refl some (by_prefix o x) = record {
        above = λ s r h. first_above o x s.arms s.priority r h;
        beside = λ s h _. first_beside o x some s.arms s.priority h;
        at_root = prefix_root o x k;
      } in
      adds F o F refl refl some (by_prefix o x) is (length (ps ++ E)) ps (omega arith)
      ∙ ap (option_and_then (added_to o (by_prefix o x))) (spine_with (length (ps ++ E)) (ps ++ F)
      (omega (arith, length-append ps E, length-append ps F)))
