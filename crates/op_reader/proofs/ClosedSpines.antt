-- Closing the last operator of a spine.
use Rattle.std.proofs.Common.{◌≡◌, ℕ, zero, suc, ◌-◌, ◌<◌, ◌≤◌, Bool, true, false, cond, List, [], ◌∷◌, ◌++◌, Option, Some, None, map}
use Rattle.std.proofs.Common.{length, take, refl, ap, sym, ◌∙◌, arith, subst, leb, ltb}
use Rattle.std.specs.Option.{option_map, option_and_then, IfSome}
use Rattle.std.specs.List.{slice_get}
use Rattle.std.proofs.lemmas.Bool.{le-leb, leb-true, ltb-true}
use Rattle.std.proofs.lemmas.List.{get_or-take, length-take, map-append}
use Rattle.op_logic.specs.Term.{Term}
use Rattle.op_logic.proofs.BoolCases.{by_test, if_true, if_false}
use Rattle.op_term.specs.Ops.{is_prefix, is_postfix}
use Rattle.op_term.specs.Places.{term_at}
use Rattle.op_reader.specs.Row.{Member, Operator, left_bound, right_bound, is_empty, with_one, tree_of}
use Rattle.op_reader.specs.inner.Spine.{Arm, Spine, ended, under, arms_priority, whole_priority, spine_within, spine_of}
use Rattle.op_reader.specs.inner.RowState.{arm_of, BranchesBelow}
use Rattle.op_reader.specs.inner.Adding.{with_right, arms_term, whole_term, taken, added, AreFalling, IsSameTo, branch_bound, last_is_below}
use Rattle.op_reader.specs.inner.Adding.{spine_at, IsClosed}
use Rattle.op_reader.specs.declared.row.Branch.{Branch}
use Rattle.op_reader.specs.declared.row.Part.{Part}
use Rattle.op_reader.proofs.Spines.{right_at}
use Rattle.op_reader.proofs.OperatorSpines.{by_prefix}
use Rattle.op_reader.proofs.AddedOperators.{spine_cases, led_parts, false_by}

module _ {N : Type 0} where
  -- the last operator with its right operand
  abbrev before_close : List (Arm N) → Arm N → Term N → ℕ → Spine N
  before_close arms a t q = record { arms = arms ++ a ∷ []; last = t; priority = q }

  abbrev after_close : List (Arm N) → Arm N → Term N → Spine N
  after_close arms a t = record { arms = arms; last = with_right a t; priority = a.op.priority }

  closed_term : (arms : List (Arm N)) (a : Arm N) (t : Term N) → arms_term (arms ++ a ∷ []) t ≡ arms_term arms (with_right a t)
  closed_term [] a t = refl
  closed_term (b ∷ arms) a t = ap (with_right b) (closed_term arms a t)

  closed_priority : (arms : List (Arm N)) (a : Arm N) (q : ℕ) → arms_priority (arms ++ a ∷ []) q ≡ arms_priority arms a.op.priority
  closed_priority [] a q = refl
  closed_priority (b ∷ arms) a q = refl

  closed_falls : (arms : List (Arm N)) (a : Arm N) (q : ℕ) → AreFalling (arms ++ a ∷ []) q → AreFalling arms a.op.priority
  closed_falls [] a q h = tt
  closed_falls (b ∷ arms) a q h = (omega (arith, h.0, closed_priority arms a q), closed_falls arms a q h.1)

  taken_same : (o : Operator N) (made : Term N → Spine N) (s r : Spine N) → whole_priority s ≡ whole_priority r
      → whole_term s ≡ whole_term r → taken o made s ≡ taken o made r
  taken_same o made s r e f =
      ap (λ (q : ℕ). cond (leb q (left_bound o)) (Some (made (whole_term s))) None) e
      ∙ ap (λ (t : Term N). cond (leb (whole_priority r) (left_bound o)) (Some (made t)) None) f

  closed_added : (o : Operator N) (made : Term N → Spine N) (arms : List (Arm N)) (a : Arm N) (t : Term N) (q : ℕ)
      → right_bound a.op < o.priority →
      added o (taken o made) (arms ++ a ∷ []) t q ≡ added o (taken o made) arms (with_right a t) a.op.priority
  unfolding added
  closed_added o made [] a t q h =
      if_false _ _ _ (false_by (leb o.priority (right_bound a.op)) (λ y. let z = leb-true o.priority (right_bound a.op) y in omega arith))
  closed_added o made (b ∷ arms) a t q h =
      ap (λ (x : Option (Spine N)). cond (leb o.priority (right_bound b.op)) (option_map (under b.op b.left) x)
      (taken o made (before_close (b ∷ arms) a t q))) (closed_added o made arms a t q h)
      ∙ ap (λ (x : Option (Spine N)). cond (leb o.priority (right_bound b.op)) (option_map (under b.op b.left)
      (added o (taken o made) arms (with_right a t) a.op.priority)) x)
      (taken_same o made (before_close (b ∷ arms) a t q) (after_close (b ∷ arms) a t) refl (closed_term (b ∷ arms) a t))

  pub closed_same : (p : ℕ) (arms : List (Arm N)) (a : Arm N) (t : Term N) (q : ℕ) → right_bound a.op < p
      → IsSameTo p (before_close arms a t q) (after_close arms a t)
  closed_same p arms a t q h = record { to_added = λ o made e. closed_added o made arms a t q (omega arith); falls = closed_falls arms a q }

  pub same_both : (p : ℕ) (s r u : Spine N) → IsSameTo p s r → IsSameTo p r u → IsSameTo p s u
  same_both p s r u h k = record { to_added = λ o made e. h.to_added o made e ∙ k.to_added o made e; falls = λ f. k.falls (h.falls f) }

  -- a row's spine falls
  within_some : (bound : ℕ) (q : Option (Spine N)) (r : Spine N) → option_and_then (spine_within bound) q ≡ Some r
      → (whole_priority r ≤ bound) × (q ≡ Some r)
  within_some bound None r h = cc
  within_some bound (Some s) r h =
      by_test (leb (whole_priority s) bound)
      (λ y. let i : Some s ≡ Some r = sym (if_true _ _ _ y) ∙ h in
      let j : s ≡ r = cc in
      (subst (λ (x : Spine N). whole_priority x ≤ bound) j (leb-true (whole_priority s) bound y), i))
      (λ y. let i : None ≡ Some r = sym (if_false _ _ _ y) ∙ h in cc)

  led_falls : (p : Operator N) (a b c d : Bool) (left : Option (Term N)) (right : Option (Spine N)) (sp : Spine N) →
      ((r : Spine N) → right ≡ Some r → (whole_priority r ≤ right_bound p) × AreFalling r.arms r.priority)
      → led_parts p a b c d left right ≡ Some sp → AreFalling sp.arms sp.priority
  led_falls p true b true d left None sp g h = cc
  led_falls p true b true d left (Some r) sp g h =
      let i : under p None r ≡ sp = cc in subst (λ (x : Spine N). AreFalling x.arms x.priority) i (g r refl)
  led_falls p true b false d left right sp g h = cc
  led_falls p false true c true None right sp g h = cc
  led_falls p false true c true (Some l) right sp g h =
      let i : ended (with_one p.name l) p.priority ≡ sp = cc in subst (λ (x : Spine N). AreFalling x.arms x.priority) i tt
  led_falls p false true c false left right sp g h = cc
  led_falls p false false c d None right sp g h = cc
  led_falls p false false c d (Some l) None sp g h = cc
  led_falls p false false c d (Some l) (Some r) sp g h =
      let i : under p (Some l) r ≡ sp = cc in subst (λ (x : Spine N). AreFalling x.arms x.priority) i (g r refl)

  pub spine_falls : (n : ℕ) (ps : List (Member N)) (sp : Spine N) → spine_of n ps ≡ Some sp → AreFalling sp.arms sp.priority
  unfolding spine_of
  spine_falls zero ps sp h = cc
  spine_falls (suc n) ps sp h =
      spine_cases n ps sp h
      (λ t e i. subst (λ (x : Spine N). AreFalling x.arms x.priority) i tt)
      (λ s r f. led_falls s.root (is_prefix s.root.kind) (is_postfix s.root.kind) (is_empty s.before) (is_empty s.after)
      (tree_of n (left_bound s.root) s.before) (right_at n s) sp
      (λ x g. let w = within_some (right_bound s.root) (spine_of n s.after) x g in (w.0, spine_falls n s.after x w.1))
      f)

  -- an operator that may stand on the right of each
  abbrev pub AllAllow : ℕ → List (Arm N) → Type 0
  AllAllow p [] = Unit {0}
  AllAllow p (a ∷ arms) = (p ≤ right_bound a.op) × AllAllow p arms

  abbrev pub below_arms : List (Arm N) → Spine N → Spine N
  below_arms arms s = record { arms = arms ++ s.arms; last = s.last; priority = s.priority }

  below_none : (q : Option (Spine N)) → q ≡ option_map (below_arms []) q
  below_none None = refl
  below_none (Some s) = refl

  below_more : (a : Arm N) (arms : List (Arm N)) (q : Option (Spine N)) → option_map (under a.op a.left) (option_map (below_arms arms) q)
      ≡ option_map (below_arms (a ∷ arms)) q
  below_more a arms None = refl
  below_more a arms (Some s) = refl

  pub added_below : (o : Operator N) (change : Spine N → Option (Spine N)) (arms : List (Arm N)) (t : Term N) (q : ℕ)
      → AllAllow o.priority arms →
      added o change arms t q ≡ option_map (below_arms arms) (change (ended t q))
  unfolding added
  added_below o change [] t q h = below_none (change (ended t q))
  added_below o change (a ∷ arms) t q h =
      if_true _ _ _ (le-leb o.priority (right_bound a.op) h.0)
      ∙ (ap (option_map (under a.op a.left)) (added_below o change arms t q h.1)
      ∙ below_more a arms (change (ended t q)))

  -- a prefix operator is refused where one above it doesn't allow it
  pub added_none : (o : Operator N) (x : Term N) (a : Arm N) (arms : List (Arm N)) (t : Term N) (q : ℕ)
      → added o (by_prefix o x) arms t q ≡ None → added o (by_prefix o x) (a ∷ arms) t q ≡ None
  unfolding added
  added_none o x a arms t q h =
      by_test (leb o.priority (right_bound a.op))
      (λ y. if_true _ _ _ y ∙ ap (option_map (under a.op a.left)) h)
      (λ y. if_false _ _ _ y)

  pub added_here : (o : Operator N) (x : Term N) (a : Arm N) (arms : List (Arm N)) (t : Term N) (q : ℕ) → right_bound a.op < o.priority
      → added o (by_prefix o x) (a ∷ arms) t q ≡ None
  unfolding added
  added_here o x a arms t q h =
      if_false _ _ _ (false_by (leb o.priority (right_bound a.op)) (λ y. let z = leb-true o.priority (right_bound a.op) y in omega arith))

-- nodes that are below the end of a list keep their terms where it grows
abbrev pub IsKept : List (Term ℕ) → List (Term ℕ) → Type 0
IsKept ts us = take (length ts) us ≡ ts

pub kept_length : (ts us : List (Term ℕ)) → IsKept ts us → length ts ≤ length us
kept_length ts us h = omega (arith, ap length h, length-take (length ts) us)

pub kept_term : (ts us : List (Term ℕ)) (i : ℕ) → IsKept ts us → i < length ts → term_at us i ≡ term_at ts i
kept_term ts us i h l = sym (get_or-take (length ts) us i _ l) ∙ ap (λ (vs : List (Term ℕ)). term_at vs i) h

take_less : (n m : ℕ) (us : List (Term ℕ)) → n ≤ m → take n (take m us) ≡ take n us
take_less zero m us h = refl
take_less (suc n) zero us h = absurd (omega arith)
take_less (suc n) (suc m) [] h = refl
take_less (suc n) (suc m) (u ∷ us) h = ap (λ (vs : List (Term ℕ)). u ∷ vs) (take_less n m us (omega arith))

pub kept_both : (ts us vs : List (Term ℕ)) → IsKept ts us → IsKept us vs → IsKept ts vs
kept_both ts us vs h k = sym (take_less (length ts) (length us) vs (kept_length ts us h)) ∙ (ap (take (length ts)) k ∙ h)

pub branches_more : (n m : ℕ) → n ≤ m → (bs : List Branch) → BranchesBelow n bs → BranchesBelow m bs
branches_more n m l [] h = tt
branches_more n m l (b ∷ bs) h = (left_more b.left h.0, branches_more n m l bs h.1)
  where
    left_more : (o : Option ℕ) → IfSome o (λ at. at < n) → IfSome o (λ at. at < m)
    left_more None h = tt
    left_more (Some at) h = omega (arith, h)

left_kept : (ts us : List (Term ℕ)) → IsKept ts us → (o : Option ℕ) → IfSome o (λ at. at < length ts)
    → option_map (term_at ts) o ≡ option_map (term_at us) o
left_kept ts us k None h = refl
left_kept ts us k (Some at) h = ap (λ (t : Term ℕ). Some t) (sym (kept_term ts us at k h))

pub arms_kept : (ts us : List (Term ℕ)) → IsKept ts us → (bs : List Branch) → BranchesBelow (length ts) bs
    → map (arm_of ts) bs ≡ map (arm_of us) bs
arms_kept ts us k [] h = refl
arms_kept ts us k (b ∷ bs) h =
    ap (λ (l : Option (Term ℕ)). record { op = (arm_of ts b).op; left = l } ∷ map (arm_of ts) bs) (left_kept ts us k b.left h.0)
    ∙ ap (λ (as' : List (Arm ℕ)). arm_of us b ∷ as') (arms_kept ts us k bs h.1)

pub branches_front : (n : ℕ) (bs : List Branch) (b : Branch) → BranchesBelow n (bs ++ b ∷ []) → BranchesBelow n bs
branches_front n [] b h = tt
branches_front n (c ∷ bs) b h = (h.0, branches_front n bs b h.1)

pub branches_last : (n : ℕ) (bs : List Branch) (b : Branch) → BranchesBelow n (bs ++ b ∷ []) → IfSome b.left (λ at. at < n)
branches_last n [] b h = h.0
branches_last n (c ∷ bs) b h = branches_last n bs b h.1

pub branches_push : (n : ℕ) (bs : List Branch) (b : Branch) → BranchesBelow n bs → IfSome b.left (λ at. at < n)
    → BranchesBelow n (bs ++ b ∷ [])
branches_push n [] b h k = (k, tt)
branches_push n (c ∷ bs) b h k = (h.0, branches_push n bs b h.1 k)

last_bound : (p : ℕ) (bs : List Branch) (b : Branch) → last_is_below p (bs ++ b ∷ []) ≡ true → branch_bound b < p
last_bound p [] b h = ltb-true (branch_bound b) p h
last_bound p (c ∷ []) b h = last_bound p [] b h
last_bound p (c ∷ d ∷ bs) b h = last_bound p (d ∷ bs) b h

-- the spines before and after the last branch is closed
module _ (ts us : List (Term ℕ)) (xs bs : List Branch) (b : Branch) (right part : Part) (e : xs ≡ bs ++ b ∷ []) (k : IsKept ts us)
    (given : BranchesBelow (length ts) xs) (c : IsClosed ts b right us part) where
  there : BranchesBelow (length ts) (bs ++ b ∷ [])
  there = subst (BranchesBelow (length ts)) e given

  abbrev arms : List (Arm ℕ)
  arms = map (arm_of us) bs

  spine_then : spine_at ts xs right ≡ before_close arms (arm_of ts b) (term_at ts right.node) right.priority
  spine_then =
      let i : map (arm_of ts) xs ≡ arms ++ arm_of ts b ∷ [] = ap (map (arm_of ts)) e ∙ (map-append (arm_of ts) bs (b ∷ [])
      ∙ ap (λ (ys : List (Arm ℕ)). ys ++ arm_of ts b ∷ []) (arms_kept ts us k bs (branches_front (length ts) bs b there))) in
      ap (λ (ys : List (Arm ℕ)). record { arms = ys; last = term_at ts right.node; priority = right.priority }) i

  spine_now : spine_at us bs part ≡ after_close arms (arm_of ts b) (term_at ts right.node)
  spine_now =
      ap (λ (t : Term ℕ). record { arms = arms; last = t; priority = part.priority }) c.term
      ∙ ap (λ (q : ℕ). record { arms = arms; last = with_right (arm_of ts b) (term_at ts right.node); priority = q }) c.priority

  pub step_same : (p : ℕ) → last_is_below p xs ≡ true → IsSameTo p (spine_at ts xs right) (spine_at us bs part)
  step_same p h =
      let l : last_is_below p (bs ++ b ∷ []) ≡ true = ap (last_is_below p) (sym e) ∙ h in
      subst (λ (s : Spine ℕ). IsSameTo p s (spine_at us bs part)) (sym spine_then)
      (subst (λ (s : Spine ℕ). IsSameTo p (before_close arms (arm_of ts b) (term_at ts right.node) right.priority) s) (sym spine_now)
      (closed_same p arms (arm_of ts b) (term_at ts right.node) right.priority (last_bound p bs b l)))

  pub step_term : whole_term (spine_at ts xs right) ≡ whole_term (spine_at us bs part)
  step_term = ap whole_term spine_then ∙ (closed_term arms (arm_of ts b) (term_at ts right.node) ∙ ap whole_term (sym spine_now))

  pub step_priority : whole_priority (spine_at ts xs right) ≡ whole_priority (spine_at us bs part)
  step_priority = ap whole_priority spine_then ∙ (closed_priority arms (arm_of ts b) right.priority ∙ ap whole_priority (sym spine_now))

  pub step_there : BranchesBelow (length us) bs
  step_there = branches_more (length ts) (length us) (kept_length ts us k) bs (branches_front (length ts) bs b there)

pub popped_there : (n : ℕ) (xs bs : List Branch) (b : Branch) → xs ≡ bs ++ b ∷ [] → BranchesBelow n xs → IfSome b.left (λ at. at < n)
popped_there n xs bs b e h = branches_last n bs b (subst (BranchesBelow n) e h)

last_index : (p : ℕ) (bs : List Branch) (b : Branch) (i : ℕ) → suc i ≡ length bs → Some b ≡ slice_get bs i
    → last_is_below p bs ≡ ltb (branch_bound b) p
last_index p [] b i h e = absurd (omega arith)
last_index p (c ∷ []) b zero h e = let j : c ≡ b = cc in ap (λ (x : Branch). ltb (branch_bound x) p) j
last_index p (c ∷ []) b (suc i) h e = absurd (omega arith)
last_index p (c ∷ d ∷ bs) b zero h e = absurd (omega arith)
last_index p (c ∷ d ∷ bs) b (suc i) h e = last_index p (d ∷ bs) b i (omega arith) e

pub last_found : (p : ℕ) (bs : List Branch) (b : Branch) → Some b ≡ slice_get bs (length bs - 1)
    → last_is_below p bs ≡ ltb (branch_bound b) p
last_found p [] b e = cc
last_found p (c ∷ bs) b e = last_index p (c ∷ bs) b (length (c ∷ bs) - 1) (omega arith) e
