-- The root of a row that an operator is added to.
use Rattle.std.proofs.Common.{◌≡◌, ℕ, ◌-◌, ◌<◌, ◌≤◌, Bool, true, false, cond, ◌||◌, List, ◌∷◌, ◌++◌, Option, Some, None, max, refl, ap, sym}
use Rattle.std.proofs.Common.{◌∙◌, arith, subst, ltb}
use Rattle.std.specs.Option.{option_map}
use Rattle.std.proofs.lemmas.Bool.{lt-ltb, ltb-true, ltb-false}
use Rattle.op_logic.proofs.BoolCases.{by_test, by_order, if_true, if_false}
use Rattle.op_term.specs.declared.ops.OpKind.{OpKind}
use Rattle.op_term.specs.declared.ops.OpKind.TheVariants.{Xfx, Xfy, Yfx, Fy, Fx, Xf, Yf}
use Rattle.op_term.specs.Ops.{is_y_left, is_y_right}
use Rattle.op_reader.specs.Row.{Member, operator, Operator, Split, split_at, top, leftmost, rightmost, root, root_among, right_bound}
use Rattle.op_reader.proofs.RowSplits.{extended, top-append, leftmost-here, leftmost-more, rightmost-above, rightmost-more, rightmost-here}
use Rattle.op_reader.proofs.RowSplits.{IsSplit, leftmost-splits, rightmost-splits, leftmost-there, rightmost-there}

not_both : (k : OpKind) → is_y_left k ≡ true → is_y_right k ≡ false
not_both Yfx h = refl
not_both Yf h = refl
not_both Xfx h = refl
not_both Xfy h = cc
not_both Fy h = cc
not_both Fx h = refl
not_both Xf h = refl

or_right : (a b : Bool) → b ≡ true → (a || b) ≡ true
or_right true b h = refl
or_right false b h = h

or_left : (a b : Bool) → a ≡ true → (a || b) ≡ true
or_left true b h = refl
or_left false b h = cc

or_none : (a b : Bool) → a ≡ false → b ≡ false → (a || b) ≡ false
or_none true b g h = cc
or_none false b g h = h

same_test_of : (a b n : ℕ) → (a < n → b < n) → (b < n → a < n) → ltb a n ≡ ltb b n
same_test_of a b n f g =
    by_test (ltb a n)
    (λ x. x ∙ sym (lt-ltb b n (f (ltb-true a n x))))
    (λ x. by_test (ltb b n) (λ y. absurd (omega (arith, ltb-false a n x, g (ltb-true b n y)))) (λ y. x ∙ sym y))

module _ {N : Type 0} where
  -- what the choice of a root says
  abbrev chosen : Split N → Split N → Option (Split N)
  chosen l r = cond (ltb (top l.after) l.root.priority || is_y_right l.root.kind) (Some l) (cond (is_y_left r.root.kind) (Some r) None)

  chosen_one : {P : Type 0} {s : Split N} (l r : Split N) (b c : Bool) → cond b (Some l) (cond c (Some r) None) ≡ Some s
      → (l ≡ s → b ≡ true → P) → (r ≡ s → b ≡ false → c ≡ true → P) → P
  chosen_one l r true c h f g = f (cc) refl
  chosen_one l r false true h f g = g (cc) refl refl
  chosen_one l r false false h f g = cc

  root_is : (n : ℕ) (ps : List (Member N)) (l r : Split N) → top ps ≡ n → leftmost n ps ≡ Some l
      → rightmost n ps ≡ Some r → root ps ≡ chosen l r
  root_is n ps l r e f g = let i : root ps ≡ root_among (Some l) (Some r) = cc in i

  pub root_splits : (n : ℕ) (ps : List (Member N)) (s : Split N) → top ps ≡ n → root ps ≡ Some s → IsSplit n ps s
  root_splits n ps s e h =
      among (leftmost n ps) (rightmost n ps) (λ x g. leftmost-splits n ps x g) (λ x g. rightmost-splits n ps x g)
      (let i : root ps ≡ root_among (leftmost n ps) (rightmost n ps) = cc in sym i ∙ h)
    where
      among : (l r : Option (Split N)) → ((x : Split N) → l ≡ Some x → IsSplit n ps x) → ((x : Split N) → r ≡ Some x → IsSplit n ps x)
          → root_among l r ≡ Some s → IsSplit n ps s
      among None r f g h = cc
      among (Some l) None f g h = cc
      among (Some l) (Some r) f g h =
          chosen_one l r (ltb (top l.after) l.root.priority || is_y_right l.root.kind) (is_y_left r.root.kind) h
          (λ i _. subst (IsSplit n ps) i (f l refl)) (λ i _ _. subst (IsSplit n ps) i (g r refl))

  right_equal : (o : Operator N) → is_y_right o.kind ≡ true → right_bound o ≡ o.priority
  right_equal o h = if_true _ _ _ h

  pub right_below : (o : Operator N) → is_y_right o.kind ≡ false → right_bound o ≡ o.priority - 1
  right_below o h = if_false _ _ _ h

  pub right_within : (o : Operator N) → right_bound o ≤ o.priority
  right_within o = by_test (is_y_right o.kind) (λ h. omega (arith, right_equal o h)) (λ h. omega (arith, right_below o h))

  right_nearly : (o : Operator N) → o.priority - 1 ≤ right_bound o
  right_nearly o = by_test (is_y_right o.kind) (λ h. omega (arith, right_equal o h)) (λ h. omega (arith, right_below o h))

  -- Members F on the right that have no operator give way to an operator with members that have none. Either the root is as before,
  -- and the operator may stand on its right; or there is none either way; or the operator is the root; or it is refused beside an
  -- operator of its own priority.
  pub data Outcome (row F : List (Member N)) (o : Operator N) (e : List (Member N)) : Type 0 where
    stays : (s : Split N) → root (row ++ F) ≡ Some (extended F s) → root (row ++ operator o ∷ e) ≡ Some (extended (operator o ∷ e) s)
        → row ≡ s.before ++ operator s.root ∷ s.after → o.priority ≤ right_bound s.root → Outcome row F o e
    none : 0 < top (row ++ F) → root (row ++ F) ≡ None → root (row ++ operator o ∷ e) ≡ None → Outcome row F o e
    over : root (row ++ operator o ∷ e) ≡ Some (split_at row o e)
        → ((s : Split N) → root (row ++ F) ≡ Some s → right_bound s.root < o.priority) → Outcome row F o e
    clash : 0 < top (row ++ F) → root (row ++ operator o ∷ e) ≡ None → is_y_left o.kind ≡ false
        → ((s : Split N) → root (row ++ F) ≡ Some s → (s.root.priority ≡ o.priority) × (right_bound s.root < o.priority))
        → Outcome row F o e

  module _ (row F : List (Member N)) (o : Operator N) (e : List (Member N)) (nF : top F ≡ 0) (ne : top e ≡ 0) (some : 0 < o.priority) where
    top_before : top (row ++ F) ≡ top row
    top_before = omega (arith, top-append row F)

    top_now : top (row ++ operator o ∷ e) ≡ max (top row) o.priority
    top_now = omega (arith, top-append row (operator o ∷ e))

    none_right : top row ≡ top row → 0 < top row → rightmost (top row) F ≡ None
    none_right _ h = rightmost-above (top row) F (omega arith)

    higher : top row < o.priority → Outcome row F o e
    higher h =
        let n : top (row ++ operator o ∷ e) ≡ o.priority = omega (arith, top_now) in
        let s : Split N = split_at row o e in
        let l : leftmost o.priority (row ++ operator o ∷ e) ≡ Some s = leftmost-here row o e h in
        let r : rightmost o.priority (row ++ operator o ∷ e) ≡ Some s = rightmost-here row o e (omega arith) in
        over
        (root_is o.priority (row ++ operator o ∷ e) s s n l r ∙ if_true _ _ _ (or_left _ _ (lt-ltb (top e) o.priority (omega arith))))
        (λ x g. omega (arith, top_before, (root_splits (top row) (row ++ F) x top_before g).priority, right_within x.root))

    same : top row ≡ o.priority → Outcome row F o e
    same h =
        let p = top row in
        let L = leftmost-there p row refl (omega arith) in
        let R = rightmost-there p row refl (omega arith) in
        let l = L.0 in
        let r = R.0 in
        let sl = leftmost-splits p row l L.1 in
        let sr = rightmost-splits p row r R.1 in
        let rF : rightmost p (row ++ F) ≡ Some (extended F r) = rightmost-more p row F (rightmost-above p F (omega arith))
        ∙ ap (option_map (extended F)) R.1 in
        let cF : root (row ++ F) ≡ chosen (extended F l) (extended F r) = root_is p (row ++ F) (extended F l) (extended F r) top_before
        (leftmost-more p row F l L.1) rF in
        let E : List (Member N) = operator o ∷ e in
        let rE : rightmost p (row ++ E) ≡ Some (split_at row o e) = subst (λ (n : ℕ). rightmost n (row ++ E) ≡ Some (split_at row o e))
        (sym h) (rightmost-here row o e (omega arith)) in
        let cE : root (row ++ E) ≡ chosen (extended E l) (split_at row o e) =
        root_is p (row ++ E) (extended E l) (split_at row o e) (omega (arith, top_now)) (leftmost-more p row E l L.1) rE in
        by_test (is_y_right l.root.kind)
        (λ y. stays l
        (cF ∙ if_true _ _ _ (or_right _ _ y))
        (cE ∙ if_true _ _ _ (or_right _ _ y))
        sl.members
        (omega (arith, sl.priority, right_equal l.root y)))
        (λ y.
        let below : (s : Split N) → root (row ++ F) ≡ Some s → (s.root.priority ≡ o.priority) × (right_bound s.root < o.priority) =
        (λ s g. chosen_one (extended F l) (extended F r) _ _ (sym cF ∙ g)
        (λ i _. subst (λ (x : Split N). (x.root.priority ≡ o.priority) × (right_bound x.root < o.priority)) i
        (omega (arith, sl.priority), omega (arith, sl.priority, right_below l.root y)))
        (λ i _ z. subst (λ (x : Split N). (x.root.priority ≡ o.priority) × (right_bound x.root < o.priority)) i
        (omega (arith, sr.priority), omega (arith, sr.priority, right_below r.root (not_both _ z))))) in
        let t : ltb (top (l.after ++ E)) l.root.priority ≡ false =
        by_test (ltb (top (l.after ++ E)) l.root.priority)
        (λ z. absurd (omega (arith, ltb-true _ _ z, sl.priority, top-append l.after E))) (λ z. z) in
        let c : root (row ++ E) ≡ cond (is_y_left o.kind) (Some (split_at row o e)) None = cE ∙ if_false _ _ _ (or_none _ _ t y) in
        by_test (is_y_left o.kind)
        (λ z. over (c ∙ if_true _ _ _ z) (λ s g. (below s g).1))
        (λ z. clash (omega (arith, top_before)) (c ∙ if_false _ _ _ z) z below))

    lower : o.priority < top row → Outcome row F o e
    lower h =
        let p = top row in
        let L = leftmost-there p row refl (omega arith) in
        let R = rightmost-there p row refl (omega arith) in
        let l = L.0 in
        let r = R.0 in
        let sl = leftmost-splits p row l L.1 in
        let sr = rightmost-splits p row r R.1 in
        let rF : rightmost p (row ++ F) ≡ Some (extended F r) = rightmost-more p row F (rightmost-above p F (omega arith))
        ∙ ap (option_map (extended F)) R.1 in
        let cF : root (row ++ F) ≡ chosen (extended F l) (extended F r) = root_is p (row ++ F) (extended F l) (extended F r) top_before
        (leftmost-more p row F l L.1) rF in
        let E : List (Member N) = operator o ∷ e in
        let rE : rightmost p (row ++ E) ≡ Some (extended E r) = rightmost-more p row E (rightmost-above p E (omega arith))
        ∙ ap (option_map (extended E)) R.1 in
        let cE : root (row ++ E) ≡ chosen (extended E l) (extended E r) =
        root_is p (row ++ E) (extended E l) (extended E r) (omega (arith, top_now)) (leftmost-more p row E l L.1) rE in
        let tests : ltb (top (l.after ++ E)) l.root.priority ≡ ltb (top (l.after ++ F)) l.root.priority =
        same_test_of (top (l.after ++ E)) (top (l.after ++ F)) l.root.priority
        (λ k. omega (arith, top-append l.after E, top-append l.after F))
        (λ k. omega (arith, top-append l.after E, top-append l.after F, sl.priority)) in
        let same_test : (ltb (top (l.after ++ E)) l.root.priority || is_y_right l.root.kind)
        ≡ (ltb (top (l.after ++ F)) l.root.priority || is_y_right l.root.kind) = ap (λ (b : Bool). b || is_y_right l.root.kind) tests in
        by_test (ltb (top (l.after ++ F)) l.root.priority || is_y_right l.root.kind)
        (λ y. stays l (cF ∙ if_true _ _ _ y) (cE ∙ if_true _ _ _ (same_test ∙ y)) sl.members
        (omega (arith, sl.priority, right_nearly l.root)))
        (λ y. by_test (is_y_left r.root.kind)
        (λ z. stays r (cF ∙ (if_false _ _ _ y ∙ if_true _ _ _ z)) (cE ∙ (if_false _ _ _ (same_test ∙ y) ∙ if_true _ _ _ z)) sr.members
        (omega (arith, sr.priority, right_nearly r.root)))
        (λ z. none (omega (arith, top_before)) (cF ∙ (if_false _ _ _ y ∙ if_false _ _ _ z)) (cE
        ∙ (if_false _ _ _ (same_test ∙ y) ∙ if_false _ _ _ z))))

    pub outcome : Outcome row F o e
    outcome = by_order (top row) o.priority higher (λ h. by_order o.priority (top row) lower (λ k. same (omega arith)))
