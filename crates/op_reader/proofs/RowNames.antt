-- A row's tree under other names is its tree with other names.
use Rattle.std.proofs.Common.{◌≡◌, ℕ, zero, suc, ◌==◌, Bool, true, false, cond, ◌||◌, List, [], ◌∷◌, Option, Some, None, map, length, max}
use Rattle.std.proofs.Common.{refl, ap, sym, ◌∙◌, subst, leb, ltb}
use Rattle.std.specs.Option.{option_map, option_and_then}
use Rattle.std.proofs.lemmas.List.{length-map}
use Rattle.op_logic.specs.Term.{Term, rename}
use Rattle.op_term.specs.Ops.{is_prefix, is_postfix, is_y_left, is_y_right}
use Rattle.op_reader.specs.Row.{Member, operand, operator, Operator, Split, split_at, behind, top, leftmost, rightmost, root, root_among}
use Rattle.op_reader.specs.Row.{joined, left_bound, right_bound, is_empty, with_one, with_two, tree_of, tree}
use Rattle.op_reader.proofs.RowSplits.{last_of, rightmost_is}
use Rattle.op_reader.proofs.Spines.{is_single, single_or, tree_step, tree_at}

-- members with other names
abbrev pub operator_renamed : {N M : Type 0} → (N → M) → Operator N → Operator M
operator_renamed f o = record { name = f o.name; priority = o.priority; kind = o.kind }

abbrev pub member_renamed : {N M : Type 0} → (N → M) → Member N → Member M
member_renamed f (operand t) = operand (rename f t)
member_renamed f (operator o) = operator (operator_renamed f o)

-- the tree of a split row, by its tests
abbrev pub joined_by : {K : Type 0} → K → Bool → Bool → Bool → Bool → Option (Term K) → Option (Term K) → Option (Term K)
joined_by name a b c d left right =
    cond a (cond c (option_map (with_one name) right) None) (cond b (cond d (option_map (with_one name) left) None)
    (option_and_then (λ l. option_map (with_two name l) right) left))

module _ {N M : Type 0} (f : N → M) where
  abbrev members : List (Member N) → List (Member M)
  members ps = map (member_renamed f) ps

  abbrev split_renamed : Split N → Split M
  split_renamed s = split_at (members s.before) (operator_renamed f s.root) (members s.after)

  top_renamed : (ps : List (Member N)) → top (members ps) ≡ top ps
  top_renamed [] = refl
  top_renamed (operand t ∷ ps) = top_renamed ps
  top_renamed (operator o ∷ ps) = ap (max o.priority) (top_renamed ps)

  behind_renamed : (p : Member N) (o : Option (Split N)) → option_map (behind (member_renamed f p)) (option_map split_renamed o)
      ≡ option_map split_renamed (option_map (behind p) o)
  behind_renamed p None = refl
  behind_renamed p (Some s) = refl

  test_renamed : {A B : Type 0} (g : A → B) (b : Bool) (x y : Option A)
      → cond b (option_map g x) (option_map g y) ≡ option_map g (cond b x y)
  test_renamed g true x y = refl
  test_renamed g false x y = refl

  leftmost_renamed : (n : ℕ) (ps : List (Member N)) → leftmost n (members ps) ≡ option_map split_renamed (leftmost n ps)
  leftmost_renamed n [] = refl
  leftmost_renamed n (operand t ∷ ps) =
      ap (option_map (behind (member_renamed f (operand t)))) (leftmost_renamed n ps) ∙ behind_renamed (operand t) (leftmost n ps)
  leftmost_renamed n (operator o ∷ ps) =
      ap (λ (q : Option (Split M)). cond (o.priority == n) (Some (split_at [] (operator_renamed f o) (members ps))) q)
      (ap (option_map (behind (member_renamed f (operator o)))) (leftmost_renamed n ps) ∙ behind_renamed (operator o) (leftmost n ps))
      ∙ test_renamed split_renamed (o.priority == n) (Some (split_at [] o ps)) (option_map (behind (operator o)) (leftmost n ps))

  last_renamed : (n : ℕ) (o : Operator N) (ps : List (Member N)) (q : Option (Split N))
      → last_of n (operator_renamed f o) (members ps) (option_map split_renamed q) ≡ option_map split_renamed (last_of n o ps q)
  last_renamed n o ps None = test_renamed split_renamed (o.priority == n) (Some (split_at [] o ps)) None
  last_renamed n o ps (Some s) = refl

  rightmost_renamed : (n : ℕ) (ps : List (Member N)) → rightmost n (members ps) ≡ option_map split_renamed (rightmost n ps)
  rightmost_renamed n [] = refl
  rightmost_renamed n (operand t ∷ ps) =
      ap (option_map (behind (member_renamed f (operand t)))) (rightmost_renamed n ps) ∙ behind_renamed (operand t) (rightmost n ps)
  rightmost_renamed n (operator o ∷ ps) =
      rightmost_is n (operator_renamed f o) (members ps)
      ∙ (ap (last_of n (operator_renamed f o) (members ps)) (rightmost_renamed n ps)
      ∙ (last_renamed n o ps (rightmost n ps) ∙ ap (option_map split_renamed) (sym (rightmost_is n o ps))))

  among_renamed : (l r : Option (Split N)) → root_among (option_map split_renamed l) (option_map split_renamed r)
      ≡ option_map split_renamed (root_among l r)
  among_renamed None r = refl
  among_renamed (Some l) None = refl
  among_renamed (Some l) (Some r) =
      let b = ltb (top l.after) l.root.priority || is_y_right l.root.kind in
      let c = is_y_left r.root.kind in
      ap (λ (n : ℕ). cond (ltb n l.root.priority || is_y_right l.root.kind) (Some (split_renamed l))
      (cond c (Some (split_renamed r)) None)) (top_renamed l.after)
      ∙ (ap (λ (q : Option (Split M)). cond b (Some (split_renamed l)) q) (test_renamed split_renamed c (Some r) None)
      ∙ test_renamed split_renamed b (Some l) (cond c (Some r) None))

  root_renamed : (ps : List (Member N)) → root (members ps) ≡ option_map split_renamed (root ps)
  root_renamed ps =
      ap (λ (n : ℕ). root_among (leftmost n (members ps)) (rightmost n (members ps))) (top_renamed ps)
      ∙ (ap (λ (q : Option (Split M)). root_among q (rightmost (top ps) (members ps))) (leftmost_renamed (top ps) ps)
      ∙ (ap (λ (q : Option (Split M)). root_among (option_map split_renamed (leftmost (top ps) ps)) q) (rightmost_renamed (top ps) ps)
      ∙ among_renamed (leftmost (top ps) ps) (rightmost (top ps) ps)))

  empty_renamed : (ps : List (Member N)) → is_empty (members ps) ≡ is_empty ps
  empty_renamed [] = refl
  empty_renamed (p ∷ ps) = refl

  single_renamed : (ps : List (Member N)) → is_single (members ps) ≡ is_single ps
  single_renamed [] = refl
  single_renamed (operator o ∷ ps) = refl
  single_renamed (operand t ∷ []) = refl
  single_renamed (operand t ∷ p ∷ ps) = refl

  joined_renamed : (name : N) (a b c d : Bool) (left right : Option (Term N)) →
      joined_by (f name) a b c d (option_map (rename f) left) (option_map (rename f) right) ≡ option_map (rename f)
      (joined_by name a b c d left right)
  joined_renamed name true b true d left None = refl
  joined_renamed name true b true d left (Some r) = refl
  joined_renamed name true b false d left right = refl
  joined_renamed name false true c true None right = refl
  joined_renamed name false true c true (Some l) right = refl
  joined_renamed name false true c false left right = refl
  joined_renamed name false false c d None right = refl
  joined_renamed name false false c d (Some l) None = refl
  joined_renamed name false false c d (Some l) (Some r) = refl

  then_renamed : (g : Split M → Option (Term M)) (h : Split N → Option (Term N)) (o : Option (Split N))
      → ((s : Split N) → g (split_renamed s) ≡ option_map (rename f) (h s)) →
      option_and_then g (option_map split_renamed o) ≡ option_map (rename f) (option_and_then h o)
  then_renamed g h None e = refl
  then_renamed g h (Some s) e = e s

  split_tree : (n bound : ℕ) → ((b : ℕ) (qs : List (Member N)) → tree_of n b (members qs) ≡ option_map (rename f) (tree_of n b qs))
      → (s : Split N) →
      tree_at n bound (split_renamed s) ≡ option_map (rename f) (tree_at n bound s)
  split_tree n bound ih s =
      let o = s.root in
      let left = tree_of n (left_bound o) s.before in
      let right = tree_of n (right_bound o) s.after in
      let by : Bool → Bool → Option (Term M) → Option (Term M) → Option (Term M) =
      λ c d l r. joined_by (f o.name) (is_prefix o.kind) (is_postfix o.kind) c d l r in
      ap (λ (q : Option (Term M)). cond (leb o.priority bound) q None)
      (ap (λ (l : Option (Term M)). by (is_empty (members s.before)) (is_empty (members s.after)) l (tree_of n (right_bound o)
      (members s.after))) (ih (left_bound o) s.before)
      ∙ (ap (λ (r : Option (Term M)). by (is_empty (members s.before)) (is_empty (members s.after)) (option_map (rename f) left) r)
      (ih (right_bound o) s.after)
      ∙ (ap (λ (c : Bool). by c (is_empty (members s.after)) (option_map (rename f) left) (option_map (rename f) right))
      (empty_renamed s.before)
      ∙ (ap (λ (d : Bool). by (is_empty s.before) d (option_map (rename f) left) (option_map (rename f) right)) (empty_renamed s.after)
      ∙ joined_renamed o.name (is_prefix o.kind) (is_postfix o.kind) (is_empty s.before) (is_empty s.after) left right))))
      ∙ test_renamed (rename f) (leb o.priority bound) (joined s left right) None

  tree_of_renamed : (n bound : ℕ) (ps : List (Member N)) → tree_of n bound (members ps) ≡ option_map (rename f) (tree_of n bound ps)
  unfolding tree_of
  tree_of_renamed zero bound ps = refl
  tree_of_renamed (suc n) bound ps =
      single_or ps
      (λ t e. subst (λ (qs : List (Member N)). tree_of (suc n) bound (members qs) ≡ option_map (rename f) (tree_of (suc n) bound qs))
      (sym e) refl)
      (λ e. tree_step n bound (members ps) (single_renamed ps ∙ e)
      ∙ (ap (option_and_then (tree_at n bound)) (root_renamed ps)
      ∙ (then_renamed (tree_at n bound) (tree_at n bound) (root ps) (split_tree n bound (λ b qs. tree_of_renamed n b qs))
      ∙ ap (option_map (rename f)) (sym (tree_step n bound ps e)))))

  pub tree_renamed : (bound : ℕ) (ps : List (Member N)) → tree bound (map (member_renamed f) ps) ≡ option_map (rename f) (tree bound ps)
  tree_renamed bound ps =
      ap (λ (n : ℕ). tree_of n bound (members ps)) (length-map ps (member_renamed f)) ∙ tree_of_renamed (length ps) bound ps
