-- A row without a tree has none after any addition; and only members that alternate as they must have one.
use Rattle.std.proofs.Common.{◌≡◌, ℕ, zero, suc, ◌<◌, Bool, true, false, not, ◌&&◌, List, [], ◌∷◌, ◌++◌, Option, Some, None, length, refl}
use Rattle.std.proofs.Common.{ap, sym, ◌∙◌, arith, leb}
use Rattle.std.specs.Option.{option_and_then}
use Rattle.std.proofs.lemmas.Bool.{le-leb}
use Rattle.op_logic.specs.Term.{Term}
use Rattle.op_logic.proofs.BoolCases.{by_test, if_true, if_false}
use Rattle.op_term.specs.Ops.{is_prefix, is_infix, is_postfix}
use Rattle.op_term.specs.declared.ops.OpKind.{OpKind}
use Rattle.op_term.specs.declared.ops.OpKind.TheVariants.{Xfx, Xfy, Yfx, Fy, Fx, Xf, Yf}
use Rattle.op_reader.specs.Row.{Member, operand, operator, Operator, alternates, is_row, top, root, left_bound, right_bound, is_empty}
use Rattle.op_reader.specs.Row.{with_one, with_two, tree_of, tree, HasNoTree}
use Rattle.op_reader.specs.inner.Spine.{whole_priority, spine}
use Rattle.op_reader.specs.inner.Adding.{whole_term, taken, added_to}
use Rattle.op_reader.proofs.RowRoots.{root_splits}
use Rattle.op_reader.proofs.Spines.{single_or, tree_step, tree_at, closed, tree_closed}
use Rattle.op_reader.proofs.AddedOperators.{by_option, only_when}
use Rattle.op_reader.proofs.OperatorSpines.{by_prefix, by_infix, by_postfix, spine-prefix, spine-infix, spine-postfix}
use Rattle.op_reader.proofs.RowNames.{joined_by}

no_spine : (ps : List (Member ℕ)) → HasNoTree ps → spine ps ≡ None
no_spine ps h =
    by_option (spine ps)
    (λ e. e)
    (λ s e.
    let n = whole_priority s in
    let i : tree n ps ≡ Some (whole_term s) = tree_closed (length ps) n ps ∙ (ap (option_and_then (closed n)) e
    ∙ if_true _ _ _ (le-leb n n (omega arith))) in
    let j : tree n ps ≡ None = h n in
    cc)

no_tree : (ps : List (Member ℕ)) → spine ps ≡ None → HasNoTree ps
no_tree ps e = λ n. tree_closed (length ps) n ps ∙ ap (option_and_then (closed n)) e

pub infix_keeps : (ps : List (Member ℕ)) (o : Operator ℕ) (t : Term ℕ) → is_infix o.kind ≡ true → 0 < o.priority → HasNoTree ps
    → HasNoTree (ps ++ operator o ∷ operand t ∷ [])
infix_keeps ps o t k some h =
    no_tree (ps ++ operator o ∷ operand t ∷ []) (spine-infix o t k some ps
    ∙ ap (option_and_then (added_to o (taken o (by_infix o t)))) (no_spine ps h))

pub postfix_keeps : (ps : List (Member ℕ)) (o : Operator ℕ) → is_postfix o.kind ≡ true → 0 < o.priority → HasNoTree ps
    → HasNoTree (ps ++ operator o ∷ [])
postfix_keeps ps o k some h =
    no_tree (ps ++ operator o ∷ []) (spine-postfix o k some ps
    ∙ ap (option_and_then (added_to o (taken o (by_postfix o)))) (no_spine ps h))

pub prefix_keeps : (ps : List (Member ℕ)) (o : Operator ℕ) (t : Term ℕ) → is_prefix o.kind ≡ true → 0 < o.priority
    → HasNoTree (ps ++ operand t ∷ []) → HasNoTree (ps ++ operator o ∷ operand t ∷ [])
prefix_keeps ps o t k some h =
    no_tree (ps ++ operator o ∷ operand t ∷ []) (spine-prefix o t k some ps ∙ ap (option_and_then (added_to o (by_prefix o t)))
    (no_spine (ps ++ operand t ∷ []) h))

-- the sides of a row with a tree
pub joined_when : {N P : Type 0} (name : N) (a b c d : Bool) (left right : Option (Term N)) (t : Term N)
    → joined_by name a b c d left right ≡ Some t →
    (a ≡ true → c ≡ true → (r : Term N) → right ≡ Some r → t ≡ with_one name r → P)
    → (a ≡ false → b ≡ true → d ≡ true → (l : Term N) → left ≡ Some l → t ≡ with_one name l → P)
    → (a ≡ false → b ≡ false → (l : Term N) → left ≡ Some l → (r : Term N) → right ≡ Some r → t ≡ with_two name l r → P) → P
joined_when name true b true d left None t h f g k = cc
joined_when name true b true d left (Some r) t h f g k = f refl refl r refl (let i : with_one name r ≡ t = cc in sym i)
joined_when name true b false d left right t h f g k = cc
joined_when name false true c true None right t h f g k = cc
joined_when name false true c true (Some l) right t h f g k = g refl refl refl l refl (let i : with_one name l ≡ t = cc in sym i)
joined_when name false true c false left right t h f g k = cc
joined_when name false false c d None right t h f g k = cc
joined_when name false false c d (Some l) None t h f g k = cc
joined_when name false false c d (Some l) (Some r) t h f g k = k refl refl l refl r refl (let i : with_two name l r ≡ t = cc in sym i)

infix_else : (k : OpKind) → is_prefix k ≡ false → is_postfix k ≡ false → is_infix k ≡ true
infix_else Xfx h g = refl
infix_else Xfy h g = refl
infix_else Yfx h g = refl
infix_else Fy h g = cc
infix_else Fx h g = cc
infix_else Xf h g = cc
infix_else Yf h g = cc

not_infix : (k : OpKind) → is_postfix k ≡ true → is_infix k ≡ false
not_infix Xf h = refl
not_infix Yf h = refl
not_infix k h = cc

and_true : (a b : Bool) → (a && b) ≡ true → b ≡ true
and_true true b h = h
and_true false b h = cc

and_first : (a b : Bool) → (a && b) ≡ true → a ≡ true
and_first true b h = refl
and_first false b h = cc

both_true : (a b : Bool) → a ≡ true → b ≡ true → (a && b) ≡ true
both_true true b h g = g
both_true false b h g = cc

module _ {N : Type 0} where
  -- a row goes on where an operator is expected
  goes_on : (e : Bool) (xs ys : List (Member N)) → alternates e xs ≡ true → alternates false ys ≡ true → alternates e (xs ++ ys) ≡ true
  goes_on true [] ys h g = cc
  goes_on false [] ys h g = g
  goes_on e (operand t ∷ xs) ys h g = both_true e _ (and_first e _ h) (goes_on false xs ys (and_true e _ h) g)
  goes_on e (operator o ∷ xs) ys h g =
      by_test (is_prefix o.kind)
      (λ y. let i : (e && alternates true xs) ≡ true = sym (if_true _ _ _ y) ∙ h in
      if_true _ _ _ y ∙ both_true e _ (and_first e _ i) (goes_on true xs ys (and_true e _ i) g))
      (λ y. let i : (not e && alternates (is_infix o.kind) xs) ≡ true = sym (if_false _ _ _ y) ∙ h in
      if_false _ _ _ y ∙ both_true (not e) _ (and_first (not e) _ i) (goes_on (is_infix o.kind) xs ys (and_true (not e) _ i) g))

  prefix_row : (before : List (Member N)) (o : Operator N) (after : List (Member N)) → is_prefix o.kind ≡ true → is_empty before ≡ true
      → is_row after ≡ true → is_row (before ++ operator o ∷ after) ≡ true
  prefix_row [] o after k e h = if_true _ _ _ k ∙ h
  prefix_row (p ∷ before) o after k e h = cc

  postfix_row : (before : List (Member N)) (o : Operator N) (after : List (Member N)) → is_prefix o.kind ≡ false → is_postfix o.kind ≡ true
      → is_empty after ≡ true → is_row before ≡ true → is_row (before ++ operator o ∷ after) ≡ true
  postfix_row before o [] p k e h = goes_on true before (operator o ∷ []) h (if_false _ _ _ p ∙ ap not (not_infix o.kind k))
  postfix_row before o (q ∷ after) p k e h = cc

  infix_row : (before : List (Member N)) (o : Operator N) (after : List (Member N)) → is_prefix o.kind ≡ false → is_postfix o.kind ≡ false
      → is_row before ≡ true → is_row after ≡ true → is_row (before ++ operator o ∷ after) ≡ true
  infix_row before o after p k h g =
      goes_on true before (operator o ∷ after) h (if_false _ _ _ p ∙ (ap (λ (b : Bool). alternates b after) (infix_else o.kind p k) ∙ g))

of_row : (n bound : ℕ) (ps : List (Member ℕ)) (t : Term ℕ) → tree_of n bound ps ≡ Some t → is_row ps ≡ true
unfolding tree_of
of_row zero bound ps t h = cc
of_row (suc n) bound ps t h =
    single_or ps
    (λ u e. ap is_row e)
    (λ e. only_when (tree_at n bound) (root ps) t (sym (tree_step n bound ps e) ∙ h)
    (λ s r f.
    let o = s.root in
    let i : ps ≡ s.before ++ operator o ∷ s.after = (root_splits (top ps) ps s refl r).members in
    by_test (leb o.priority bound)
    (λ y. joined_when o.name (is_prefix o.kind) (is_postfix o.kind) (is_empty s.before) (is_empty s.after)
    (tree_of n (left_bound o) s.before) (tree_of n (right_bound o) s.after) t (sym (if_true _ _ _ y) ∙ f)
    (λ k z v g _. ap is_row i ∙ prefix_row s.before o s.after k z (of_row n (right_bound o) s.after v g))
    (λ p k z u g _. ap is_row i ∙ postfix_row s.before o s.after p k z (of_row n (left_bound o) s.before u g))
    (λ p k u g v w _. ap is_row i ∙ infix_row s.before o s.after p k (of_row n (left_bound o) s.before u g)
    (of_row n (right_bound o) s.after v w)))
    (λ y. let j : None ≡ Some t = sym (if_false _ _ _ y) ∙ f in cc)))

pub trees_of_rows : (bound : ℕ) (ps : List (Member ℕ)) (t : Term ℕ) → tree bound ps ≡ Some t → is_row ps ≡ true
trees_of_rows bound ps t h = of_row (length ps) bound ps t h
