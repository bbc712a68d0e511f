-- A row that has a tree alternates as it must: so members that don't are refused.
use Rattle.std.proofs.Common.{◌≡◌, ℕ, zero, suc, Bool, true, false, cond, ◌&&◌, not, List, [], ◌∷◌, ◌++◌, Option, Some, None, length, refl}
use Rattle.std.proofs.Common.{ap, sym, ◌∙◌, leb, ◌<◌, ◌≤◌, map, drop, get_or}
use Rattle.std.proofs.Math.Seq.{drop-cons}
use Rattle.std.proofs.Math.ListN.{drop_of_length-le}
use Rattle.op_reader.specs.declared.member.Member.{Member as DeclaredMember}
use Rattle.op_reader.specs.declared.member.Member.TheVariants.{Operand, Operator as AnOperator}
use Rattle.op_reader.specs.inner.Members.{member_at}
use Rattle.std.specs.Option.{option_map, option_and_then}
use Rattle.op_logic.specs.Term.{Term}
use Rattle.op_logic.proofs.BoolCases.{if_true, if_false}
use Rattle.op_term.specs.declared.ops.OpKind.{OpKind}
use Rattle.op_term.specs.declared.ops.OpKind.TheVariants.{Xfx, Xfy, Yfx, Fy, Fx, Xf, Yf}
use Rattle.op_term.specs.Ops.{is_prefix, is_postfix, is_infix}
use Rattle.op_reader.specs.Row.{Member, operand, operator, Operator, Split, alternates, top, root}
use Rattle.op_reader.specs.Row.{joined, left_bound, right_bound, is_empty}
use Rattle.op_reader.specs.Row.{with_one, with_two, tree_of, tree}
use Rattle.op_reader.proofs.RowRoots.{root_splits}
use Rattle.op_reader.proofs.Spines.{single_or, tree_step, tree_at}

by_class : {P : Type 0} (k : OpKind) → (is_prefix k ≡ true → P) → (is_prefix k ≡ false → is_postfix k ≡ true → is_infix k ≡ false → P) →
    (is_prefix k ≡ false → is_postfix k ≡ false → is_infix k ≡ true → P) → P
by_class Xfx f g h = h refl refl refl
by_class Xfy f g h = h refl refl refl
by_class Yfx f g h = h refl refl refl
by_class Fy f g h = f refl
by_class Fx f g h = f refl
by_class Xf f g h = g refl refl refl
by_class Yf f g h = g refl refl refl

either_step : (p e a b c d r : Bool) → cond p (e && a) (not e && b) ≡ true → (a ≡ true → c ≡ r) → (b ≡ true → d ≡ r)
    → cond p (e && c) (not e && d) ≡ r
either_step true true a b c d r h f g = f h
either_step true false a b c d r h f g = cc
either_step false true a b c d r h f g = cc
either_step false false a b c d r h f g = g h

-- what a tree of a split shows of its sides
some_one : {A B : Type 0} (f : A → B) (b : Bool) (o : Option A) (y : B) → cond b (option_map f o) None ≡ Some y
    → (b ≡ true) × ((x : A) × (o ≡ Some x))
some_one f true (Some x) y h = (refl, (x, refl))
some_one f true None y h = cc
some_one f false o y h = cc

some_two : {A B C : Type 0} (f : A → B → C) (o : Option A) (q : Option B) (y : C) → option_and_then (λ a. option_map (f a) q) o ≡ Some y
    → ((x : A) × (o ≡ Some x)) × ((z : B) × (q ≡ Some z))
some_two f (Some x) (Some z) y h = ((x, refl), (z, refl))
some_two f (Some x) None y h = cc
some_two f None q y h = cc

some_bounded : {A : Type 0} (b : Bool) (o : Option A) (y : A) → cond b o None ≡ Some y → o ≡ Some y
some_bounded true o y h = h
some_bounded false o y h = cc

module _ {N : Type 0} where
  -- behind a row an operator is expected
  row-append : (e : Bool) (xs ys : List (Member N)) → alternates e xs ≡ true → alternates e (xs ++ ys) ≡ alternates false ys
  row-append true [] ys h = cc
  row-append false [] ys h = refl
  row-append true (operand t ∷ xs) ys h = row-append false xs ys h
  row-append false (operand t ∷ xs) ys h = cc
  row-append e (operator o ∷ xs) ys h =
      either_step (is_prefix o.kind) e (alternates true xs) (alternates (is_infix o.kind) xs) (alternates true (xs ++ ys))
      (alternates (is_infix o.kind) (xs ++ ys)) (alternates false ys) h
      (row-append true xs ys) (row-append (is_infix o.kind) xs ys)

  abbrev prefix_row : Bool → Operator N → List (Member N) → Bool
  prefix_row e o ys = cond (is_prefix o.kind) (e && alternates true ys) (not e && alternates (is_infix o.kind) ys)

  nothing : (xs : List (Member N)) → is_empty xs ≡ true → xs ≡ []
  nothing [] h = refl
  nothing (x ∷ xs) h = cc

  split_row : (s : Split N) (left right : Option (Term N)) (t : Term N) → joined s left right ≡ Some t →
      ((l : Term N) → left ≡ Some l → alternates true s.before ≡ true) → ((r : Term N) → right ≡ Some r → alternates true s.after ≡ true) →
      alternates true (s.before ++ operator s.root ∷ s.after) ≡ true
  split_row s left right t h f g =
      let o = s.root in
      by_class o.kind
      (λ p. let w = some_one (with_one o.name) (is_empty s.before) right t
      (sym (if_true (is_prefix o.kind) (cond (is_empty s.before) (option_map (with_one o.name) right) None)
      (cond (is_postfix o.kind) (cond (is_empty s.after) (option_map (with_one o.name) left) None)
      (option_and_then (λ l. option_map (with_two o.name l) right) left)) p) ∙ h) in
      ap (λ (xs : List (Member N)). alternates true (xs ++ operator o ∷ s.after)) (nothing s.before w.0)
      ∙ if_true (is_prefix o.kind) (alternates true s.after) false p
      ∙ g w.1.0 w.1.1)
      (λ p q i. let w = some_one (with_one o.name) (is_empty s.after) left t
      (sym (if_true (is_postfix o.kind) (cond (is_empty s.after) (option_map (with_one o.name) left) None)
      (option_and_then (λ l. option_map (with_two o.name l) right) left) q)
      ∙ sym (if_false (is_prefix o.kind) (cond (is_empty s.before) (option_map (with_one o.name) right) None)
      (cond (is_postfix o.kind) (cond (is_empty s.after) (option_map (with_one o.name) left) None)
      (option_and_then (λ l. option_map (with_two o.name l) right) left)) p) ∙ h) in
      row-append true s.before (operator o ∷ s.after) (f w.1.0 w.1.1)
      ∙ ap (λ (ys : List (Member N)). alternates false (operator o ∷ ys)) (nothing s.after w.0)
      ∙ if_false (is_prefix o.kind) false (not (is_infix o.kind)) p
      ∙ ap not i)
      (λ p q i. let w = some_two (with_two o.name) left right t
      (sym (if_false (is_postfix o.kind) (cond (is_empty s.after) (option_map (with_one o.name) left) None)
      (option_and_then (λ l. option_map (with_two o.name l) right) left) q)
      ∙ sym (if_false (is_prefix o.kind) (cond (is_empty s.before) (option_map (with_one o.name) right) None)
      (cond (is_postfix o.kind) (cond (is_empty s.after) (option_map (with_one o.name) left) None)
      (option_and_then (λ l. option_map (with_two o.name l) right) left)) p) ∙ h) in
      row-append true s.before (operator o ∷ s.after) (f w.0.0 w.0.1)
      ∙ if_false (is_prefix o.kind) false (alternates (is_infix o.kind) s.after) p
      ∙ ap (λ b. alternates b s.after) i
      ∙ g w.1.0 w.1.1)

  from_root : (o : Option (Split N)) (f : Split N → Option (Term N)) (t : Term N) → option_and_then f o ≡ Some t
      → (s : Split N) × ((o ≡ Some s) × (f s ≡ Some t))
  from_root (Some s) f t h = (s, (refl, h))
  from_root None f t h = cc

  tree_row : (n bound : ℕ) (ps : List (Member N)) (t : Term N) → tree_of n bound ps ≡ Some t → alternates true ps ≡ true
  unfolding tree_of
  tree_row zero bound ps t h = cc
  tree_row (suc n) bound ps t h =
      single_or ps
      (λ u e. ap (alternates true) e)
      (λ e. let w = from_root (root ps) (tree_at n bound) t (sym (tree_step n bound ps e) ∙ h) in
      let s = w.0 in
      let split = root_splits (top ps) ps s refl w.1.0 in
      ap (alternates true) split.members
      ∙ split_row s (tree_of n (left_bound s.root) s.before) (tree_of n (right_bound s.root) s.after) t
      (some_bounded (leb s.root.priority bound) _ t w.1.1)
      (λ l g. tree_row n (left_bound s.root) s.before l g) (λ r g. tree_row n (right_bound s.root) s.after r g))

  none_from : (o : Option (Term N)) → ((t : Term N) → o ≡ Some t → ⊥) → o ≡ None
  none_from None f = refl
  none_from (Some t) f = absurd (f t refl)

  pub no_row_no_tree : (bound : ℕ) (ps : List (Member N)) → alternates true ps ≡ false → tree bound ps ≡ None
  no_row_no_tree bound ps h =
      none_from (tree bound ps) (λ t e. let r = tree_row (length ps) bound ps t e in let c : true ≡ false = sym r ∙ h in cc)

same_shape : (ts us : List (Term ℕ)) (p : DeclaredMember) (e : Bool) (rest : List (Member ℕ))
    → alternates e (member_at ts p ∷ rest) ≡ alternates e (member_at us p ∷ rest)
same_shape ts us (Operand n) e rest = refl
same_shape ts us (AnOperator o) e rest = refl

-- a member that can't stand there
pub member_refused : (ts us : List (Term ℕ)) (ps : List DeclaredMember) (i bound : ℕ) (p : DeclaredMember) (e : Bool)
    → i < length ps → p ≡ get_or ps i p →
    alternates true (map (member_at ts) ps) ≡ alternates e (map (member_at ts) (drop i ps)) →
    ((rest : List (Member ℕ)) → alternates e (member_at us p ∷ rest) ≡ false) → tree bound (map (member_at ts) ps) ≡ None
member_refused ts us ps i bound p e l is so_far refused =
    no_row_no_tree bound (map (member_at ts) ps)
    (so_far ∙ ap (λ qs. alternates e (map (member_at ts) qs)) (drop-cons ps i p l)
    ∙ ap (λ q. alternates e (member_at ts q ∷ map (member_at ts) (drop (suc i) ps))) (sym is)
    ∙ same_shape ts us p e (map (member_at ts) (drop (suc i) ps)) ∙ refused (map (member_at ts) (drop (suc i) ps)))

-- an operand is still expected at the end
pub row_unended : (ts : List (Term ℕ)) (ps : List DeclaredMember) (i bound : ℕ) (e : Bool) → length ps ≤ i → e ≡ true →
    alternates true (map (member_at ts) ps) ≡ alternates e (map (member_at ts) (drop i ps)) → tree bound (map (member_at ts) ps) ≡ None
row_unended ts ps i bound e l expected so_far =
    no_row_no_tree bound (map (member_at ts) ps)
    (so_far ∙ ap (λ qs. alternates e (map (member_at ts) qs)) (drop_of_length-le ps l) ∙ ap not expected)
