-- A row's tree is that of its spine.
use Rattle.std.proofs.Common.{◌≡◌, ℕ, zero, suc, ◌+◌, ◌<◌, ◌≤◌, Bool, true, false, cond, List, [], ◌∷◌, Option, Some, None, length, refl}
use Rattle.std.proofs.Common.{ap, sym, ◌∙◌, arith, subst, length-append, leb}
use Rattle.std.specs.Option.{option_map, option_and_then}
use Rattle.std.proofs.lemmas.Bool.{le-leb}
use Rattle.op_logic.specs.Term.{Term}
use Rattle.op_logic.proofs.BoolCases.{by_test, if_true, if_false}
use Rattle.op_term.specs.Ops.{is_prefix, is_postfix}
use Rattle.op_reader.specs.Row.{Member, operand, operator, Operator, Split, top, root, joined, left_bound, right_bound, is_empty, with_one}
use Rattle.op_reader.specs.Row.{with_two, tree_of}
use Rattle.op_reader.specs.inner.Spine.{Spine, ended, under, whole_priority, spine_within, led, spine_of}
use Rattle.op_reader.specs.inner.Adding.{whole_term}
use Rattle.op_reader.proofs.RowRoots.{root_splits}

none_either : {A : Type 0} (b : Bool) → cond {A = Option A} b None None ≡ None
none_either true = refl
none_either false = refl

joined_closed : {A B C : Type 0} (f : B → Option C) (g : A → Option B) (o : Option A)
    → option_and_then f (option_and_then g o) ≡ option_and_then (λ x. option_and_then f (g x)) o
joined_closed f g None = refl
joined_closed f g (Some x) = refl

module _ {N : Type 0} where
  abbrev pub is_single : List (Member N) → Bool
  is_single (operand t ∷ []) = true
  is_single ps = false

  pub single_or : {P : Type 0} (ps : List (Member N)) → ((t : Term N) → ps ≡ operand t ∷ [] → P) → (is_single ps ≡ false → P) → P
  single_or [] f g = g refl
  single_or (operator o ∷ ps) f g = g refl
  single_or (operand t ∷ []) f g = f t refl
  single_or (operand t ∷ p ∷ ps) f g = g refl

  -- the two definitions at a split
  abbrev pub tree_at : ℕ → ℕ → Split N → Option (Term N)
  tree_at n bound s =
      cond (leb s.root.priority bound) (joined s (tree_of n (left_bound s.root) s.before) (tree_of n (right_bound s.root) s.after)) None

  abbrev pub right_at : ℕ → Split N → Option (Spine N)
  right_at n s = option_and_then (spine_within (right_bound s.root)) (spine_of n s.after)

  abbrev pub spine_split : ℕ → Split N → Option (Spine N)
  spine_split n s = led s (tree_of n (left_bound s.root) s.before) (right_at n s)

  pub tree_step : (n bound : ℕ) (ps : List (Member N)) → is_single ps ≡ false
      → tree_of (suc n) bound ps ≡ option_and_then (tree_at n bound) (root ps)
  unfolding tree_of
  tree_step n bound [] h = refl
  tree_step n bound (operator o ∷ ps) h = refl
  tree_step n bound (operand t ∷ []) h = cc
  tree_step n bound (operand t ∷ p ∷ ps) h = refl

  pub spine_step : (n : ℕ) (ps : List (Member N)) → is_single ps ≡ false → spine_of (suc n) ps ≡ option_and_then (spine_split n) (root ps)
  unfolding spine_of
  spine_step n [] h = refl
  spine_step n (operator o ∷ ps) h = refl
  spine_step n (operand t ∷ []) h = cc
  spine_step n (operand t ∷ p ∷ ps) h = refl

  pub tree_single : (n bound : ℕ) (t : Term N) → tree_of (suc n) bound (operand t ∷ []) ≡ Some t
  unfolding tree_of
  tree_single n bound t = refl

  pub spine_single : (n : ℕ) (t : Term N) → spine_of (suc n) (operand t ∷ []) ≡ Some (ended t 0)
  unfolding spine_of
  spine_single n t = refl

  -- sides are shorter
  pub record AreShorter (ps : List (Member N)) (s : Split N) : Type 0 where
    pub before : length s.before < length ps
    pub after : length s.after < length ps

  pub shorter : (ps : List (Member N)) (s : Split N) → root ps ≡ Some s → AreShorter ps s
  shorter ps s h =
      let e : length ps ≡ length s.before + suc (length s.after) = ap length (root_splits (top ps) ps s refl h).members
      ∙ length-append s.before (operator s.root ∷ s.after) in
      record { before = omega arith; after = omega arith }

  same_at : {A : Type 0} (f g : Split N → Option A) (o : Option (Split N)) → ((s : Split N) → o ≡ Some s → f s ≡ g s)
      → option_and_then f o ≡ option_and_then g o
  same_at f g None h = refl
  same_at f g (Some s) h = h s refl

  -- more steps than members change nothing
  pub tree_more : (n bound : ℕ) (ps : List (Member N)) → length ps ≤ n → tree_of n bound ps ≡ tree_of (suc n) bound ps
  unfolding tree_of
  tree_more zero bound [] h = refl
  tree_more zero bound (p ∷ ps) h = absurd (omega arith)
  tree_more (suc n) bound ps h =
      single_or ps
      (λ t e. subst (λ (qs : List (Member N)). tree_of (suc n) bound qs ≡ tree_of (suc (suc n)) bound qs) (sym e) refl)
      (λ e. tree_step n bound ps e ∙ (same_at (tree_at n bound) (tree_at (suc n) bound) (root ps)
      (λ s r. let k = shorter ps s r in
      let l = tree_more n (left_bound s.root) s.before (omega (arith, k.before)) in
      let m = tree_more n (right_bound s.root) s.after (omega (arith, k.after)) in
      ap (λ (x : Option (Term N)). cond (leb s.root.priority bound) (joined s x (tree_of n (right_bound s.root) s.after)) None) l
      ∙ ap (λ (x : Option (Term N)). cond (leb s.root.priority bound) (joined s (tree_of (suc n) (left_bound s.root) s.before) x) None) m)
      ∙ sym (tree_step (suc n) bound ps e)))

  pub spine_more : (n : ℕ) (ps : List (Member N)) → length ps ≤ n → spine_of n ps ≡ spine_of (suc n) ps
  unfolding spine_of
  spine_more zero [] h = refl
  spine_more zero (p ∷ ps) h = absurd (omega arith)
  spine_more (suc n) ps h =
      single_or ps
      (λ t e. subst (λ (qs : List (Member N)). spine_of (suc n) qs ≡ spine_of (suc (suc n)) qs) (sym e) refl)
      (λ e. spine_step n ps e ∙ (same_at (spine_split n) (spine_split (suc n)) (root ps)
      (λ s r. let k = shorter ps s r in
      let l = tree_more n (left_bound s.root) s.before (omega (arith, k.before)) in
      let m = spine_more n s.after (omega (arith, k.after)) in
      ap (λ (x : Option (Term N)). led s x (right_at n s)) l
      ∙ ap (λ (x : Option (Spine N)). led s (tree_of (suc n) (left_bound s.root) s.before)
      (option_and_then (spine_within (right_bound s.root)) x)) m)
      ∙ sym (spine_step (suc n) ps e)))

  -- a spine within a bound, as its tree
  abbrev pub closed : ℕ → Spine N → Option (Term N)
  closed bound s = cond (leb (whole_priority s) bound) (Some (whole_term s)) None

  closed_within : (bound : ℕ) (o : Option (Spine N))
      → option_and_then (closed bound) o ≡ option_map whole_term (option_and_then (spine_within bound) o)
  closed_within bound None = refl
  closed_within bound (Some s) = by_test (leb (whole_priority s) bound)
      (λ h. if_true _ _ _ h ∙ sym (ap (option_map whole_term) (if_true _ _ _ h)))
      (λ h. if_false _ _ _ h ∙ sym (ap (option_map whole_term) (if_false _ _ _ h)))

  -- at a root whose side tests are a, b, c, d
  closed_by_tests : (bound : ℕ) (o : Operator N) (a b c d : Bool) (left : Option (Term N)) (right : Option (Spine N)) →
      cond (leb o.priority bound) (cond a (cond c (option_map (with_one o.name) (option_map whole_term right)) None)
      (cond b (cond d (option_map (with_one o.name) left) None) (option_and_then (λ l. option_map (with_two o.name l)
      (option_map whole_term right)) left))) None
      ≡ option_and_then (closed bound) (cond a (cond c (option_map (under o None) right) None)
      (cond b (cond d (option_map (λ l. ended (with_one o.name l) o.priority) left) None)
      (option_and_then (λ l. option_map (under o (Some l)) right) left)))
  closed_by_tests bound o true b true d left None = none_either _
  closed_by_tests bound o true b true d left (Some r) = refl
  closed_by_tests bound o true b false d left right = none_either _
  closed_by_tests bound o false true c true None right = none_either _
  closed_by_tests bound o false true c true (Some l) right = refl
  closed_by_tests bound o false true c false left right = none_either _
  closed_by_tests bound o false false c d None right = none_either _
  closed_by_tests bound o false false c d (Some l) None = none_either _
  closed_by_tests bound o false false c d (Some l) (Some r) = refl

  pub tree_closed : (n bound : ℕ) (ps : List (Member N)) → tree_of n bound ps ≡ option_and_then (closed bound) (spine_of n ps)
  unfolding tree_of spine_of
  tree_closed zero bound ps = refl
  tree_closed (suc n) bound ps = single_or ps
      (λ t e. subst (λ (qs : List (Member N)). tree_of (suc n) bound qs ≡ option_and_then (closed bound) (spine_of (suc n) qs)) (sym e)
      (sym (if_true _ _ _ (le-leb 0 bound (omega arith)))))
      (λ e. tree_step n bound ps e ∙ (same_at (tree_at n bound) (λ s. option_and_then (closed bound) (spine_split n s)) (root ps)
      (λ s r. let m = tree_closed n (right_bound s.root) s.after ∙ closed_within (right_bound s.root) (spine_of n s.after) in
      ap (λ (x : Option (Term N)). cond (leb s.root.priority bound) (joined s (tree_of n (left_bound s.root) s.before) x) None) m
      ∙ closed_by_tests bound s.root (is_prefix s.root.kind) (is_postfix s.root.kind) (is_empty s.before) (is_empty s.after)
      (tree_of n (left_bound s.root) s.before) (right_at n s))
      ∙ (sym (joined_closed (closed bound) (spine_split n) (root ps)) ∙ ap (option_and_then (closed bound)) (sym (spine_step n ps e)))))
