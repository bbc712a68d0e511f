-- The splits of a row, and of a row with further members on its right.
use Rattle.std.proofs.Common.{◌≡◌, ℕ, ◌<◌, ◌==◌, true, false, cond, List, [], ◌∷◌, ◌++◌, Option, Some, None, max, refl, ap, sym, ◌∙◌, arith}
use Rattle.std.proofs.Common.{subst, ◌⊎◌, inl, inr}
use Rattle.std.specs.Option.{option_map}
use Rattle.std.proofs.lemmas.Bool.{eqb-true, eq-eqb}
use Rattle.op_logic.proofs.BoolCases.{by_test, if_true, if_false}
use Rattle.op_reader.specs.Row.{Member, operand, operator, Operator, Split, split_at, behind, top, leftmost, rightmost}

-- a split row with more members on its right
abbrev pub extended : {N : Type 0} → List (Member N) → Split N → Split N
extended e s = split_at s.before s.root (s.after ++ e)

not_equal : (m n : ℕ) → m < n → (m == n) ≡ false
not_equal m n h = by_test (m == n) (λ e. absurd (let q = eqb-true m n e in omega arith)) (λ e. e)

module _ {N : Type 0} where
  pub top-append : (xs ys : List (Member N)) → top (xs ++ ys) ≡ max (top xs) (top ys)
  top-append [] ys = omega arith
  top-append (operand t ∷ xs) ys = top-append xs ys
  top-append (operator o ∷ xs) ys = omega (arith, top-append xs ys)

  -- no operator has a priority above the highest
  pub leftmost-above : (n : ℕ) (ps : List (Member N)) → top ps < n → leftmost n ps ≡ None
  leftmost-above n [] h = refl
  leftmost-above n (operand t ∷ ps) h = ap (option_map (behind (operand t))) (leftmost-above n ps h)
  leftmost-above n (operator o ∷ ps) h =
      if_false _ _ _ (not_equal o.priority n (omega arith)) ∙ ap (option_map (behind (operator o))) (leftmost-above n ps (omega arith))

  -- at an operator that is above all before it
  pub leftmost-here : (ps : List (Member N)) (o : Operator N) (e : List (Member N)) → top ps < o.priority
      → leftmost o.priority (ps ++ operator o ∷ e) ≡ Some (split_at ps o e)
  leftmost-here [] o e h = if_true _ _ _ (eq-eqb o.priority o.priority refl)
  leftmost-here (operand t ∷ ps) o e h = ap (option_map (behind (operand t))) (leftmost-here ps o e h)
  leftmost-here (operator p ∷ ps) o e h =
      if_false _ _ _ (not_equal p.priority o.priority (omega arith))
      ∙ ap (option_map (behind (operator p))) (leftmost-here ps o e (omega arith))

  -- the first of those that were there stays the first
  more_behind : (p : Member N) (o q : Option (Split N)) (e : List (Member N)) (s : Split N)
      → ((r : Split N) → o ≡ Some r → q ≡ Some (extended e r)) → option_map (behind p) o ≡ Some s
      → option_map (behind p) q ≡ Some (extended e s)
  more_behind p None q e s g h = cc
  more_behind p (Some r) q e s g h =
      let i : behind p r ≡ s = cc in ap (option_map (behind p)) (g r refl) ∙ ap (λ (x : Split N). Some (extended e x)) i

  pub leftmost-more : (n : ℕ) (ps e : List (Member N)) (s : Split N) → leftmost n ps ≡ Some s → leftmost n (ps ++ e) ≡ Some (extended e s)
  leftmost-more n [] e s h = cc
  leftmost-more n (operand t ∷ ps) e s h =
      more_behind (operand t) (leftmost n ps) (leftmost n (ps ++ e)) e s (λ r g. leftmost-more n ps e r g) h
  leftmost-more n (operator o ∷ ps) e s h =
      by_test (o.priority == n)
      (λ y. let i : split_at [] o ps ≡ s = (let j : Some (split_at [] o ps) ≡ Some s = sym (if_true _ _ _ y) ∙ h in cc) in
      if_true _ _ _ y ∙ ap (λ (x : Split N). Some (extended e x)) i)
      (λ y. if_false _ _ _ y ∙ more_behind (operator o) (leftmost n ps) (leftmost n (ps ++ e)) e s (λ r g. leftmost-more n ps e r g)
      (sym (if_false _ _ _ y) ∙ h))

  -- the last one, where what is on the right has none
  behind_extended : (p : Member N) (e : List (Member N)) (o : Option (Split N))
      → option_map (behind p) (option_map (extended e) o) ≡ option_map (extended e) (option_map (behind p) o)
  behind_extended p e None = refl
  behind_extended p e (Some s) = refl

  abbrev pub last_of : ℕ → Operator N → List (Member N) → Option (Split N) → Option (Split N)
  last_of n o ps None = cond (o.priority == n) (Some (split_at [] o ps)) None
  last_of n o ps (Some s) = Some (behind (operator o) s)

  pub rightmost_is : (n : ℕ) (o : Operator N) (ps : List (Member N)) → rightmost n (operator o ∷ ps) ≡ last_of n o ps (rightmost n ps)
  rightmost_is n o ps = by_option (rightmost n ps)
    where
      by_option : (q : Option (Split N)) → elim q as (λ _. Option (Split N)) [
        | Some s ↦ Some (behind (operator o) s)
        | None ↦ cond (o.priority == n) (Some (split_at [] o ps)) None
      ] ≡ last_of n o ps q
      by_option None = refl
      by_option (Some s) = refl

  last_extended : (n : ℕ) (o : Operator N) (ps e : List (Member N)) (q : Option (Split N))
      → last_of n o (ps ++ e) (option_map (extended e) q) ≡ option_map (extended e) (last_of n o ps q)
  last_extended n o ps e None =
      by_test (o.priority == n)
      (λ y. if_true _ _ _ y ∙ sym (ap (option_map (extended e)) (if_true _ _ _ y)))
      (λ y. if_false _ _ _ y ∙ sym (ap (option_map (extended e)) (if_false _ _ _ y)))
  last_extended n o ps e (Some s) = refl

  pub rightmost-more : (n : ℕ) (ps e : List (Member N)) → rightmost n e ≡ None
      → rightmost n (ps ++ e) ≡ option_map (extended e) (rightmost n ps)
  rightmost-more n [] e h = h
  rightmost-more n (operand t ∷ ps) e h =
      ap (option_map (behind (operand t))) (rightmost-more n ps e h) ∙ behind_extended (operand t) e (rightmost n ps)
  rightmost-more n (operator o ∷ ps) e h =
      rightmost_is n o (ps ++ e) ∙ (ap (last_of n o (ps ++ e)) (rightmost-more n ps e h)
      ∙ (last_extended n o ps e (rightmost n ps) ∙ ap (option_map (extended e)) (sym (rightmost_is n o ps))))

  pub rightmost-above : (n : ℕ) (ps : List (Member N)) → top ps < n → rightmost n ps ≡ None
  rightmost-above n [] h = refl
  rightmost-above n (operand t ∷ ps) h = ap (option_map (behind (operand t))) (rightmost-above n ps h)
  rightmost-above n (operator o ∷ ps) h =
      rightmost_is n o ps ∙ (ap (last_of n o ps) (rightmost-above n ps (omega arith))
      ∙ if_false _ _ _ (not_equal o.priority n (omega arith)))

  pub rightmost-here : (ps : List (Member N)) (o : Operator N) (e : List (Member N)) → top e < o.priority
      → rightmost o.priority (ps ++ operator o ∷ e) ≡ Some (split_at ps o e)
  rightmost-here [] o e h =
      rightmost_is o.priority o e ∙ (ap (last_of o.priority o e) (rightmost-above o.priority e h)
      ∙ if_true _ _ _ (eq-eqb o.priority o.priority refl))
  rightmost-here (operand t ∷ ps) o e h = ap (option_map (behind (operand t))) (rightmost-here ps o e h)
  rightmost-here (operator p ∷ ps) o e h =
      rightmost_is o.priority p (ps ++ operator o ∷ e) ∙ ap (last_of o.priority p (ps ++ operator o ∷ e)) (rightmost-here ps o e h)

  -- a split has the row's members, and a root of that priority
  pub record IsSplit (n : ℕ) (ps : List (Member N)) (s : Split N) : Type 0 where
    pub members : ps ≡ s.before ++ operator s.root ∷ s.after
    pub priority : s.root.priority ≡ n

  split_behind : (n : ℕ) (p : Member N) (ps : List (Member N)) (o : Option (Split N)) (s : Split N)
      → ((r : Split N) → o ≡ Some r → IsSplit n ps r) → option_map (behind p) o ≡ Some s → IsSplit n (p ∷ ps) s
  split_behind n p ps None s g h = cc
  split_behind n p ps (Some r) s g h =
      let i : behind p r ≡ s = cc in
      let j = g r refl in
      subst (λ (x : Split N). IsSplit n (p ∷ ps) x) i record {
        members = ap (λ (qs : List (Member N)). p ∷ qs)
            j.members;
        priority = j.priority;
      }

  split_here : (n : ℕ) (o : Operator N) (ps : List (Member N)) (s : Split N) → (o.priority == n) ≡ true → Some (split_at [] o ps) ≡ Some s
      → IsSplit n (operator o ∷ ps) s
  split_here n o ps s y h =
      let i : split_at [] o ps ≡ s = cc in
      subst (λ (x : Split N). IsSplit n (operator o ∷ ps) x) i record { members = refl; priority = eqb-true o.priority n y }

  pub leftmost-splits : (n : ℕ) (ps : List (Member N)) (s : Split N) → leftmost n ps ≡ Some s → IsSplit n ps s
  leftmost-splits n [] s h = cc
  leftmost-splits n (operand t ∷ ps) s h = split_behind n (operand t) ps (leftmost n ps) s (λ r g. leftmost-splits n ps r g) h
  leftmost-splits n (operator o ∷ ps) s h =
      by_test (o.priority == n)
      (λ y. split_here n o ps s y (sym (if_true _ _ _ y) ∙ h))
      (λ y. split_behind n (operator o) ps (leftmost n ps) s (λ r g. leftmost-splits n ps r g) (sym (if_false _ _ _ y) ∙ h))

  split_last : (n : ℕ) (o : Operator N) (ps : List (Member N)) (q : Option (Split N)) (s : Split N)
      → ((r : Split N) → q ≡ Some r → IsSplit n ps r) → last_of n o ps q ≡ Some s → IsSplit n (operator o ∷ ps) s
  split_last n o ps None s g h =
      by_test (o.priority == n)
      (λ y. split_here n o ps s y (sym (if_true _ _ _ y) ∙ h))
      (λ y. let i : None ≡ Some s = sym (if_false _ _ _ y) ∙ h in cc)
  split_last n o ps (Some r) s g h = split_behind n (operator o) ps (Some r) s g h

  pub rightmost-splits : (n : ℕ) (ps : List (Member N)) (s : Split N) → rightmost n ps ≡ Some s → IsSplit n ps s
  rightmost-splits n [] s h = cc
  rightmost-splits n (operand t ∷ ps) s h = split_behind n (operand t) ps (rightmost n ps) s (λ r g. rightmost-splits n ps r g) h
  rightmost-splits n (operator o ∷ ps) s h =
      split_last n o ps (rightmost n ps) s (λ r g. rightmost-splits n ps r g) (sym (rightmost_is n o ps) ∙ h)

  -- the highest priority is that of an operator
  pub leftmost-there : (n : ℕ) (ps : List (Member N)) → top ps ≡ n → 0 < n → (s : Split N) × (leftmost n ps ≡ Some s)
  leftmost-there n [] e h = absurd (omega arith)
  leftmost-there n (operand t ∷ ps) e h =
      let i = leftmost-there n ps e h in (behind (operand t) i.0, ap (option_map (behind (operand t))) i.1)
  leftmost-there n (operator o ∷ ps) e h =
      by_test (o.priority == n)
      (λ y. (split_at [] o ps, if_true _ _ _ y))
      (λ y. let k : o.priority ≡ n → ⊥ = (λ q. let w = eq-eqb o.priority n q in cc) in
      let i = leftmost-there n ps (omega arith) h in
      (behind (operator o) i.0, if_false _ _ _ y ∙ ap (option_map (behind (operator o))) i.1))

  pub rightmost-there : (n : ℕ) (ps : List (Member N)) → top ps ≡ n → 0 < n → (s : Split N) × (rightmost n ps ≡ Some s)
  rightmost-there n [] e h = absurd (omega arith)
  rightmost-there n (operand t ∷ ps) e h =
      let i = rightmost-there n ps e h in (behind (operand t) i.0, ap (option_map (behind (operand t))) i.1)
  rightmost-there n (operator o ∷ ps) e h =
      last_there n o ps (rightmost n ps) (by_test (o.priority == n) (λ y. inl y) (λ y. inr (let k : o.priority ≡ n
      → ⊥ = (λ q. let w = eq-eqb o.priority n q in cc) in rightmost-there n ps (omega arith) h))) (rightmost_is n o ps)
    where
      last_there : (n : ℕ) (o : Operator N) (ps : List (Member N)) (q : Option (Split N))
          → ((o.priority == n) ≡ true) ⊎ ((s : Split N) × (q ≡ Some s)) → rightmost n (operator o ∷ ps) ≡ last_of n o ps q
          → (s : Split N) × (rightmost n (operator o ∷ ps) ≡ Some s)
      last_there n o ps None (inl y) e = (split_at [] o ps, e ∙ if_true _ _ _ y)
      last_there n o ps None (inr i) e = absurd (let j : None ≡ Some i.0 = i.1 in cc)
      last_there n o ps (Some r) w e = (behind (operator o) r, e)
