-- The state of a row stands for the members so far, and for one more.
use Rattle.std.proofs.Common.{◌≡◌, ℕ, ◌<◌, ◌≤◌, Bool, true, false, List, [], ◌∷◌, ◌++◌, Option, Some, None, map, length, refl, ap, sym, ◌∙◌}
use Rattle.std.proofs.Common.{arith, subst, leb, append_assoc}
use Rattle.std.specs.Option.{option_map, option_and_then, MatchOption}
use Rattle.std.proofs.lemmas.Option.{MatchOption-at_some, MatchOption-at_none}
use Rattle.std.proofs.lemmas.Bool.{le-leb, leb-true, ltb-true, ltb-false}
use Rattle.std.proofs.lemmas.List.{map-append, append-nil}
use Rattle.op_logic.specs.Term.{Term}
use Rattle.op_logic.proofs.BoolCases.{if_true, if_false}
use Rattle.op_term.specs.Ops.{is_prefix, is_infix, is_postfix}
use Rattle.op_term.specs.Places.{term_at}
use Rattle.op_term.specs.declared.ops.Meaning.{Meaning}
use Rattle.op_term.specs.declared.symbols.Sym.{Sym}
use Rattle.op_reader.specs.Row.{Member, operand, operator, Operator, left_bound, with_one, tree}
use Rattle.op_reader.specs.inner.Spine.{Arm, Spine, ended, whole_priority, spine}
use Rattle.op_reader.specs.inner.RowState.{RowState, expects_operand, arm_of, operator_of, row_spine, Stands, BranchesBelow}
use Rattle.op_reader.specs.inner.Adding.{whole_term, taken, added, added_to, IsClosed, AreFalling, IsSameTo, branch_bound, last_is_below}
use Rattle.op_reader.specs.inner.Adding.{spine_at}
use Rattle.op_reader.specs.declared.row.Branch.{Branch}
use Rattle.op_reader.specs.declared.row.Part.{Part}
use Rattle.op_reader.proofs.Spines.{closed, tree_closed}
use Rattle.op_reader.proofs.OperatorSpines.{by_prefix, by_infix, by_postfix, spine-prefix, spine-infix, spine-postfix}
use Rattle.op_reader.proofs.ClosedSpines.{spine_falls, AllAllow, below_arms, added_below, added_here, added_none, IsKept, arms_kept}
use Rattle.op_reader.proofs.RowRoots.{right_within}
use Rattle.op_reader.proofs.AddedOperators.{false_by}

-- where an operator comes next
pub stands_last : (ts : List (Term ℕ)) (ps : List (Member ℕ)) (row : RowState) (part : Part) → Stands ts ps row → row.last ≡ Some part
    → spine ps ≡ row_spine ts row (term_at ts part.node) part.priority
stands_last ts ps row part h e =
    MatchOption-at_some ((t : Term ℕ) → spine (ps ++ operand t ∷ []) ≡ row_spine ts row t 0)
    (λ (p : Part). spine ps ≡ row_spine ts row (term_at ts p.node) p.priority) part e h

-- where an operand comes next
pub stands_open : (ts : List (Term ℕ)) (ps : List (Member ℕ)) (row : RowState) → Stands ts ps row → row.last ≡ None → (t : Term ℕ)
    → spine (ps ++ operand t ∷ []) ≡ row_spine ts row t 0
stands_open ts ps row h e =
    MatchOption-at_none ((t : Term ℕ) → spine (ps ++ operand t ∷ []) ≡ row_spine ts row t 0)
    (λ (p : Part). spine ps ≡ row_spine ts row (term_at ts p.node) p.priority) e h

-- each branch allows what the last one does
allow_all : (ts : List (Term ℕ)) (p : ℕ) (bs : List Branch) (q : ℕ) → AreFalling (map (arm_of ts) bs) q → last_is_below p bs ≡ false
    → AllAllow p (map (arm_of ts) bs)
allow_all ts p [] q f h = tt
allow_all ts p (b ∷ []) q f h = (ltb-false (branch_bound b) p h, tt)
allow_all ts p (b ∷ c ∷ bs) q f h =
    let i = allow_all ts p (c ∷ bs) q f.1 h in
    let w = right_within (operator_of c.name.0 c.meaning) in
    (omega (arith, i.0, f.0, w), i)

-- an infix or postfix operator behind a row that is not refused
module _ (ts us : List (Term ℕ)) (ps : List (Member ℕ)) (row : RowState) (part left : Part) (bs : List Branch) (o : Operator ℕ)
    (stands : Stands ts ps row) (last : row.last ≡ Some part) (not_refused : row.is_refused ≡ false)
    (same : IsSameTo o.priority (spine_at ts row.branches part) (spine_at us bs left)) (stops : last_is_below o.priority bs ≡ false) where
  spine_before : spine ps ≡ Some (spine_at ts row.branches part)
  spine_before = stands_last ts ps row part stands last ∙ if_false _ _ _ not_refused

  taken_after : (made : Term ℕ → Spine ℕ) → option_and_then (added_to o (taken o made)) (spine ps)
      ≡ option_map (below_arms (map (arm_of us) bs)) (taken o made (ended (term_at us left.node) left.priority))
  taken_after made =
      ap (option_and_then (added_to o (taken o made))) spine_before
      ∙ (same.to_added o made refl
      ∙ added_below o (taken o made) (map (arm_of us) bs) (term_at us left.node) left.priority
      (allow_all us o.priority bs left.priority (same.falls (spine_falls (length ps) ps (spine_at ts row.branches part) spine_before))
      stops))

  refused_after : (made : Term ℕ → Spine ℕ) → left_bound o < left.priority → option_and_then (added_to o (taken o made)) (spine ps) ≡ None
  refused_after made h =
      taken_after made
      ∙ ap (option_map (below_arms (map (arm_of us) bs))) (if_false _ _ _ (false_by (leb left.priority (left_bound o))
      (λ y. let z = leb-true left.priority (left_bound o) y in omega arith)))

  accepted_after : (made : Term ℕ → Spine ℕ) → left.priority ≤ left_bound o
      → option_and_then (added_to o (taken o made)) (spine ps) ≡ Some (below_arms (map (arm_of us) bs) (made (term_at us left.node)))
  accepted_after made h =
      taken_after made ∙ ap (option_map (below_arms (map (arm_of us) bs))) (if_true _ _ _ (le-leb left.priority (left_bound o) h))

-- a row that is refused stays refused
pub none_before : (ts : List (Term ℕ)) (ps : List (Member ℕ)) (row : RowState) (part : Part) → Stands ts ps row → row.last ≡ Some part
    → row.is_refused ≡ true → spine ps ≡ None
none_before ts ps row part stands last h = stands_last ts ps row part stands last ∙ if_true _ _ _ h

two_more : (ps : List (Member ℕ)) (o : Operator ℕ) (t : Term ℕ)
    → spine ((ps ++ operator o ∷ []) ++ operand t ∷ []) ≡ spine (ps ++ operator o ∷ operand t ∷ [])
two_more ps o t = ap (λ (qs : List (Member ℕ)). spine qs) (append_assoc ps (operator o ∷ []) (operand t ∷ []))

pub infix_none : (o : Operator ℕ) → is_infix o.kind ≡ true → 0 < o.priority → (ps : List (Member ℕ)) → spine ps ≡ None → (t : Term ℕ)
    → spine ((ps ++ operator o ∷ []) ++ operand t ∷ []) ≡ None
infix_none o k some ps e t = two_more ps o t ∙ (spine-infix o t k some ps ∙ ap (option_and_then (added_to o (taken o (by_infix o t)))) e)

pub postfix_none : (o : Operator ℕ) → is_postfix o.kind ≡ true → 0 < o.priority → (ps : List (Member ℕ)) → spine ps ≡ None
    → spine (ps ++ operator o ∷ []) ≡ None
postfix_none o k some ps e = spine-postfix o k some ps ∙ ap (option_and_then (added_to o (taken o (by_postfix o)))) e

pub prefix_none : (o : Operator ℕ) → is_prefix o.kind ≡ true → 0 < o.priority → (ps : List (Member ℕ)) (t : Term ℕ)
    → spine (ps ++ operand t ∷ []) ≡ None → spine ((ps ++ operator o ∷ []) ++ operand t ∷ []) ≡ None
prefix_none o k some ps t e = two_more ps o t ∙ (spine-prefix o t k some ps ∙ ap (option_and_then (added_to o (by_prefix o t))) e)

abbrev pub branch_of : Sym → Meaning → Option ℕ → Branch
branch_of name meaning left = record { name = name; meaning = meaning; left = left }

pub map_push : (ts : List (Term ℕ)) (items bs : List Branch) (b : Branch) → items ≡ bs ++ b ∷ []
    → map (arm_of ts) bs ++ arm_of ts b ∷ [] ≡ map (arm_of ts) items
map_push ts items bs b e = sym (ap (map (arm_of ts)) e ∙ map-append (arm_of ts) bs (b ∷ []))

abbrev spine_with_arms : List (Arm ℕ) → Term ℕ → ℕ → Option (Spine ℕ)
spine_with_arms arms t q = Some (record { arms = arms; last = t; priority = q })

module _ (ts us : List (Term ℕ)) (ps : List (Member ℕ)) (row : RowState) (part left : Part) (bs : List Branch) (name : Sym)
    (meaning : Meaning)
    (some : 0 < meaning.priority) (stands : Stands ts ps row) (last : row.last ≡ Some part) (not_refused : row.is_refused ≡ false)
    (same : IsSameTo meaning.priority (spine_at ts row.branches part) (spine_at us bs left))
    (stops : last_is_below meaning.priority bs ≡ false) where
  abbrev o : Operator ℕ
  o = operator_of name.0 meaning

  pub infix_refused : is_infix meaning.kind ≡ true → left_bound o < left.priority → (t : Term ℕ)
      → spine ((ps ++ operator o ∷ []) ++ operand t ∷ []) ≡ None
  infix_refused k h t =
      two_more ps o t ∙ (spine-infix o t k some ps
      ∙ refused_after ts us ps row part left bs o stands last not_refused same stops (by_infix o t) h)

  pub infix_taken : is_infix meaning.kind ≡ true → left.priority ≤ left_bound o → (items : List Branch)
      → items ≡ bs ++ branch_of name meaning (Some left.node) ∷ [] → (t : Term ℕ) →
      spine ((ps ++ operator o ∷ []) ++ operand t ∷ []) ≡ spine_with_arms (map (arm_of us) items) t 0
  infix_taken k h items e t =
      two_more ps o t
      ∙ (spine-infix o t k some ps
      ∙ (accepted_after ts us ps row part left bs o stands last not_refused same stops (by_infix o t) h
      ∙ ap (λ (arms : List (Arm ℕ)). spine_with_arms arms t 0) (map_push us items bs (branch_of name meaning (Some left.node)) e)))

  pub postfix_refused : is_postfix meaning.kind ≡ true → left_bound o < left.priority → spine (ps ++ operator o ∷ []) ≡ None
  postfix_refused k h =
      spine-postfix o k some ps ∙ refused_after ts us ps row part left bs o stands last not_refused same stops (by_postfix o) h

  pub postfix_taken : is_postfix meaning.kind ≡ true → left.priority ≤ left_bound o → (vs : List (Term ℕ)) (now : Part) → IsKept us vs
      → BranchesBelow (length us) bs →
      IsClosed us (branch_of name meaning None) left vs now → spine (ps ++ operator o ∷ []) ≡ spine_with_arms (map (arm_of vs) bs)
      (term_at vs now.node) now.priority
  postfix_taken k h vs now kept there c =
      spine-postfix o k some ps
      ∙ (accepted_after ts us ps row part left bs o stands last not_refused same stops (by_postfix o) h
      ∙ (ap (λ (arms : List (Arm ℕ)). spine_with_arms arms (with_one o.name (term_at us left.node)) o.priority)
      (append-nil (map (arm_of us) bs) ∙ arms_kept us vs kept bs there)
      ∙ (ap (λ (t : Term ℕ). spine_with_arms (map (arm_of vs) bs) t o.priority) (sym c.term)
      ∙ ap (λ (q : ℕ). spine_with_arms (map (arm_of vs) bs) (term_at vs now.node) q) (sym c.priority))))

-- a prefix operator where an operand comes next
added_refused : (ts : List (Term ℕ)) (o : Operator ℕ) (x : Term ℕ) (bs : List Branch) (t : Term ℕ) (q : ℕ)
    → last_is_below o.priority bs ≡ true → added o (by_prefix o x) (map (arm_of ts) bs) t q ≡ None
added_refused ts o x [] t q h = cc
added_refused ts o x (b ∷ []) t q h = added_here o x (arm_of ts b) [] t q (ltb-true (branch_bound b) o.priority h)
added_refused ts o x (b ∷ c ∷ bs) t q h = added_none o x (arm_of ts b) (map (arm_of ts) (c ∷ bs)) t q (added_refused ts o x (c ∷ bs) t q h)

module _ (ts : List (Term ℕ)) (ps : List (Member ℕ)) (row : RowState) (name : Sym) (meaning : Meaning) (k : is_prefix meaning.kind ≡ true)
    (some : 0 < meaning.priority) (stands : Stands ts ps row) (last : row.last ≡ None) (not_refused : row.is_refused ≡ false) where
  abbrev p : Operator ℕ
  p = operator_of name.0 meaning

  open_before : (t : Term ℕ) → spine (ps ++ operand t ∷ []) ≡ spine_with_arms (map (arm_of ts) row.branches) t 0
  open_before t = stands_open ts ps row stands last t ∙ if_false _ _ _ not_refused

  pub prefix_refused : last_is_below meaning.priority row.branches ≡ true → (t : Term ℕ)
      → spine ((ps ++ operator p ∷ []) ++ operand t ∷ []) ≡ None
  prefix_refused h t =
      two_more ps p t
      ∙ (spine-prefix p t k some ps
      ∙ (ap (option_and_then (added_to p (by_prefix p t))) (open_before t)
      ∙ added_refused ts p t row.branches t 0 h))

  pub prefix_taken : last_is_below meaning.priority row.branches ≡ false → (items : List Branch)
      → items ≡ row.branches ++ branch_of name meaning None ∷ [] → (t : Term ℕ) →
      spine ((ps ++ operator p ∷ []) ++ operand t ∷ []) ≡ spine_with_arms (map (arm_of ts) items) t 0
  prefix_taken h items e t =
      let arms = map (arm_of ts) row.branches in
      two_more ps p t
      ∙ (spine-prefix p t k some ps
      ∙ (ap (option_and_then (added_to p (by_prefix p t))) (open_before t)
      ∙ (added_below p (by_prefix p t) arms t 0
      (allow_all ts meaning.priority row.branches 0 (spine_falls (length (ps ++ operand t ∷ [])) (ps ++ operand t ∷ [])
      (record { arms = arms; last = t; priority = 0 }) (open_before t)) h)
      ∙ ap (λ (xs : List (Arm ℕ)). spine_with_arms xs t 0) (map_push ts items row.branches (branch_of name meaning None) e))))

-- the end of a row
module _ (ts us : List (Term ℕ)) (ps : List (Member ℕ)) (row : RowState) (part : Part) (bound : ℕ) (stands : Stands ts ps row)
    (last : row.last ≡ Some part) where
  tree_by_spine : (o : Option (Spine ℕ)) → spine ps ≡ o → tree bound ps ≡ option_and_then (closed bound) o
  tree_by_spine o e = tree_closed (length ps) bound ps ∙ ap (option_and_then (closed bound)) e

  pub tree_refused : row.is_refused ≡ true → tree bound ps ≡ None
  tree_refused h = tree_by_spine None (none_before ts ps row part stands last h)

  module _ (not_refused : row.is_refused ≡ false) (whole : Part) (term : term_at us whole.node
      ≡ whole_term (spine_at ts row.branches part)) (priority : whole.priority ≡ whole_priority (spine_at ts row.branches part)) where
    by_row : tree bound ps ≡ closed bound (spine_at ts row.branches part)
    by_row = tree_by_spine (Some (spine_at ts row.branches part)) (stands_last ts ps row part stands last ∙ if_false _ _ _ not_refused)

    pub tree_above : bound < whole.priority → tree bound ps ≡ None
    tree_above h =
        by_row ∙ if_false _ _ _ (false_by (leb (whole_priority (spine_at ts row.branches part)) bound)
        (λ y. let z = leb-true (whole_priority (spine_at ts row.branches part)) bound y in omega arith))

    pub tree_found : whole.priority ≤ bound → tree bound ps ≡ Some (term_at us whole.node)
    tree_found h =
        by_row ∙ (if_true _ _ _ (le-leb (whole_priority (spine_at ts row.branches part)) bound (omega arith))
        ∙ ap (λ (t : Term ℕ). Some t) (sym term))

-- an operand is expected, or isn't
none_of : (o : Option Part) → elim o as (λ _. Bool) [ None ↦ true | Some part ↦ false ] ≡ true → o ≡ None
none_of None h = refl
none_of (Some part) h = cc

some_of : (o : Option Part) → elim o as (λ _. Bool) [ None ↦ true | Some part ↦ false ] ≡ false → (part : Part) × (o ≡ Some part)
some_of None h = cc
some_of (Some part) h = (part, refl)

pub expected_none : (row : RowState) → expects_operand row ≡ true → row.last ≡ None
expected_none row h = none_of row.last h

pub expected_some : (row : RowState) → expects_operand row ≡ false → (part : Part) × (row.last ≡ Some part)
expected_some row h = some_of row.last h

pub none_expected : (row : RowState) → row.last ≡ None → expects_operand row ≡ true
none_expected row h = ap (λ (o : Option Part). elim o as (λ _. Bool) [ None ↦ true | Some part ↦ false ]) h

pub as_open : (ts : List (Term ℕ)) (ps : List (Member ℕ)) (row : RowState) → row.last ≡ None
    → ((t : Term ℕ) → spine (ps ++ operand t ∷ []) ≡ row_spine ts row t 0) → Stands ts ps row
as_open ts ps row e h =
    subst (λ (o : Option Part). MatchOption o ((t : Term ℕ) → spine (ps ++ operand t ∷ []) ≡ row_spine ts row t 0)
    (λ (p : Part). spine ps ≡ row_spine ts row (term_at ts p.node) p.priority)) (sym e) h

pub as_last : (ts : List (Term ℕ)) (ps : List (Member ℕ)) (row : RowState) (part : Part) → row.last ≡ Some part
    → spine ps ≡ row_spine ts row (term_at ts part.node) part.priority → Stands ts ps row
as_last ts ps row part e h =
    subst (λ (o : Option Part). MatchOption o ((t : Term ℕ) → spine (ps ++ operand t ∷ []) ≡ row_spine ts row t 0)
    (λ (p : Part). spine ps ≡ row_spine ts row (term_at ts p.node) p.priority)) (sym e) h
