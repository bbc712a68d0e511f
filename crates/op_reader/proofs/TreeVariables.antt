-- The variables of a row's tree are those of its operands, from left to right.
use Rattle.std.proofs.Common.{◌≡◌, ℕ, zero, suc, true, List, [], ◌∷◌, ◌++◌, Some, None, length, refl, ap, sym, ◌∙◌, leb, append_assoc}
use Rattle.std.proofs.lemmas.List.{append-nil}
use Rattle.op_logic.specs.Term.{Term}
use Rattle.op_logic.proofs.BoolCases.{by_test, if_true, if_false}
use Rattle.op_term.specs.Ops.{is_prefix, is_postfix}
use Rattle.op_reader.specs.Row.{Member, operand, operator, top, root, left_bound, right_bound, is_empty, tree_of, tree}
use Rattle.op_reader.specs.Variables.{variables}
use Rattle.op_reader.proofs.RowRoots.{root_splits}
use Rattle.op_reader.proofs.Spines.{single_or, tree_step, tree_at, tree_single}
use Rattle.op_reader.proofs.AddedOperators.{only_when}
use Rattle.op_reader.proofs.RefusedRows.{joined_when}

module _ {N : Type 0} where
  abbrev pub member_variables : Member N → List ℕ
  member_variables (operand t) = variables t
  member_variables (operator o) = []

  abbrev pub members_variables : List (Member N) → List ℕ
  members_variables [] = []
  members_variables (p ∷ ps) = member_variables p ++ members_variables ps

  members-append : (ps qs : List (Member N)) → members_variables (ps ++ qs) ≡ members_variables ps ++ members_variables qs
  members-append [] qs = refl
  members-append (p ∷ ps) qs =
      ap (λ (vs : List ℕ). member_variables p ++ vs) (members-append ps qs)
      ∙ sym (append_assoc (member_variables p) (members_variables ps) (members_variables qs))

  none_there : (ps : List (Member N)) → is_empty ps ≡ true → [] ≡ members_variables ps
  none_there [] h = refl
  none_there (p ∷ ps) h = cc

  tree_variables_of : (n bound : ℕ) (ps : List (Member N)) (t : Term N) → tree_of n bound ps ≡ Some t → variables t ≡ members_variables ps
  unfolding tree_of
  tree_variables_of zero bound ps t h = cc
  tree_variables_of (suc n) bound ps t h =
      single_or ps
      (λ u e. single u e)
      (λ e. only_when (tree_at n bound) (root ps) t (sym (tree_step n bound ps e) ∙ h)
      (λ s r f.
      let o = s.root in
      let split : ps ≡ s.before ++ operator o ∷ s.after = (root_splits (top ps) ps s refl r).members in
      let all : members_variables ps ≡ members_variables s.before ++ members_variables s.after =
      ap (λ (qs : List (Member N)). members_variables qs) split ∙ members-append s.before (operator o ∷ s.after) in
      by_test (leb o.priority bound)
      (λ y. joined_when o.name (is_prefix o.kind) (is_postfix o.kind) (is_empty s.before) (is_empty s.after)
      (tree_of n (left_bound o) s.before) (tree_of n (right_bound o) s.after) t (sym (if_true _ _ _ y) ∙ f)
      (λ k z v g i.
      ap (λ (x : Term N). variables x) i
      ∙ (append-nil (variables v)
      ∙ (tree_variables_of n (right_bound o) s.after v g
      ∙ (ap (λ (vs : List ℕ). vs ++ members_variables s.after) (none_there s.before z) ∙ sym all))))
      (λ p k z u g i.
      ap (λ (x : Term N). variables x) i
      ∙ (ap (λ (vs : List ℕ). variables u ++ vs) (none_there s.after z)
      ∙ (ap (λ (vs : List ℕ). vs ++ members_variables s.after) (tree_variables_of n (left_bound o) s.before u g) ∙ sym all)))
      (λ p k u g v w i.
      ap (λ (x : Term N). variables x) i
      ∙ (ap (λ (vs : List ℕ). variables u ++ vs) (append-nil (variables v) ∙ tree_variables_of n (right_bound o) s.after v w)
      ∙ (ap (λ (vs : List ℕ). vs ++ members_variables s.after) (tree_variables_of n (left_bound o) s.before u g) ∙ sym all))))
      (λ y. let j : None ≡ Some t = sym (if_false _ _ _ y) ∙ f in cc)))
    where
      single : (u : Term N) → ps ≡ operand u ∷ [] → variables t ≡ members_variables ps
      single u e =
          let i : Some u ≡ Some t = sym (tree_single n bound u) ∙ (sym (ap (λ (qs : List (Member N)). tree_of (suc n) bound qs) e) ∙ h) in
          let j : u ≡ t = cc in
          ap (λ (x : Term N). variables x) (sym j)
          ∙ (sym (append-nil (variables u)) ∙ sym (ap (λ (qs : List (Member N)). members_variables qs) e))

  pub tree_variables : (bound : ℕ) (ps : List (Member N)) (t : Term N) → tree bound ps ≡ Some t → variables t ≡ members_variables ps
  tree_variables bound ps t h = tree_variables_of (length ps) bound ps t h
