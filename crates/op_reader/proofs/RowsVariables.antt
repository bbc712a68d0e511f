-- The variables of rows with their roles, and of the term that they are read as.
use Rattle.std.proofs.Common.{◌≡◌, ℕ, Bool, true, false, List, [], ◌∷◌, ◌++◌, Option, Some, None, refl, ap, sym, ◌∙◌, subst, append_assoc}
use Rattle.std.specs.Prelude.{pos, unwrap_or}
use Rattle.std.specs.Option.{option_map, option_and_then}
use Rattle.std.proofs.lemmas.List.{append-nil}
use Rattle.op_logic.specs.Term.{Term, int, node, atom, no_args, arg}
use Rattle.op_reader.specs.declared.bracket.Bracket.{Bracket}
use Rattle.op_reader.specs.declared.bracket.Bracket.TheVariants.{Round, Square, Curly}
use Rattle.op_reader.specs.declared.row_kind.RowKind.{RowKind}
use Rattle.op_reader.specs.declared.row_kind.RowKind.TheVariants.{Clause, Arguments, Elements, Last}
use Rattle.op_reader.specs.Row.{Member, operand as an_operand, operator as an_operator, tree}
use Rattle.op_reader.specs.Words.{list_of}
use Rattle.op_reader.specs.Roles.{Rows, done, separator, tail, operator, operand, too_great, compound, bracketed, inside}
use Rattle.op_reader.specs.Terms.{Known, ReadRows, with_member, args_of, separated, tailed}
use Rattle.op_reader.specs.Terms.{compound_of, bracketed_of, as_operand, read_rows}
use Rattle.op_reader.specs.Terms.{term_of}
use Rattle.op_reader.specs.Variables.{variables, args_variables}
use Rattle.op_reader.proofs.AddedOperators.{only_when, map_some}
use Rattle.op_reader.proofs.TreeVariables.{members_variables, tree_variables}

-- where rows may stand behind the first, and where a list's tail may
abbrev pub has_more : RowKind → Bool
has_more Arguments = true
has_more Elements = true
has_more c = false

abbrev pub has_tail : RowKind → Bool
has_tail Elements = true
has_tail c = false

some_is : {A : Type 0} (x y : A) → Some x ≡ Some y → x ≡ y
some_is x y h = cc

module _ {N : Type 0} where
  -- rows as they stand in a clause, among arguments, among elements, or as a list's tail
  abbrev pub StandIn : RowKind → Rows N → Type 0
  StandIn c done = Unit {0}
  StandIn c (separator rs) = (has_more c ≡ true) × StandIn c rs
  StandIn c (tail rs) = (has_tail c ≡ true) × StandIn Last rs
  StandIn c (operator o rs) = StandIn c rs
  StandIn c (operand t rs) = StandIn c rs
  StandIn c (too_great place rs) = StandIn c rs
  StandIn c (compound f inner rs) = StandIn Arguments inner × StandIn c rs
  StandIn c (bracketed b inner rs) = StandIn (inside b) inner × StandIn c rs

  abbrev pub rows_variables : Rows N → List ℕ
  rows_variables done = []
  rows_variables (separator rs) = rows_variables rs
  rows_variables (tail rs) = rows_variables rs
  rows_variables (operator o rs) = rows_variables rs
  rows_variables (operand t rs) = variables t ++ rows_variables rs
  rows_variables (too_great place rs) = rows_variables rs
  rows_variables (compound f inner rs) = rows_variables inner ++ rows_variables rs
  rows_variables (bracketed b inner rs) = rows_variables inner ++ rows_variables rs

  -- terms in a list
  abbrev pub terms_variables : List (Term N) → List ℕ
  terms_variables [] = []
  terms_variables (t ∷ ts) = variables t ++ terms_variables ts

  abbrev tail_variables : Option (Term N) → List ℕ
  tail_variables None = []
  tail_variables (Some t) = variables t

  args_are_terms : (ts : List (Term N)) → args_variables (args_of ts) ≡ terms_variables ts
  args_are_terms [] = refl
  args_are_terms (t ∷ ts) = ap (λ (vs : List ℕ). variables t ++ vs) (args_are_terms ts)

  pub list_variables : (dot : N) (end : Term N) (ts : List (Term N)) → variables (list_of dot end ts) ≡ terms_variables ts ++ variables end
  list_variables dot end [] = refl
  list_variables dot end (t ∷ ts) =
      ap (λ (vs : List ℕ). variables t ++ vs) (append-nil (variables (list_of dot end ts)) ∙ list_variables dot end ts)
      ∙ sym (append_assoc (variables t) (terms_variables ts) (variables end))

  end_variables : (nil : N) (o : Option (Term N)) → variables (unwrap_or o (atom nil)) ≡ tail_variables o
  end_variables nil None = refl
  end_variables nil (Some t) = refl

  -- what was read
  abbrev read_variables : ReadRows N → List ℕ
  read_variables r = members_variables r.row ++ (terms_variables r.rest ++ tail_variables r.tail)

  record IsRead (c : RowKind) (rs : Rows N) (r : ReadRows N) : Type 0 where
    all : read_variables r ≡ rows_variables rs
    rest : has_more c ≡ false → r.rest ≡ []
    tail : has_tail c ≡ false → r.tail ≡ None

  read_same : (c : RowKind) (rs : Rows N) (q r : ReadRows N) → q ≡ r → IsRead c rs q → IsRead c rs r
  read_same c rs q r e h = subst (IsRead c rs) e h

  -- a member joins the row
  member_read : (c : RowKind) (rs : Rows N) (p : Member N) (vs : List ℕ) (q r : ReadRows N) → members_variables (p ∷ []) ≡ vs →
      with_member p q ≡ r → IsRead c rs q →
      (qs : Rows N) → rows_variables qs ≡ vs ++ rows_variables rs → IsRead c qs r
  member_read c rs p vs q r v e h qs w =
      read_same c qs (with_member p q) r e record {
        all = members_first p q.row (terms_variables q.rest ++ tail_variables q.tail)
            ∙ (ap (λ (us : List ℕ). us ++ read_variables q) v ∙ (ap (λ (us : List ℕ). vs ++ us) h.all ∙ sym w));
        rest = h.rest;
        tail = h.tail;
      }
    where
      members_first : (p : Member N) (ps : List (Member N)) (us : List ℕ) →
          members_variables (p ∷ ps) ++ us ≡ members_variables (p ∷ []) ++ (members_variables ps ++ us)
      members_first (an_operand t) ps us =
          append_assoc (variables t) (members_variables ps) us
          ∙ ap (λ (ws : List ℕ). ws ++ (members_variables ps ++ us)) (sym (append-nil (variables t)))
      members_first (an_operator o) ps us = refl

  only_row : (c : RowKind) (rs : Rows N) (r : ReadRows N) → has_more c ≡ false → has_tail c ≡ false → IsRead c rs r →
      members_variables r.row ≡ rows_variables rs
  only_row c rs r f g h =
      sym (append-nil (members_variables r.row))
      ∙ (ap (λ (us : List ℕ). members_variables r.row ++ us)
      (sym (ap (λ (ts : List (Term N)). terms_variables ts ++ tail_variables r.tail) (h.rest f) ∙ ap tail_variables (h.tail g)))
      ∙ h.all)

  separated_read : (c : RowKind) (rs : Rows N) (q r : ReadRows N) → has_more c ≡ true → separated q ≡ Some r → IsRead c rs q →
      IsRead c (separator rs) r
  separated_read c rs q r m e h =
      map_some (λ (t : Term N). record { row = []; rest = t ∷ q.rest; tail = q.tail }) (tree 999 q.row) r e
      (λ t f g. read_same c (separator rs) (record { row = []; rest = t ∷ q.rest; tail = q.tail }) r g record {
        all = append_assoc (variables t) (terms_variables q.rest) (tail_variables q.tail)
            ∙ (ap (λ (us : List ℕ). us ++ (terms_variables q.rest ++ tail_variables q.tail)) (tree_variables 999 q.row t f) ∙ h.all);
        rest = λ n. absurd (let z : true ≡ false = sym m ∙ n in cc);
        tail = h.tail;
      })

  tailed_read : (c : RowKind) (rs : Rows N) (q r : ReadRows N) → has_tail c ≡ true → tailed q ≡ Some r → IsRead Last rs q →
      IsRead c (tail rs) r
  tailed_read c rs q r m e h =
      map_some (λ (t : Term N). record { row = []; rest = []; tail = Some t }) (tree 999 q.row) r e
      (λ t f g. read_same c (tail rs) (record { row = []; rest = []; tail = Some t }) r g record {
        all = tree_variables 999 q.row t f ∙ only_row Last rs q refl refl h;
        rest = λ n. refl;
        tail = λ n. absurd (let z : true ≡ false = sym m ∙ n in cc);
      })

  compound_read : (f : N) (rs : Rows N) (q : ReadRows N) (t : Term N) → compound_of f q ≡ Some t → IsRead Arguments rs q →
      variables t ≡ rows_variables rs
  compound_read f rs q t e h =
      map_some (λ (u : Term N). node f (arg u (args_of q.rest))) (tree 999 q.row) t e
      (λ u g i.
      ap (λ (x : Term N). variables x) (sym i)
      ∙ (ap (λ (us : List ℕ). us ++ args_variables (args_of q.rest)) (tree_variables 999 q.row u g)
      ∙ (ap (λ (us : List ℕ). members_variables q.row ++ us)
      (args_are_terms q.rest ∙ (sym (append-nil (terms_variables q.rest))
      ∙ ap (λ (o : Option (Term N)). terms_variables q.rest ++ tail_variables o) (sym (h.tail refl))))
      ∙ h.all)))

  bracketed_read : (k : Known N) (b : Bracket) (rs : Rows N) (q : ReadRows N) (t : Term N) → bracketed_of k b q ≡ Some t →
      IsRead (inside b) rs q → variables t ≡ rows_variables rs
  bracketed_read k Round rs q t e h = tree_variables 1200 q.row t e ∙ only_row Clause rs q refl refl h
  bracketed_read k Square rs q t e h =
      let end = unwrap_or q.tail (atom k.nil) in
      map_some (λ (u : Term N). list_of k.dot end (u ∷ q.rest)) (tree 999 q.row) t e
      (λ u g i.
      ap (λ (x : Term N). variables x) (sym i)
      ∙ (list_variables k.dot end (u ∷ q.rest)
      ∙ (append_assoc (variables u) (terms_variables q.rest) (variables end)
      ∙ (ap (λ (us : List ℕ). us ++ (terms_variables q.rest ++ variables end)) (tree_variables 999 q.row u g)
      ∙ (ap (λ (us : List ℕ). members_variables q.row ++ (terms_variables q.rest ++ us)) (end_variables k.nil q.tail) ∙ h.all)))))
  bracketed_read k Curly rs q t e h =
      map_some (λ (u : Term N). node k.braces (arg u no_args)) (tree 1200 q.row) t e
      (λ u g i. ap (λ (x : Term N). variables x) (sym i)
      ∙ (append-nil (variables u) ∙ (tree_variables 1200 q.row u g ∙ only_row Clause rs q refl refl h)))

  -- a part in brackets is an operand
  part_read : (c : RowKind) (inner rs : Rows N) (o : Option (Term N)) (p : Option (ReadRows N)) (r : ReadRows N) → as_operand o p ≡ Some r →
      ((t : Term N) → o ≡ Some t → variables t ≡ rows_variables inner) → ((q : ReadRows N) → p ≡ Some q → IsRead c rs q) →
      (qs : Rows N) → rows_variables qs ≡ rows_variables inner ++ rows_variables rs → IsRead c qs r
  part_read c inner rs o p r e f g qs w =
      only_when (λ (t : Term N). option_map (with_member (an_operand t)) p) o r e
      (λ t i j. map_some (with_member (an_operand t)) p r j
      (λ q m n. member_read c rs (an_operand t) (rows_variables inner) q r (append-nil (variables t) ∙ f t i) n (g q m) qs w))

  rows_read : (c : RowKind) (k : Known N) (rs : Rows N) (r : ReadRows N) → StandIn c rs → read_rows k rs ≡ Some r → IsRead c rs r
  rows_read c k done r s h =
      read_same c done (record { row = []; rest = []; tail = None }) r
      (some_is _ r h) record { all = refl; rest = λ n. refl; tail = λ n. refl }
  rows_read c k (separator rs) r s h = only_when separated (read_rows k rs) r h
      (λ q e f. separated_read c rs q r s.0 f (rows_read c k rs q s.1 e))
  rows_read c k (tail rs) r s h = only_when tailed (read_rows k rs) r h (λ q e f. tailed_read c rs q r s.0 f (rows_read Last k rs q s.1 e))
  rows_read c k (operator o rs) r s h =
      map_some (with_member (an_operator o)) (read_rows k rs) r h
      (λ q e f. member_read c rs (an_operator o) [] q r refl f (rows_read c k rs q s e) (operator o rs) refl)
  rows_read c k (operand t rs) r s h =
      map_some (with_member (an_operand t)) (read_rows k rs) r h
      (λ q e f. member_read c rs (an_operand t) (variables t) q r (append-nil (variables t)) f (rows_read c k rs q s e) (operand t rs) refl)
  rows_read c k (too_great place rs) r s h =
      map_some (with_member (an_operand (int (pos 0)))) (read_rows k rs) r h
      (λ q e f. member_read c rs (an_operand (int (pos 0))) [] q r refl f (rows_read c k rs q s e) (too_great place rs) refl)
  rows_read c k (compound f inner rs) r s h =
      part_read c inner rs (option_and_then (compound_of f) (read_rows k inner)) (read_rows k rs) r h
      (λ t e. only_when (compound_of f) (read_rows k inner) t e
      (λ q i j. compound_read f inner q t j (rows_read Arguments k inner q s.0 i)))
      (λ q e. rows_read c k rs q s.1 e) (compound f inner rs) refl
  rows_read c k (bracketed b inner rs) r s h =
      part_read c inner rs (option_and_then (bracketed_of k b) (read_rows k inner)) (read_rows k rs) r h
      (λ t e. only_when (bracketed_of k b) (read_rows k inner) t e
      (λ q i j. bracketed_read k b inner q t j (rows_read (inside b) k inner q s.0 i)))
      (λ q e. rows_read c k rs q s.1 e) (bracketed b inner rs) refl

  pub term_variables : (k : Known N) (rs : Rows N) (t : Term N) → StandIn Clause rs → term_of k rs ≡ Some t →
      variables t ≡ rows_variables rs
  term_variables k rs t s h =
      only_when (λ (r : ReadRows N). tree 1200 r.row) (read_rows k rs) t h
      (λ r e f. tree_variables 1200 r.row t f ∙ only_row Clause rs r refl refl (rows_read Clause k rs r s e))
