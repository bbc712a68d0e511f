-- The variables of the words of a clause, and of the rows that they make up.
use Rattle.std.proofs.Common.{◌≡◌, ℕ, Bool, true, false, cond, List, [], ◌∷◌, ◌++◌, refl, ap, sym, ◌∙◌, subst, append_assoc}
use Rattle.std.specs.Prelude.{Result, Ok, Err}
use Rattle.std.proofs.lemmas.List.{append-nil}
use Rattle.op_term.specs.Ops.{is_infix}
use Rattle.op_reader.specs.declared.bracket.Bracket.{Bracket}
use Rattle.op_reader.specs.declared.row_kind.RowKind.{RowKind}
use Rattle.op_reader.specs.declared.row_kind.RowKind.TheVariants.{Clause, Arguments, Elements, Last}
use Rattle.op_reader.specs.Row.{Operator}
use Rattle.op_reader.specs.Words.{AsOperand, functor, minus, prefix, plain, excess, AsOperator, joins, misplaced, Word, opened, closed}
use Rattle.op_reader.specs.Words.{comma, bar, word}
use Rattle.op_reader.specs.Roles.{Parts, none, single, enclosed, Level, Levels, levels_of, with_word, with_opening, Rows, done}
use Rattle.op_reader.specs.Roles.{separator, tail, operator, operand, too_great, compound, bracketed, inside, Expected, an_operand}
use Rattle.op_reader.specs.Roles.{an_operator, arguments_of, a_number, behind_operator, on_rows, on_both, roles, clause_roles}
use Rattle.op_reader.specs.Variables.{variables}
use Rattle.op_reader.proofs.RowsVariables.{StandIn, rows_variables}

-- the result of two parts, and of one
rows_when : {N P : Type 0} (f : Rows N → Rows N) (o : Result (Rows N) ℕ) (rs : Rows N) → on_rows f o ≡ Ok rs →
    ((qs : Rows N) → o ≡ Ok qs → f qs ≡ rs → P) → P
rows_when f (Ok qs) rs h k = k qs refl (let i : Ok (f qs) ≡ Ok rs = h in cc)
rows_when f (Err place) rs h k = cc

both_when : {N P : Type 0} (f : Rows N → Rows N → Rows N) (o q : Result (Rows N) ℕ) (rs : Rows N) → on_both f o q ≡ Ok rs →
    ((ps qs : Rows N) → o ≡ Ok ps → q ≡ Ok qs → f ps qs ≡ rs → P) → P
both_when f (Ok ps) (Ok qs) rs h k = k ps qs refl refl (let i : Ok (f ps qs) ≡ Ok rs = h in cc)
both_when f (Ok ps) (Err place) rs h k = cc
both_when f (Err place) q rs h k = cc

module _ {N : Type 0} where
  abbrev pub operand_variables : AsOperand N → List ℕ
  operand_variables (minus t) = variables t
  operand_variables (plain t) = variables t
  operand_variables a = []

  abbrev pub is_sign : AsOperand N → Bool
  is_sign (minus t) = true
  is_sign a = false

  abbrev pub word_variables : Word N → List ℕ
  word_variables (word place a o) = operand_variables a
  word_variables w = []

  -- behind the word stands the number that it makes negative
  abbrev pub needs_number : Word N → Bool
  needs_number (word place a o) = is_sign a
  needs_number w = false

  -- an operator has no variables
  abbrev pub OperatorIsPlain : AsOperand N → AsOperator N → Type 0
  OperatorIsPlain a (joins o) = operand_variables a ≡ []
  OperatorIsPlain a misplaced = Unit {0}

  abbrev pub IsPlainWord : Word N → Type 0
  IsPlainWord (word place a o) = OperatorIsPlain a o
  IsPlainWord w = Unit {0}

  abbrev pub words_variables : List (Word N) → List ℕ
  words_variables [] = []
  words_variables (w ∷ ws) = word_variables w ++ words_variables ws

  -- the first word has no variables
  abbrev pub BeginsPlain : List (Word N) → Type 0
  BeginsPlain [] = Unit {0}
  BeginsPlain (w ∷ ws) = word_variables w ≡ []

  abbrev pub ArePlain : List (Word N) → Type 0
  ArePlain [] = Unit {0}
  ArePlain (w ∷ ws) = IsPlainWord w × (needs_number w ≡ true → BeginsPlain ws) × ArePlain ws

  -- the same of parts
  abbrev parts_variables : Parts N → List ℕ
  parts_variables none = []
  parts_variables (single w ps) = word_variables w ++ parts_variables ps
  parts_variables (enclosed place b ps end qs) = parts_variables ps ++ parts_variables qs

  abbrev PartsBeginPlain : Parts N → Type 0
  PartsBeginPlain (single w ps) = word_variables w ≡ []
  PartsBeginPlain ps = Unit {0}

  abbrev PartsArePlain : Parts N → Type 0
  PartsArePlain none = Unit {0}
  PartsArePlain (single w ps) = IsPlainWord w × (needs_number w ≡ true → PartsBeginPlain ps) × PartsArePlain ps
  PartsArePlain (enclosed place b ps end qs) = PartsArePlain ps × PartsArePlain qs

  -- and of levels
  abbrev outer_variables : List (Level N) → List ℕ
  outer_variables [] = []
  outer_variables (l ∷ ls) = parts_variables l.parts ++ outer_variables ls

  abbrev OuterArePlain : List (Level N) → Type 0
  OuterArePlain [] = Unit {0}
  OuterArePlain (l ∷ ls) = PartsArePlain l.parts × OuterArePlain ls

  record IsLevels (ws : List (Word N)) (l : Levels N) : Type 0 where
    all : parts_variables l.inner.parts ++ outer_variables l.outer ≡ words_variables ws
    begins : BeginsPlain ws → PartsBeginPlain l.inner.parts
    inner : PartsArePlain l.inner.parts
    outer : OuterArePlain l.outer

  opened_levels : (place : ℕ) (b : Bracket) (ws : List (Word N)) (l : Level N) (ls : List (Level N)) →
      IsLevels ws (record { inner = l; outer = ls }) →
      IsLevels (opened place b ∷ ws) (with_opening place b l ls)
  opened_levels place b ws l [] h = record {
    all = append-nil (parts_variables l.parts ++ []) ∙ h.all;
    begins = λ _. tt;
    inner = (h.inner, tt);
    outer = tt;
  }
  opened_levels place b ws l (o ∷ os) h = record {
    all = append_assoc (parts_variables l.parts) (parts_variables o.parts) (outer_variables os) ∙ h.all;
    begins = λ _. tt;
    inner = (h.inner, h.outer.0);
    outer = h.outer.1;
  }

  word_levels : (w : Word N) (ws : List (Word N)) (l : Levels N) → IsPlainWord w → (needs_number w ≡ true → BeginsPlain ws) →
      IsLevels ws l → IsLevels (w ∷ ws) (with_word w l)
  word_levels (opened place b) ws l p n h = opened_levels place b ws l.inner l.outer h
  word_levels (closed place) ws l p n h = record { all = h.all; begins = λ _. tt; inner = tt; outer = (h.inner, h.outer) }
  word_levels (comma place o) ws l p n h =
      record { all = h.all; begins = λ _. refl; inner = (tt, (λ e. absurd (cc)), h.inner); outer = h.outer }
  word_levels (bar place) ws l p n h =
      record { all = h.all; begins = λ _. refl; inner = (tt, (λ e. absurd (cc)), h.inner); outer = h.outer }
  word_levels (word place a o) ws l p n h = record {
    all = append_assoc (operand_variables a) (parts_variables l.inner.parts) (outer_variables l.outer)
        ∙ ap (λ (vs : List ℕ). operand_variables a ++ vs) h.all;
    begins = λ e. e;
    inner = (p, (λ e. h.begins (n e)), h.inner);
    outer = h.outer;
  }

  levels : (stop : ℕ) (ws : List (Word N)) → ArePlain ws → IsLevels ws (levels_of stop ws)
  levels stop [] h = record { all = refl; begins = λ _. tt; inner = tt; outer = tt }
  levels stop (w ∷ ws) h = word_levels w ws (levels_of stop ws) h.0 h.1 (levels stop ws h.2)

  -- what is expected
  abbrev IsReady : Expected N → Parts N → Type 0
  IsReady a_number ps = PartsBeginPlain ps
  IsReady e ps = Unit {0}

  operator_ready : (o : Operator N) (b : Bool) (ps : Parts N) → IsReady (cond b an_operand an_operator) ps
  operator_ready o true ps = tt
  operator_ready o false ps = tt

  abbrev HaveRows : RowKind → Parts N → Rows N → Type 0
  HaveRows c ps rs = StandIn c rs × (rows_variables rs ≡ parts_variables ps)

  have_rows : (c : RowKind) (ps : Parts N) (qs rs : Rows N) → qs ≡ rs → StandIn c qs → rows_variables qs ≡ parts_variables ps →
      HaveRows c ps rs
  have_rows c ps qs rs e s v = subst (HaveRows c ps) e (s, v)

  role : (c : RowKind) (e : Expected N) (ps : Parts N) (stop : ℕ) (rs : Rows N) → PartsArePlain ps → IsReady e ps →
      roles c e ps stop ≡ Ok rs → HaveRows c ps rs
  role c an_operator none stop rs p r h = have_rows c none done rs (let i : Ok done ≡ Ok rs = h in cc) tt refl
  role c e none stop rs p r h = cc
  role c an_operand (single (word place (functor f) o) ps) stop rs p r h = role c (arguments_of f) ps stop rs p.2 tt h
  role c an_operand (single (word place (minus t) o) ps) stop rs p r h =
      rows_when (operand t) (roles c a_number ps stop) rs h
      (λ qs e f. let i = role c a_number ps stop qs p.2 (p.1 refl) e in
      have_rows c (single (word place (minus t) o) ps) (operand t qs) rs f i.0 (ap (λ (vs : List ℕ). variables t ++ vs) i.1))
  role c an_operand (single (word place (prefix q) o) ps) stop rs p r h =
      rows_when (operator q) (roles c an_operand ps stop) rs h
      (λ qs e f. let i = role c an_operand ps stop qs p.2 tt e in
      have_rows c (single (word place (prefix q) o) ps) (operator q qs) rs f i.0 i.1)
  role c an_operand (single (word place (plain t) o) ps) stop rs p r h =
      rows_when (operand t) (roles c an_operator ps stop) rs h
      (λ qs e f. let i = role c an_operator ps stop qs p.2 tt e in
      have_rows c (single (word place (plain t) o) ps) (operand t qs) rs f i.0 (ap (λ (vs : List ℕ). variables t ++ vs) i.1))
  role c an_operand (single (word place excess o) ps) stop rs p r h =
      rows_when (too_great place) (roles c an_operator ps stop) rs h
      (λ qs e f. let i = role c an_operator ps stop qs p.2 tt e in
      have_rows c (single (word place excess o) ps) (too_great place qs) rs f i.0 i.1)
  role c an_operand (enclosed place b ps end qs) stop rs p r h =
      both_when (bracketed b) (roles (inside b) an_operand ps end) (roles c an_operator qs stop) rs h
      (λ x y e f g. let i = role (inside b) an_operand ps end x p.0 tt e in
      let j = role c an_operator qs stop y p.1 tt f in
      have_rows c (enclosed place b ps end qs) (bracketed b x y) rs g (i.0, j.0)
      (ap (λ (vs : List ℕ). vs ++ rows_variables y) i.1 ∙ ap (λ (vs : List ℕ). parts_variables ps ++ vs) j.1))
  role c an_operator (single (word place a (joins o)) ps) stop rs p r h =
      rows_when (operator o) (roles c (behind_operator o) ps stop) rs h
      (λ qs e f. let i = role c (behind_operator o) ps stop qs p.2 (operator_ready o (is_infix o.kind) ps) e in
      have_rows c (single (word place a (joins o)) ps) (operator o qs) rs f i.0
      (i.1 ∙ sym (ap (λ (vs : List ℕ). vs ++ parts_variables ps) p.0)))
  role Clause an_operator (single (comma place (joins o)) ps) stop rs p r h =
      rows_when (operator o) (roles Clause (behind_operator o) ps stop) rs h
      (λ qs e f. let i = role Clause (behind_operator o) ps stop qs p.2 (operator_ready o (is_infix o.kind) ps) e in
      have_rows Clause (single (comma place (joins o)) ps) (operator o qs) rs f i.0 i.1)
  role Arguments an_operator (single (comma place o) ps) stop rs p r h =
      rows_when separator (roles Arguments an_operand ps stop) rs h
      (λ qs e f. let i = role Arguments an_operand ps stop qs p.2 tt e in
      have_rows Arguments (single (comma place o) ps) (separator qs) rs f (refl, i.0) i.1)
  role Elements an_operator (single (comma place o) ps) stop rs p r h =
      rows_when separator (roles Elements an_operand ps stop) rs h
      (λ qs e f. let i = role Elements an_operand ps stop qs p.2 tt e in
      have_rows Elements (single (comma place o) ps) (separator qs) rs f (refl, i.0) i.1)
  role Elements an_operator (single (bar place) ps) stop rs p r h =
      rows_when tail (roles Last an_operand ps stop) rs h
      (λ qs e f. let i = role Last an_operand ps stop qs p.2 tt e in
      have_rows Elements (single (bar place) ps) (tail qs) rs f (refl, i.0) i.1)
  role c (arguments_of f) (enclosed place b ps end qs) stop rs p r h =
      both_when (compound f) (roles Arguments an_operand ps end) (roles c an_operator qs stop) rs h
      (λ x y e g k. let i = role Arguments an_operand ps end x p.0 tt e in
      let j = role c an_operator qs stop y p.1 tt g in
      have_rows c (enclosed place b ps end qs) (compound f x y) rs k (i.0, j.0)
      (ap (λ (vs : List ℕ). vs ++ rows_variables y) i.1 ∙ ap (λ (vs : List ℕ). parts_variables ps ++ vs) j.1))
  role c a_number (single w ps) stop rs p r h =
      let i = role c an_operator ps stop rs p.2 tt h in (i.0, i.1 ∙ sym (ap (λ (vs : List ℕ). vs ++ parts_variables ps) r))
  role c e (single w ps) stop rs p r h = cc
  role c e (enclosed place b ps end qs) stop rs p r h = cc

  pub clause_variables : (stop : ℕ) (ws : List (Word N)) (rs : Rows N) → ArePlain ws → (levels_of stop ws).outer ≡ [] →
      clause_roles stop ws ≡ Ok rs →
      StandIn Clause rs × (rows_variables rs ≡ words_variables ws)
  clause_variables stop ws rs h outer e =
      let l = (levels_of stop ws).inner in
      let is = levels stop ws h in
      let i = role Clause an_operand l.parts l.stop rs is.inner tt e in (
        i.0,
        i.1 ∙ (sym (append-nil (parts_variables l.parts))
            ∙ (ap (λ (os : List (Level N)). parts_variables l.parts ++ outer_variables os) (sym outer) ∙ is.all)),
      )
