-- The lexemes of a written term are words of an operand, whose row is that of the term.
use Rattle.std.proofs.Common.{◌≡◌, ◌≤◌, ◌+◌, ℕ, Bool, true, false, not, cond, ◌||◌, List, [], ◌∷◌, ◌++◌, Option, Some, None, refl, sym, ◌∙◌}
use Rattle.std.proofs.Common.{ap, subst, arith, IfSome}
use Rattle.std.specs.Prelude.{codes}
use Rattle.std.specs.Str.{bytes_eq}
use Rattle.std.proofs.lemmas.List.{append_assoc}
use Rattle.std.proofs.lemmas.Slice.Eq.{bytes_eq-Decides}
use Rattle.op_logic.proofs.BoolCases.{by_test, if_true, if_false}
use Rattle.op_logic.specs.Term.{Term}
use Rattle.op_term.specs.Ops.{Table, IsTable, IsMeaning, prefix_in, infix_in, postfix_in, is_infix, is_postfix}
use Rattle.op_term.specs.declared.ops.OpKind.{OpKind}
use Rattle.op_term.specs.declared.ops.OpKind.TheVariants.{Xfx, Xfy, Yfx, Fy, Fx, Xf, Yf}
use Rattle.op_term.specs.declared.ops.Meaning.{Meaning}
use Rattle.op_reader.specs.declared.row_kind.RowKind.{RowKind}
use Rattle.op_reader.specs.declared.row_kind.RowKind.TheVariants.{Clause, Arguments, Elements, Last}
use Rattle.op_reader.specs.Row.{Member, operator as an_op, tree}
use Rattle.op_reader.specs.Words.{operator_of}
use Rattle.op_writer.specs.declared.style.Style.TheVariants.{Quoted}
use Rattle.op_writer.specs.declared.bound.Bound.{Bound}
use Rattle.op_writer.specs.declared.bound.Bound.TheVariants.{Operand}
use Rattle.op_writer.specs.declared.edge.Edge.{Edge}
use Rattle.op_writer.specs.declared.edge.Edge.TheVariants.{Other}
use Rattle.op_writer.specs.Spelling.{is_symbolic, name_text}
use Rattle.op_writer.specs.Text.{left_of, right_of, is_operand}
use Rattle.op_readback.proofs.Lexemes.{Lexeme, sign, name, in_brackets, infix_lexemes, prefix_lexemes}
use Rattle.op_readback.specs.Rows.{limit, alone}
use Rattle.op_readback.proofs.RowRoots.{left-cases, right-cases}
use Rattle.op_readback.proofs.LexemeTokens.{Known, tokens}
use Rattle.op_readback.proofs.FirstWords.{Follows, follow-sign, follow-name, Begins}
use Rattle.op_readback.proofs.OperandRoles.{Taken, filled, infix-taken, prefix-taken, postfix-taken}
use Rattle.op_readback.proofs.BracketWords.{closed-round, round-taken}
use Rattle.op_readback.proofs.OperatorWords.{infix-link, prefix-link, postfix-link, postfix-tight}

abbrev Text : Type 0
Text = List ℕ

-- rows within 999 stand anywhere, others in clauses
abbrev pub Suits : RowKind → ℕ → Type 0
Suits Clause p = Unit {0}
Suits Arguments p = p ≤ 999
Suits Elements p = p ≤ 999
Suits Last p = p ≤ 999

pub suits-weak : (c : RowKind) (p q : ℕ) → q ≤ p → Suits c p → Suits c q
suits-weak Clause p q h s = tt
suits-weak Arguments p q h s = omega (arith, h, s)
suits-weak Elements p q h s = omega (arith, h, s)
suits-weak Last p q h s = omega (arith, h, s)

suits-comma : (c : RowKind) (p : ℕ) → p ≡ 1000 → Suits c p → c ≡ Clause
suits-comma Clause p e s = refl
suits-comma Arguments p e s = absurd (omega (arith, e, s))
suits-comma Elements p e s = absurd (omega (arith, e, s))
suits-comma Last p e s = absurd (omega (arith, e, s))

pub left-operand : (m : Meaning) → (is_operand (left_of m) ≡ true) × (limit (left_of m) ≤ m.priority)
left-operand m =
    left-cases m (λ e q. subst (λ (b : Bound). (is_operand b ≡ true) × (limit b ≤ m.priority)) (sym q) (refl, omega arith))
    (λ e q. subst (λ (b : Bound). (is_operand b ≡ true) × (limit b ≤ m.priority)) (sym q) (refl, omega arith))

right-operand : (m : Meaning) → (is_operand (right_of m) ≡ true) × (limit (right_of m) ≤ m.priority)
right-operand m =
    right-cases m (λ e q. subst (λ (b : Bound). (is_operand b ≡ true) × (limit b ≤ m.priority)) (sym q) (refl, omega arith))
    (λ e q. subst (λ (b : Bound). (is_operand b ≡ true) × (limit b ≤ m.priority)) (sym q) (refl, omega arith))

module _ (ops : Table) (table : IsTable ops) (n : ℕ) where
  abbrev T : ℕ → Edge → Bool → List Lexeme → List Known
  T = tokens

  -- what stands behind an operand, by any text that ends in one
  abbrev pub Behind : Bound → List Lexeme → Type 0
  Behind bound ns = (at : ℕ) (e : Edge) → Follows ops bound (T at e false ns)

  as-operand : (b d : Bound) (ns : List Lexeme) → is_operand d ≡ true → Behind b ns → Behind d ns
  as-operand b d ns o h at e = ((h at e).0, (h at e).1, (λ k. absurd (let z : true ≡ false = sym o ∙ k in cc)))

  pub begins-operand : (b d : Bound) (e : Edge) (l : Bool) (ks : List Known) → is_operand b ≡ true
      → Begins ops b e l ks → Begins ops d e l ks
  begins-operand b d e l ks o h =
      record {
        square = h.square;
        curly = h.curly;
        laid = h.laid;
        set = h.set;
        laid_digit = h.laid_digit;
        set_digit = h.set_digit;
        alone = λ k. h.alone o;
      }

  -- an operand's words, from any text that ends before it
  abbrev pub Takes : RowKind → List Lexeme → List Lexeme → List (Member Text) → Type 0
  Takes c xs ns row = (at : ℕ) (e : Edge) (l : Bool) → Taken ops n c (T at e l (xs ++ ns)) ns row

  -- in brackets where it doesn't fit
  pub boxed : (t : Term Text) (xs : List Lexeme) (row : List (Member Text)) (p : ℕ) (b : Bool) (bound : Bound) (c : RowKind)
      → ((c : RowKind) → Suits c p → (ns : List Lexeme) → Behind (Operand 0) ns → Takes c xs ns row)
      → (b ≡ true → Suits c p) → tree 1200 row ≡ Some t → (ns : List Lexeme) → Behind bound ns
      → Takes c (in_brackets (not b) xs) ns (cond b row (alone t))
  boxed t xs row p true bound c core s h ns f at e l = core c (s refl) ns (as-operand bound (Operand 0) ns refl f) at e l
  boxed t xs row p false bound c core s h ns f at e l =
      subst (λ (ms : List Lexeme). Taken ops n c (T at e l (sign 40 ∷ ms)) ns (alone t)) (sym (append_assoc xs (sign 41 ∷ []) ns))
      (round-taken ops n c (xs ++ sign 41 ∷ ns) ns row [] None t h
      (λ at1 e1. let a = core Clause tt (sign 41 ∷ ns) (λ at e. follow-sign ops 41 refl refl ns (Operand 0) at e false) at1 e1 false in
      filled ops n Clause (T at1 e1 false (xs ++ sign 41 ∷ ns)) (sign 41 ∷ ns) ns row [] None a
      (closed-round ops n Clause ns a.after a.edge false)) at e l)

  infix-behind : (f : Text) (ms : List Lexeme) (bound : Bound) → is_operand bound ≡ true → Behind bound (infix_lexemes f ++ ms)
  infix-behind f ms bound o at e = by_test (bytes_eq f (codes ","))
      (λ b. subst (λ (xs : List Lexeme). Follows ops bound (T at e false (xs ++ ms))) (sym (if_true (bytes_eq f (codes ",")) _ _ b))
      (follow-sign ops 44 refl refl ms bound at e false))
      (λ b. subst (λ (xs : List Lexeme). Follows ops bound (T at e false (xs ++ ms))) (sym (if_false (bytes_eq f (codes ",")) _ _ b))
      (by_test (bytes_eq f (codes ";") || is_symbolic (name_text Quoted f))
      (λ s. subst (λ (xs : List Lexeme). Follows ops bound (T at e false (xs ++ ms)))
      (sym (if_true (bytes_eq f (codes ";") || is_symbolic (name_text Quoted f)) _ _ s)) (follow-name ops f ms bound o at e false))
      (λ s. subst (λ (xs : List Lexeme). Follows ops bound (T at e false (xs ++ ms)))
      (sym (if_false (bytes_eq f (codes ";") || is_symbolic (name_text Quoted f)) _ _ s))
      (follow-name ops f (sign 32 ∷ ms) bound o (at + 1) Other true))))

  comma-priority : (f : Text) (m : Meaning) → infix_in ops f ≡ Some m → bytes_eq f (codes ",") ≡ true → m.priority ≡ 1000
  comma-priority f m h b =
      let q : Some m ≡ infix_in ops (codes ",") = sym h ∙ ap (infix_in ops) ((bytes_eq-Decides f (codes ",")).0 b) in
      ap (λ (o : Option Meaning). elim o as (λ _. ℕ) [ Some m ↦ m.priority | None ↦ 0 ]) (q ∙ ap (λ r. r.as_infix) table.comma)

  -- an infix operator and its operands
  pub infix-core : (f : Text) (m : Meaning) → infix_in ops f ≡ Some m → (xs ys : List Lexeme) (ra rb : List (Member Text))
      → ((c : RowKind) → Suits c (limit (left_of m)) → (ns : List Lexeme) → Behind (left_of m) ns → Takes c xs ns ra)
      → ((c : RowKind) → Suits c (limit (right_of m)) → (ns : List Lexeme) → Behind (right_of m) ns → Takes c ys ns rb)
      → (c : RowKind) → Suits c m.priority → (ns : List Lexeme) → Behind (Operand 0) ns
      → Takes c (xs ++ (infix_lexemes f ++ ys)) ns (ra ++ an_op (operator_of f m) ∷ rb)
  infix-core f m h xs ys ra rb ta tb c s ns b at e l =
      let k : IsMeaning is_infix m = subst (λ (o : Option Meaning). IfSome o (IsMeaning is_infix)) h (table.infixes f) in
      let lo = left-operand m in let ro = right-operand m in
      let a = ta c (suits-weak c m.priority (limit (left_of m)) lo.1 s) (infix_lexemes f ++ (ys ++ ns)) (infix-behind f (ys ++ ns)
      (left_of m) lo.0) at e l in
      subst (λ (ms : List Lexeme). Taken ops n c (T at e l ms) ns (ra ++ an_op (operator_of f m) ∷ rb))
      (sym (append_assoc xs (infix_lexemes f ++ ys) ns ∙ ap (λ (ms : List Lexeme). xs ++ ms) (append_assoc (infix_lexemes f) ys ns)))
      (infix-taken ops n c (operator_of f m) (T at e l (xs ++ (infix_lexemes f ++ (ys ++ ns))))
      (infix_lexemes f ++ (ys ++ ns)) (ys ++ ns) ns ra rb a
      (infix-link ops table n c f m h k.0 (λ q. suits-comma c m.priority (comma-priority f m h q) s) (ys ++ ns) a.after a.edge false)
      (tb c (suits-weak c m.priority (limit (right_of m)) ro.1 s) ns (as-operand (Operand 0) (right_of m) ns ro.0 b)))

  -- a prefix operator and its operand
  pub prefix-core : (f : Text) (m : Meaning) → prefix_in ops f ≡ Some m → (ys : List Lexeme) (rb : List (Member Text))
      → ((ns : List Lexeme) (at : ℕ) (e : Edge) (l : Bool) → Begins ops (right_of m) e l (T at e l (ys ++ ns)))
      → ((c : RowKind) → Suits c (limit (right_of m)) → (ns : List Lexeme) → Behind (right_of m) ns → Takes c ys ns rb)
      → (c : RowKind) → Suits c m.priority → (ns : List Lexeme) → Behind (Operand 0) ns
      → Takes c (prefix_lexemes f ++ ys) ns (an_op (operator_of f m) ∷ rb)
  prefix-core f m h ys rb bb tb c s ns b at e l =
      let ro = right-operand m in
      subst (λ (ms : List Lexeme). Taken ops n c (T at e l ms) ns (an_op (operator_of f m) ∷ rb))
      (sym (append_assoc (prefix_lexemes f) ys ns))
      (prefix-taken ops n c (operator_of f m) (T at e l (prefix_lexemes f ++ (ys ++ ns))) (ys ++ ns) ns rb
      (prefix-link ops table n c f m (right_of m) h ro.0 (ys ++ ns) (bb ns) at e l)
      (tb c (suits-weak c m.priority (limit (right_of m)) ro.1 s) ns (as-operand (Operand 0) (right_of m) ns ro.0 b)))

  postfix-infix : (m : Meaning) → is_postfix m.kind ≡ true → is_infix m.kind ≡ false
  postfix-infix m h = by m.kind h
    where
      by : (k : OpKind) → is_postfix k ≡ true → is_infix k ≡ false
      by Xf h = refl
      by Yf h = refl
      by Xfx h = absurd (let z : false ≡ true = h in cc)
      by Xfy h = absurd (let z : false ≡ true = h in cc)
      by Yfx h = absurd (let z : false ≡ true = h in cc)
      by Fy h = absurd (let z : false ≡ true = h in cc)
      by Fx h = absurd (let z : false ≡ true = h in cc)

  -- an operand and its postfix operator
  pub postfix-core : (f : Text) (m : Meaning) → postfix_in ops f ≡ Some m → (xs : List Lexeme) (ra : List (Member Text))
      → ((c : RowKind) → Suits c (limit (left_of m)) → (ns : List Lexeme) → Behind (left_of m) ns → Takes c xs ns ra)
      → (c : RowKind) → Suits c m.priority → (ns : List Lexeme) → Behind (Operand 0) ns
      → Takes c (xs ++ (sign 32 ∷ name f ∷ [])) ns (ra ++ an_op (operator_of f m) ∷ [])
  postfix-core f m h xs ra ta c s ns b at e l =
      let k : IsMeaning is_postfix m = subst (λ (o : Option Meaning). IfSome o (IsMeaning is_postfix)) h (table.postfixes f) in
      let i = postfix-infix m k.0 in
      let lo = left-operand m in
      let a = ta c (suits-weak c m.priority (limit (left_of m)) lo.1 s) (sign 32 ∷ name f ∷ ns) (λ at e. follow-name ops f ns
      (left_of m) lo.0 (at + 1) Other true) at e l in
      subst (λ (ms : List Lexeme). Taken ops n c (T at e l ms) ns (ra ++ an_op (operator_of f m) ∷ []))
      (sym (append_assoc xs (sign 32 ∷ name f ∷ []) ns))
      (postfix-taken ops n c (operator_of f m) (T at e l (xs ++ (sign 32 ∷ name f ∷ ns))) (sign 32 ∷ name f ∷ ns) ns ra a
      (postfix-link ops table n c f m h i ns a.after a.edge false) (postfix-tight ops table n c f m h i ns a.after a.edge false))
