-- A term that is written with an infix, a postfix or a prefix operator is the operand that its lexemes are read as.
use Rattle.std.proofs.Common.{◌≡◌, ◌≤◌, ℕ, Bool, true, cond, List, [], ◌∷◌, ◌++◌, Option, Some, sym, ◌∙◌, ap, subst, IfSome}
use Rattle.std.specs.Prelude.{nat_le}
use Rattle.std.proofs.lemmas.Bool.{le-leb}
use Rattle.op_logic.proofs.BoolCases.{if_true}
use Rattle.op_logic.specs.Term.{Term, node, no_args, arg}
use Rattle.op_term.specs.Ops.{Table, IsTable, IsMeaning, is_prefix, is_infix, is_postfix}
use Rattle.op_term.specs.declared.ops.Meaning.{Meaning}
use Rattle.op_reader.specs.declared.row_kind.RowKind.{RowKind}
use Rattle.op_reader.specs.Row.{Member, tree, operator as an_op}
use Rattle.op_writer.specs.declared.style.Style.{Style}
use Rattle.op_writer.specs.declared.bound.Bound.{Bound}
use Rattle.op_writer.specs.declared.bound.Bound.TheVariants.{Whole}
use Rattle.op_writer.specs.declared.notation.Notation.TheVariants.{Infix, Prefix, Postfix}
use Rattle.op_writer.specs.declared.edge.Edge.{Edge}
use Rattle.op_writer.specs.Text.{within, fits, left_of, right_of, notation_of}
use Rattle.op_readback.proofs.Lexemes.{Lexeme, sign, name, infix_lexemes, prefix_lexemes, compound_lexemes, lexemes_of}
use Rattle.op_readback.specs.Rows.{limit, row_of, notation_row, alone, operator_of}
use Rattle.op_readback.proofs.RowRoots.{allowed-limit, fits-allowed}
use Rattle.op_readback.proofs.RowTrees.{rows-are-terms, notation-infix, notation-prefix, notation-postfix}
use Rattle.op_readback.proofs.LexemeTokens.{Known, tokens}
use Rattle.op_readback.proofs.FirstWords.{Begins}
use Rattle.op_readback.proofs.Operands.{Suits, suits-weak, Takes, Behind, boxed, infix-core, prefix-core, postfix-core}
use Rattle.op_readback.proofs.ArgumentOperands.{Reads}

abbrev Text : Type 0
Text = List ℕ

fits-limit : (f : Text) (bound : Bound) (m : Meaning) → fits bound m ≡ true → m.priority ≤ limit bound
fits-limit f bound m h = allowed-limit bound (operator_of f m) (fits-allowed f m bound h)

module _ (ops : Table) (table : IsTable ops) (n : ℕ) (style : Style) where
  abbrev T : ℕ → Edge → Bool → List Lexeme → List Known
  T = tokens

  -- the tree of the row of an operator and its operands
  whole-tree : (t : Term Text) (r : Bound → List (Member Text)) (m : Meaning) (row : List (Member Text)) → m.priority ≤ 1200
      → r (Whole 1200) ≡ cond (fits (Whole 1200) m) row (alone t) → tree 1200 (r (Whole 1200)) ≡ Some t → tree 1200 row ≡ Some t
  whole-tree t r m row h e k = ap (tree 1200) (sym (e ∙ if_true (nat_le m.priority 1200) row (alone t) (le-leb m.priority 1200 h))) ∙ k

  pub reads-infix : (f : Text) (a b : Term Text) (m : Meaning) → notation_of ops style f 2 ≡ Infix m → Reads ops table n style a
      → Reads ops table n style b
      → (bound : Bound) (c : RowKind) → Suits c (limit bound) → (ns : List Lexeme) → Behind ops table n bound ns
      → Takes ops table n c (compound_lexemes f (lexemes_of ops style a ∷ lexemes_of ops style b ∷ []) bound (Infix m)) ns
      (notation_row (node f (arg a (arg b no_args))) f (row_of ops style a ∷ row_of ops style b ∷ []) bound (Infix m))
  reads-infix f a b m e ra rb bound c s ns h at k l =
      let i = notation-infix ops style f m e in
      let w : IsMeaning is_infix m = subst (λ (o : Option Meaning). IfSome o (IsMeaning is_infix)) i (table.infixes f) in
      let t : Term Text = node f (arg a (arg b no_args)) in
      let row : List (Member Text) = row_of ops style a (left_of m) ++ an_op (operator_of f m) ∷ row_of ops style b (right_of m) in
      boxed ops table n t (lexemes_of ops style a (within (left_of m)) ++
      (infix_lexemes f ++ lexemes_of ops style b (within (right_of m)))) row
      m.priority (fits bound m) bound c
      (infix-core ops table n f m i (lexemes_of ops style a (within (left_of m))) (lexemes_of ops style b (within (right_of m)))
      (row_of ops style a (left_of m)) (row_of ops style b (right_of m)) (ra (left_of m)) (rb (right_of m)))
      (λ q. suits-weak c (limit bound) m.priority (fits-limit f bound m q) s)
      (whole-tree t (row_of ops style t) m row w.2 (ap (notation_row t f (row_of ops style a ∷ row_of ops style b ∷ []) (Whole 1200)) e)
      (rows-are-terms ops table style t (Whole 1200))) ns h at k l

  pub reads-postfix : (f : Text) (a : Term Text) (m : Meaning) → notation_of ops style f 1 ≡ Postfix m → Reads ops table n style a
      → (bound : Bound) (c : RowKind) → Suits c (limit bound) → (ns : List Lexeme) → Behind ops table n bound ns
      → Takes ops table n c (compound_lexemes f (lexemes_of ops style a ∷ []) bound (Postfix m)) ns (notation_row (node f (arg a no_args)) f
      (row_of ops style a ∷ []) bound (Postfix m))
  reads-postfix f a m e ra bound c s ns h at k l =
      let i = notation-postfix ops style f m e in
      let w : IsMeaning is_postfix m = subst (λ (o : Option Meaning). IfSome o (IsMeaning is_postfix)) i (table.postfixes f) in
      let t : Term Text = node f (arg a no_args) in
      let row : List (Member Text) = row_of ops style a (left_of m) ++ an_op (operator_of f m) ∷ [] in
      boxed ops table n t (lexemes_of ops style a (within (left_of m)) ++ (sign 32 ∷ name f ∷ [])) row m.priority (fits bound m) bound c
      (postfix-core ops table n f m i (lexemes_of ops style a (within (left_of m))) (row_of ops style a (left_of m)) (ra (left_of m)))
      (λ q. suits-weak c (limit bound) m.priority (fits-limit f bound m q) s)
      (whole-tree t (row_of ops style t) m row w.2 (ap (notation_row t f (row_of ops style a ∷ []) (Whole 1200)) e)
      (rows-are-terms ops table style t (Whole 1200))) ns h at k l

  abbrev pub Starts : Term Text → Type 0
  Starts t = (bound : Bound) (ns : List Lexeme) (at : ℕ) (e : Edge) (l : Bool)
      → Begins ops bound e l (T at e l (lexemes_of ops style t (within bound) ++ ns))

  pub reads-prefix : (f : Text) (a : Term Text) (m : Meaning) → notation_of ops style f 1 ≡ Prefix m → Starts a → Reads ops table n style a
      → (bound : Bound) (c : RowKind) → Suits c (limit bound) → (ns : List Lexeme) → Behind ops table n bound ns
      → Takes ops table n c (compound_lexemes f (lexemes_of ops style a ∷ []) bound (Prefix m)) ns (notation_row (node f (arg a no_args)) f
      (row_of ops style a ∷ []) bound (Prefix m))
  reads-prefix f a m e sa ra bound c s ns h at k l =
      let i = notation-prefix ops style f m e in
      let w : IsMeaning is_prefix m = subst (λ (o : Option Meaning). IfSome o (IsMeaning is_prefix)) i (table.prefixes f) in
      let t : Term Text = node f (arg a no_args) in
      let row : List (Member Text) = an_op (operator_of f m) ∷ row_of ops style a (right_of m) in
      boxed ops table n t (prefix_lexemes f ++ lexemes_of ops style a (within (right_of m))) row m.priority (fits bound m) bound c
      (prefix-core ops table n f m i (lexemes_of ops style a (within (right_of m))) (row_of ops style a (right_of m))
      (sa (right_of m)) (ra (right_of m)))
      (λ q. suits-weak c (limit bound) m.priority (fits-limit f bound m q) s)
      (whole-tree t (row_of ops style t) m row w.2 (ap (notation_row t f (row_of ops style a ∷ []) (Whole 1200)) e)
      (rows-are-terms ops table style t (Whole 1200))) ns h at k l
