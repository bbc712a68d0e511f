-- Atoms, and terms in braces, are the operands that their lexemes are read as.
use Rattle.std.proofs.Common.{◌≡◌, ℕ, Bool, true, false, not, ◌||◌, ◌&&◌, List, [], ◌∷◌, ◌++◌, Option, Some, None, is_some, refl, sym, ◌∙◌}
use Rattle.std.proofs.Common.{ap, subst}
use Rattle.std.specs.Prelude.{codes, option_map}
use Rattle.std.proofs.lemmas.List.{append_assoc}
use Rattle.op_logic.proofs.BoolCases.{by_test}
use Rattle.op_logic.specs.Term.{Term, node, atom, no_args, arg}
use Rattle.op_term.specs.Ops.{Table, IsTable, prefix_in, infix_in, postfix_in}
use Rattle.op_term.specs.declared.ops.Meaning.{Meaning}
use Rattle.op_reader.specs.declared.row_kind.RowKind.{RowKind}
use Rattle.op_reader.specs.declared.row_kind.RowKind.TheVariants.{Clause}
use Rattle.op_reader.specs.Row.{tree}
use Rattle.op_writer.specs.declared.style.Style.{Style}
use Rattle.op_writer.specs.declared.bound.Bound.{Bound}
use Rattle.op_writer.specs.declared.bound.Bound.TheVariants.{Whole}
use Rattle.op_writer.specs.declared.notation.Notation.{Notation}
use Rattle.op_writer.specs.declared.notation.Notation.TheVariants.{List as Listed, Braces, Infix, Prefix, Postfix, Functional}
use Rattle.op_writer.specs.declared.edge.Edge.{Edge}
use Rattle.op_writer.specs.Text.{within, is_operand, is_operator, notation_of}
use Rattle.op_readback.proofs.Lexemes.{Lexeme, sign, name, in_brackets, atom_lexemes, lexemes_of}
use Rattle.op_readback.specs.Rows.{row_of, notation_row, alone}
use Rattle.op_readback.proofs.RowTrees.{rows-are-terms}
use Rattle.op_readback.proofs.LexemeTokens.{Known, tokens}
use Rattle.op_readback.proofs.FirstWords.{follow-sign, Begins}
use Rattle.op_readback.proofs.OperandRoles.{Taken, filled}
use Rattle.op_readback.proofs.BracketWords.{closed-round, closed-curly, curly-taken}
use Rattle.op_readback.proofs.OperatorWords.{atom-taken}
use Rattle.op_readback.proofs.Operands.{Takes, Behind}
use Rattle.op_readback.proofs.ArgumentOperands.{Reads}
use Rattle.op_readback.proofs.FirstWords.{begins-round, begins-atom}
use Rattle.op_readback.proofs.BracketWords.{round-taken}
use Rattle.op_readback.proofs.OperatorTerms.{Starts}

abbrev Text : Type 0
Text = List ℕ

or-left : (a b : Bool) → (a || b) ≡ false → a ≡ false
or-left false b h = refl
or-left true b h = absurd (let z : true ≡ false = h in cc)

or-right : (a b : Bool) → (a || b) ≡ false → b ≡ false
or-right false b h = h
or-right true b h = absurd (let z : true ≡ false = h in cc)

no-meaning : (o : Option Meaning) → is_some o ≡ false → o ≡ None
no-meaning None h = refl
no-meaning (Some m) h = absurd (let z : true ≡ false = h in cc)

pub atom-row : (t : Term Text) (f : Text) (bound : Bound) (nt : Notation) → notation_row t f [] bound nt ≡ alone t
atom-row t f bound Listed = refl
atom-row t f bound Braces = refl
atom-row t f bound (Infix m) = refl
atom-row t f bound (Prefix m) = refl
atom-row t f bound (Postfix m) = refl
atom-row t f bound Functional = refl

module _ (ops : Table) (table : IsTable ops) (n : ℕ) (style : Style) where
  abbrev T : ℕ → Edge → Bool → List Lexeme → List Known
  T = tokens

  -- operators in brackets where they are operands, other atoms as they are
  plain-atom : (f : Text) (c : RowKind) (bound : Bound) → (is_operand bound && is_operator ops f) ≡ false → (ns : List Lexeme)
      → Behind ops table n bound ns → Takes ops table n c (name f ∷ []) ns (alone (atom f))
  plain-atom f c bound q ns h at e l = atom-taken ops table n c f ns (λ at e. ((h at e).0, (h at e).1))
      (λ at e P p r. by_test (is_operand bound)
      (λ o. p (no-meaning (prefix_in ops f) (or-left (is_some (prefix_in ops f)) (is_some (infix_in ops f))
      (or-left (is_some (prefix_in ops f) || is_some (infix_in ops f)) (is_some (postfix_in ops f))
      (sym (ap (λ (x : Bool). x && is_operator ops f) o) ∙ q)))))
      (λ o. r ((h at e).2 o))) at e l

  pub reads-atom : (f : Text) (c : RowKind) (bound : Bound) (ns : List Lexeme) → Behind ops table n bound ns
      → Takes ops table n c (atom_lexemes ops f bound) ns (alone (atom f))
  reads-atom f c bound ns h at e l = by_test (is_operand bound && is_operator ops f)
      (λ q. subst (λ (b : Bool). Taken ops n c (T at e l (in_brackets b (name f ∷ []) ++ ns)) ns (alone (atom f))) (sym q)
      (round-taken ops n c (name f ∷ sign 41 ∷ ns) ns (alone (atom f)) [] None (atom f)
      (ap (tree 1200) (sym (atom-row (atom f) f (Whole 1200) (notation_of ops style f 0)))
      ∙ rows-are-terms ops table style (atom f) (Whole 1200))
      (λ at1 e1. let a = plain-atom f Clause (Whole 1200) refl (sign 41 ∷ ns) (λ at e. follow-sign ops 41 refl refl ns
      (Whole 1200) at e false) at1 e1 false in
      filled ops n Clause (T at1 e1 false (name f ∷ sign 41 ∷ ns)) (sign 41 ∷ ns) ns (alone (atom f)) [] None a
      (closed-round ops n Clause ns a.after a.edge false)) at e l))
      (λ q. subst (λ (b : Bool). Taken ops n c (T at e l (in_brackets b (name f ∷ []) ++ ns)) ns (alone (atom f))) (sym q)
      (plain-atom f c bound q ns h at e l))

  pub starts-atom : (f : Text) (bound : Bound) (ns : List Lexeme) (at : ℕ) (e : Edge) (l : Bool)
      → Begins ops bound e l (T at e l (atom_lexemes ops f bound ++ ns))
  starts-atom f bound ns at e l = by_test (is_operand bound && is_operator ops f)
      (λ q. subst (λ (b : Bool). Begins ops bound e l (T at e l (in_brackets b (name f ∷ []) ++ ns))) (sym q)
      (begins-round ops (name f ∷ sign 41 ∷ ns) bound at e l))
      (λ q. subst (λ (b : Bool). Begins ops bound e l (T at e l (in_brackets b (name f ∷ []) ++ ns))) (sym q) (begins-atom ops f ns bound
      (λ o. ap (λ (x : Bool). x && not (is_some (prefix_in ops f))) (or-right (is_some (prefix_in ops f)) (is_some (infix_in ops f))
      (or-left (is_some (prefix_in ops f) || is_some (infix_in ops f)) (is_some (postfix_in ops f))
      (sym (ap (λ (x : Bool). x && is_operator ops f) o) ∙ q)))) at e l))

  -- a term in braces
  pub reads-braces : (f : Text) (a : Term Text) → f ≡ codes "{}" → Starts ops table n style a → Reads ops table n style a
      → (c : RowKind) (ns : List Lexeme)
      → Takes ops table n c (sign 123 ∷ (lexemes_of ops style a (within (Whole 1200)) ++ sign 125 ∷ [])) ns (alone (node f (arg a no_args)))
  reads-braces f a q sa ra c ns at e l =
      let xs = lexemes_of ops style a (within (Whole 1200)) in
      subst (λ (ms : List Lexeme). Taken ops n c (T at e l (sign 123 ∷ ms)) ns (alone (node f (arg a no_args))))
      (sym (append_assoc xs (sign 125 ∷ []) ns))
      (curly-taken ops n c (xs ++ sign 125 ∷ ns) ns (row_of ops style a (Whole 1200)) [] None (node f (arg a no_args))
      (ap (option_map (λ t. node (codes "{}") (arg t no_args))) (rows-are-terms ops table style a (Whole 1200))
      ∙ ap (λ (g : Text). Some (node g (arg a no_args))) (sym q))
      (λ at1 e1. (sa (Whole 1200) (sign 125 ∷ ns) at1 e1 false).curly)
      (λ at1 e1. let x = ra (Whole 1200) Clause tt (sign 125 ∷ ns) (λ at e. follow-sign ops 125 refl refl ns
      (Whole 1200) at e false) at1 e1 false in
      filled ops n Clause (T at1 e1 false (xs ++ sign 125 ∷ ns)) (sign 125 ∷ ns) ns (row_of ops style a (Whole 1200)) [] None x
      (closed-curly ops n Clause ns x.after x.edge false)) at e l)
