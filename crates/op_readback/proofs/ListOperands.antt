-- Lists: the elements of the rest of a list, and its tail, depend on the term alone.
use Rattle.std.proofs.Common.{◌≡◌, ◌≤◌, ℕ, Bool, false, List, [], ◌∷◌, ◌++◌, Option, Some, None, refl, sym, ◌∙◌, ap, subst, arith}
use Rattle.std.specs.Prelude.{codes, option_map, unwrap_or}
use Rattle.std.proofs.lemmas.List.{append_assoc}
use Rattle.op_logic.specs.Term.{Term, node, atom, no_args, arg}
use Rattle.op_term.specs.Ops.{Table, IsTable}
use Rattle.op_reader.specs.declared.row_kind.RowKind.{RowKind}
use Rattle.op_reader.specs.declared.row_kind.RowKind.TheVariants.{Elements, Last}
use Rattle.op_reader.specs.Words.{list_of}
use Rattle.op_reader.specs.Roles.{an_operand, an_operator}
use Rattle.op_writer.specs.declared.style.Style.{Style}
use Rattle.op_writer.specs.declared.edge.Edge.{Edge}
use Rattle.op_writer.specs.Text.{within, argument}
use Rattle.op_readback.proofs.Lexemes.{Lexeme, sign, lexemes_of}
use Rattle.op_readback.specs.Rows.{row_of, alone}
use Rattle.op_readback.proofs.RowTrees.{rows-are-terms}
use Rattle.op_readback.proofs.LexemeTokens.{Known, tokens}
use Rattle.op_readback.proofs.FirstWords.{follow-sign}
use Rattle.op_readback.proofs.OperandRoles.{Taken, Ended, filled}
use Rattle.op_readback.proofs.BracketWords.{closed-square, comma-elements, bar-elements, square-taken}
use Rattle.op_readback.proofs.Operands.{Takes, Behind}
use Rattle.op_readback.proofs.ArgumentOperands.{Reads}
use Rattle.op_readback.proofs.OperatorTerms.{Starts}

abbrev Text : Type 0
Text = List ℕ

abbrev nil : Term Text
nil = atom (codes "[]")

module _ (ops : Table) (table : IsTable ops) (n : ℕ) (style : Style) where
  abbrev T : ℕ → Edge → Bool → List Lexeme → List Known
  T = tokens

  -- lexemes that are the rest of a list, up to its bracket
  pub record Tail (t : Term Text) (ms : List Lexeme) : Type 0 where
    pub elements : List (Term Text)
    pub end : Option (Term Text)
    pub is_list : list_of (codes ".") (unwrap_or end nil) elements ≡ t
    pub ended : (ns : List Lexeme) (at : ℕ) (e : Edge) (l : Bool) → Ended ops n Elements an_operator
        (T at e l (ms ++ ns)) ns [] elements end
    pub follows : (ns : List Lexeme) → Behind ops table n argument (ms ++ ns)

  pub empty-tail : (f : Text) → f ≡ codes "[]" → Tail (node f no_args) (sign 93 ∷ [])
  empty-tail f q = record {
    elements = [];
    end = None;
    is_list = ap (λ (g : Text). atom g) (sym q);
    ended = λ ns at e l. closed-square ops n Elements ns at e l;
    follows = λ ns at e. follow-sign ops 93 refl refl ns argument at e false;
  }

  -- a tail behind a bar
  pub barred : (t : Term Text) (xs : List Lexeme)
      → ((ns : List Lexeme) → Behind ops table n argument ns → Takes ops table n Last xs ns (row_of ops style t argument))
      → Tail t (sign 124 ∷ (xs ++ sign 93 ∷ []))
  barred t xs f =
      let row = row_of ops style t argument in
      record {
        elements = [];
        end = Some t;
        is_list = refl;
        ended = λ ns at e l. subst (λ (ms : List Lexeme). Ended ops n Elements an_operator (T at e l (sign 124 ∷ ms)) ns [] [] (Some t))
            (sym (append_assoc xs (sign 93 ∷ []) ns))
            (bar-elements ops n (xs ++ sign 93 ∷ ns) ns row t [] None (rows-are-terms ops table style t argument)
            (λ at1 e1. let a = f (sign 93 ∷ ns) (λ at e. follow-sign ops 93 refl refl ns argument at e false) at1 e1 false in
            filled ops n Last (T at1 e1 false (xs ++ sign 93 ∷ ns)) (sign 93 ∷ ns) ns row [] None a
            (closed-square ops n Last ns a.after a.edge false)) at e l);
        follows = λ ns at e. follow-sign ops 124 refl refl ((xs ++ sign 93 ∷ []) ++ ns) argument at e false;
      }

  -- an element and the rest behind it
  element : (a : Term Text) (t : Term Text) (ys : List Lexeme) → Reads ops table n style a → (d : Tail t ys)
      → (ns : List Lexeme) (at : ℕ) (e : Edge)
      → Ended ops n Elements an_operand (T at e false (lexemes_of ops style a (within argument) ++ (ys ++ ns))) ns
      (row_of ops style a argument) d.elements d.end
  element a t ys ra d ns at e =
      let xs = lexemes_of ops style a (within argument) in
      let x = ra argument Elements (let p : 999 ≤ 999 = omega arith in p) (ys ++ ns) (d.follows ns) at e false in
      filled ops n Elements (T at e false (xs ++ (ys ++ ns))) (ys ++ ns) ns (row_of ops style a argument) d.elements d.end x
      (d.ended ns x.after x.edge false)

  pub further-element : (f : Text) (a t : Term Text) (ys : List Lexeme) → f ≡ codes "." → Reads ops table n style a → Tail t ys
      → Tail (node f (arg a (arg t no_args))) (sign 44 ∷ (lexemes_of ops style a (within argument) ++ ys))
  further-element f a t ys q ra d =
      let xs = lexemes_of ops style a (within argument) in
      record {
        elements = a ∷ d.elements;
        end = d.end;
        is_list = ap (λ (u : Term Text). node (codes ".") (arg a (arg u no_args))) d.is_list
            ∙ ap (λ (g : Text). node g (arg a (arg t no_args))) (sym q);
        ended = λ ns at e l. subst (λ (ms : List Lexeme). Ended ops n Elements an_operator (T at e l (sign 44 ∷ ms)) ns []
            (a ∷ d.elements) d.end) (sym (append_assoc xs ys ns))
            (comma-elements ops n (xs ++ (ys ++ ns)) ns (row_of ops style a argument) a d.elements d.end
            (rows-are-terms ops table style a argument) (element a t ys ra d ns) at e l);
        follows = λ ns at e. follow-sign ops 44 refl refl ((xs ++ ys) ++ ns) argument at e false;
      }

  -- a list
  pub reads-list : (f : Text) (a t : Term Text) (ys : List Lexeme) → f ≡ codes "." → Starts ops table n style a → Reads ops table n style a
      → Tail t ys → (c : RowKind) (ns : List Lexeme)
      → Takes ops table n c (sign 91 ∷ (lexemes_of ops style a (within argument) ++ ys)) ns (alone (node f (arg a (arg t no_args))))
  reads-list f a t ys q sa ra d c ns at e l =
      let xs = lexemes_of ops style a (within argument) in
      let whole : Term Text = node f (arg a (arg t no_args)) in
      subst (λ (ms : List Lexeme). Taken ops n c (T at e l (sign 91 ∷ ms)) ns (alone whole)) (sym (append_assoc xs ys ns))
      (square-taken ops n c (xs ++ (ys ++ ns)) ns (row_of ops style a argument) d.elements d.end whole
      (ap (option_map (λ u. list_of (codes ".") (unwrap_or d.end nil) (u ∷ d.elements))) (rows-are-terms ops table style a argument)
      ∙ (ap (λ (u : Term Text). Some (node (codes ".") (arg a (arg u no_args)))) d.is_list
      ∙ ap (λ (g : Text). Some (node g (arg a (arg t no_args)))) (sym q)))
      (λ at1 e1. (sa argument (ys ++ ns) at1 e1 false).square)
      (element a t ys ra d ns) at e l)
