-- When a written term is read as an operand; further arguments, and a term in functional notation, are.
use Rattle.std.proofs.Common.{◌≡◌, ◌≤◌, ℕ, Bool, false, List, [], ◌∷◌, ◌++◌, Some, None, refl, sym, ◌∙◌, ap, subst, arith}
use Rattle.std.specs.Prelude.{option_map}
use Rattle.std.specs.Str.{IsUtf8}
use Rattle.std.proofs.lemmas.List.{append_assoc}
use Rattle.op_logic.specs.Term.{Term, node, Args, no_args, arg}
use Rattle.op_term.specs.Ops.{Table, IsTable}
use Rattle.op_reader.specs.declared.row_kind.RowKind.{RowKind}
use Rattle.op_reader.specs.declared.row_kind.RowKind.TheVariants.{Arguments}
use Rattle.op_reader.specs.Roles.{an_operator}
use Rattle.op_reader.specs.Terms.{args_of}
use Rattle.op_writer.specs.declared.style.Style.{Style}
use Rattle.op_writer.specs.declared.bound.Bound.{Bound}
use Rattle.op_writer.specs.declared.edge.Edge.{Edge}
use Rattle.op_writer.specs.Text.{within, argument}
use Rattle.op_readback.proofs.Lexemes.{Lexeme, sign, name, further_lexemes, functional_lexemes, lexemes_of, all_lexemes}
use Rattle.op_readback.specs.Rows.{limit, row_of, alone}
use Rattle.op_readback.proofs.RowTrees.{rows-are-terms}
use Rattle.op_readback.proofs.LexemeTokens.{Known, tokens}
use Rattle.op_readback.proofs.FirstWords.{follow-sign}
use Rattle.op_readback.proofs.OperandRoles.{Taken, Ended, filled}
use Rattle.op_readback.proofs.BracketWords.{closed-round, comma-arguments, functor-taken}
use Rattle.op_readback.proofs.Operands.{Suits, Takes, Behind}

abbrev Text : Type 0
Text = List ℕ

module _ (ops : Table) (table : IsTable ops) (n : ℕ) (style : Style) where
  abbrev T : ℕ → Edge → Bool → List Lexeme → List Known
  T = tokens

  -- a term within each bound
  abbrev pub Reads : Term Text → Type 0
  Reads t = (bound : Bound) (c : RowKind) → Suits c (limit bound) → (ns : List Lexeme) → Behind ops table n bound ns
      → Takes ops table n c (lexemes_of ops style t (within bound)) ns (row_of ops style t bound)

  abbrev pub AllRead : Args Text → Type 0
  AllRead no_args = Unit {0}
  AllRead (arg t ts) = Reads t × AllRead ts

  abbrev pub terms_of : Args Text → List (Term Text)
  terms_of no_args = []
  terms_of (arg t ts) = t ∷ terms_of ts

  args-terms : (ts : Args Text) → args_of (terms_of ts) ≡ ts
  args-terms no_args = refl
  args-terms (arg t ts) = ap (λ (us : Args Text). arg t us) (args-terms ts)

  furthers-follow : (us : Args Text) (ns : List Lexeme) → Behind ops table n argument (further_lexemes (all_lexemes ops style us) ++ ns)
  furthers-follow no_args ns at e = follow-sign ops 41 refl refl ns argument at e false
  furthers-follow (arg u us) ns at e =
      follow-sign ops 44 refl refl ((lexemes_of ops style u (within argument) ++ further_lexemes (all_lexemes ops style us))
      ++ ns) argument at e false

  -- the arguments of a compound behind the first, up to the bracket
  pub furthers : (us : Args Text) → AllRead us → (ns : List Lexeme) (at : ℕ) (e : Edge) (l : Bool)
      → Ended ops n Arguments an_operator (T at e l (further_lexemes (all_lexemes ops style us) ++ ns)) ns [] (terms_of us) None
  furthers no_args h ns at e l = closed-round ops n Arguments ns at e l
  furthers (arg u us) h ns at e l =
      let xs = lexemes_of ops style u (within argument) in let ys = further_lexemes (all_lexemes ops style us) in
      subst (λ (ms : List Lexeme). Ended ops n Arguments an_operator (T at e l (sign 44 ∷ ms)) ns [] (u ∷ terms_of us) None)
      (sym (append_assoc xs ys ns))
      (comma-arguments ops n (xs ++ (ys ++ ns)) ns (row_of ops style u argument) u (terms_of us) None
      (rows-are-terms ops table style u argument)
      (λ at1 e1. let a = h.0 argument Arguments (let p : 999 ≤ 999 = omega arith in p) (ys ++ ns) (furthers-follow us ns) at1 e1 false in
      filled ops n Arguments (T at1 e1 false (xs ++ (ys ++ ns))) (ys ++ ns) ns (row_of ops style u argument) (terms_of us) None a
      (furthers us h.1 ns a.after a.edge false)) at e l)

  -- a compound in functional notation
  pub functional : (f : Text) → IsUtf8 f → (t : Term Text) (us : Args Text) → Reads t → AllRead us → (c : RowKind) (ns : List Lexeme)
      → Takes ops table n c (functional_lexemes f (lexemes_of ops style t ∷ all_lexemes ops style us)) ns (alone (node f (arg t us)))
  functional f u t us ht hs c ns at e l =
      let xs = lexemes_of ops style t (within argument) in let ys = further_lexemes (all_lexemes ops style us) in
      subst (λ (ms : List Lexeme). Taken ops n c (T at e l (name f ∷ sign 40 ∷ ms)) ns (alone (node f (arg t us))))
      (sym (append_assoc xs ys ns))
      (functor-taken ops n c f u (xs ++ (ys ++ ns)) ns (row_of ops style t argument) (terms_of us) None (node f (arg t us))
      (ap (option_map (λ t. node f (arg t (args_of (terms_of us))))) (rows-are-terms ops table style t argument)
      ∙ ap (λ (us : Args Text). Some (node f (arg t us))) (args-terms us))
      (λ at1 e1. let a = ht argument Arguments (let p : 999 ≤ 999 = omega arith in p) (ys ++ ns) (furthers-follow us ns) at1 e1 false in
      filled ops n Arguments (T at1 e1 false (xs ++ (ys ++ ns))) (ys ++ ns) ns (row_of ops style t argument) (terms_of us) None a
      (furthers us hs ns a.after a.edge false)) at e l)
