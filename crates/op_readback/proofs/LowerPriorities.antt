-- A row within a lower priority is the row within 1200, or the term alone.
use Rattle.std.proofs.Common.{◌≡◌, ◌≤◌, ℕ, true, cond, List, [], ◌∷◌, Some, sym, ◌∙◌, subst, arith}
use Rattle.std.specs.Prelude.{nat_le}
use Rattle.std.proofs.lemmas.Bool.{le-leb, leb-true}
use Rattle.op_logic.proofs.BoolCases.{by_test, if_true, if_false}
use Rattle.op_logic.specs.Term.{Term, var, int, node, arity}
use Rattle.op_term.specs.Ops.{Table, IsTable}
use Rattle.op_term.specs.declared.ops.Meaning.{Meaning}
use Rattle.op_reader.specs.Row.{Member, tree}
use Rattle.op_reader.proofs.Spines.{tree_single}
use Rattle.op_writer.specs.declared.style.Style.{Style}
use Rattle.op_writer.specs.declared.bound.Bound.TheVariants.{Whole}
use Rattle.op_writer.specs.declared.notation.Notation.{Notation}
use Rattle.op_writer.specs.declared.notation.Notation.TheVariants.{List as Listed, Braces, Infix, Prefix, Postfix, Functional}
use Rattle.op_writer.specs.Text.{notation_of}
use Rattle.op_readback.specs.Rows.{row_of, rows_of, notation_row, alone, RowForm}
use Rattle.op_readback.proofs.RowTrees.{rows-are-terms}

abbrev Text : Type 0
Text = List ℕ

abbrev IsTree : Term Text → List (Member Text) → Type 0
IsTree t row = tree 1200 row ≡ Some t

alone-tree : (t : Term Text) → IsTree t (alone t)
alone-tree t = tree_single 0 1200 t

module _ (t : Term Text) (p : ℕ) (l : p ≤ 1200) where
  fitting : (m : Meaning) (row : List (Member Text)) → IsTree t (cond (nat_le m.priority 1200) row (alone t))
      → IsTree t (cond (nat_le m.priority p) row (alone t))
  fitting m row h = by_test (nat_le m.priority p)
      (λ e. let q : nat_le m.priority 1200 ≡ true = le-leb m.priority 1200 (omega (arith, l, leb-true m.priority p e)) in
      subst (IsTree t) (if_true (nat_le m.priority 1200) row (alone t) q ∙ sym (if_true (nat_le m.priority p) row (alone t) e)) h)
      (λ e. subst (IsTree t) (sym (if_false (nat_le m.priority p) row (alone t) e)) (alone-tree t))

  lower-row : (f : Text) (rows : List RowForm) (nt : Notation) → IsTree t (notation_row t f rows (Whole 1200) nt)
      → IsTree t (notation_row t f rows (Whole p) nt)
  lower-row f [] Listed h = h
  lower-row f [] Braces h = h
  lower-row f [] (Infix m) h = h
  lower-row f [] (Prefix m) h = h
  lower-row f [] (Postfix m) h = h
  lower-row f [] Functional h = h
  lower-row f (a ∷ []) (Prefix m) h = fitting m _ h
  lower-row f (a ∷ []) (Postfix m) h = fitting m _ h
  lower-row f (a ∷ []) Listed h = h
  lower-row f (a ∷ []) Braces h = h
  lower-row f (a ∷ []) (Infix m) h = h
  lower-row f (a ∷ []) Functional h = h
  lower-row f (a ∷ b ∷ []) (Infix m) h = fitting m _ h
  lower-row f (a ∷ b ∷ []) Listed h = h
  lower-row f (a ∷ b ∷ []) Braces h = h
  lower-row f (a ∷ b ∷ []) (Prefix m) h = h
  lower-row f (a ∷ b ∷ []) (Postfix m) h = h
  lower-row f (a ∷ b ∷ []) Functional h = h
  lower-row f (a ∷ b ∷ c ∷ rows) nt h = h

-- the row of a term within any priority up to 1200
pub lower-tree : (ops : Table) → IsTable ops → (style : Style) (t : Term Text) (p : ℕ) → p ≤ 1200
    → tree 1200 (row_of ops style t (Whole p)) ≡ Some t
lower-tree ops table style (var v) p l = alone-tree (var v)
lower-tree ops table style (int i) p l = alone-tree (int i)
lower-tree ops table style (node f ts) p l =
    lower-row (node f ts) p l f (rows_of ops style ts) (notation_of ops style f (arity ts)) (rows-are-terms ops table style
    (node f ts) (Whole 1200))
