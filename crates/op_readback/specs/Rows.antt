-- The row that the text of a term spells: what stands in brackets, arguments, lists and braces are finished operands.
use Rattle.std.specs.Prelude.{ℕ, List, [], ◌∷◌, ◌++◌, if◌then◌else◌}
use Rattle.op_logic.specs.Term.{Term, var, int, node, Args, no_args, arg, arity}
use Rattle.op_term.specs.declared.ops.Meaning.{Meaning}
use Rattle.op_term.specs.Ops.{Table}
use Rattle.op_reader.specs.Row.{Member, operand, operator, Operator}
use Rattle.op_writer.specs.declared.style.Style.{Style}
use Rattle.op_writer.specs.declared.bound.Bound.{Bound}
use Rattle.op_writer.specs.declared.bound.Bound.TheVariants.{Whole, Operand, Left, Right}
use Rattle.op_writer.specs.declared.notation.Notation.{Notation}
use Rattle.op_writer.specs.declared.notation.Notation.TheVariants.{Infix, Prefix, Postfix}
use Rattle.op_writer.specs.Text.{fits, left_of, right_of, notation_of}

abbrev pub operator_of : List ℕ → Meaning → Operator (List ℕ)
operator_of f m = record { name = f; priority = m.priority; kind = m.kind }

-- the row of a part, by its bound
abbrev pub RowForm : Type 0
RowForm = Bound → List (Member (List ℕ))

abbrev pub alone : Term (List ℕ) → List (Member (List ℕ))
alone t = operand t ∷ []

abbrev pub notation_row : Term (List ℕ) → List ℕ → List RowForm → Bound → Notation → List (Member (List ℕ))
notation_row t f (a ∷ b ∷ []) bound (Infix m) =
    if fits bound m then a (left_of m) ++ operator (operator_of f m) ∷ b (right_of m) else alone t
notation_row t f (a ∷ []) bound (Prefix m) = if fits bound m then operator (operator_of f m) ∷ a (right_of m) else alone t
notation_row t f (a ∷ []) bound (Postfix m) = if fits bound m then a (left_of m) ++ operator (operator_of f m) ∷ [] else alone t
notation_row t f rows bound notation = alone t

abbrev mutual
  pub row_of : Table → Style → Term (List ℕ) → RowForm
  row_of ops style (var v) bound = alone (var v)
  row_of ops style (int i) bound = alone (int i)
  row_of ops style (node f ts) bound = notation_row (node f ts) f (rows_of ops style ts) bound (notation_of ops style f (arity ts))

  pub rows_of : Table → Style → Args (List ℕ) → List RowForm
  rows_of ops style no_args = []
  rows_of ops style (arg t ts) = row_of ops style t ∷ rows_of ops style ts

-- the greatest priority within a bound
abbrev pub limit : Bound → ℕ
limit (Whole p) = p
limit (Operand p) = p
limit (Left p) = p
limit (Right p) = p
