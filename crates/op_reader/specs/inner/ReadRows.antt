-- Rows that are read from their end.
use Rattle.std.specs.Prelude.{◌≡◌, ◌<◌, ℕ, List, [], ◌∷◌, map, reverse, length, take, drop, All, Option, Some, None, option_map}
use Rattle.std.specs.Prelude.{if◌then◌else◌}
use Rattle.std.specs.Option.{IfSome}
use Rattle.op_logic.specs.Term.{Term}
use Rattle.op_logic.specs.Names.{name_at}
use Rattle.op_reader.specs.declared.member.Member.{Member as DeclaredMember}
use Rattle.op_reader.specs.declared.member.Member.TheVariants.{Operand, Operator}
use Rattle.op_reader.specs.declared.read_rows.ReadRows.{ReadRows as DeclaredReadRows}
use Rattle.op_reader.specs.declared.read_rows.ListNames.{ListNames}
use Rattle.op_reader.specs.declared.terms.Pending.{Pending}
use Rattle.op_reader.specs.Row.{Member, operand, operator}
use Rattle.op_reader.specs.Terms.{ReadRows, Known, read_rows}
use Rattle.op_reader.specs.inner.RoleLists.{View, Layers, node_in, operator_in}
use Rattle.op_reader.specs.inner.Members.{MemberBelow}

-- a view of these nodes, and perhaps more
abbrev pub Extends : View → List (Term ℕ) → Type 0
Extends v ts = take (length ts) v.terms ≡ ts

abbrev pub member_in : View → DeclaredMember → Member (List ℕ)
member_in v (Operand n) = operand (node_in v n)
member_in v (Operator o) = operator (operator_in v o)

-- a row that is held from its end
abbrev pub row_in : View → List DeclaredMember → List (Member (List ℕ))
row_in v ps = map (member_in v) (reverse ps)

abbrev pub nodes_in : View → List ℕ → List (Term (List ℕ))
nodes_in v ns = map (node_in v) (reverse ns)

abbrev pub rows_in : View → DeclaredReadRows → Option (ReadRows (List ℕ))
rows_in v l =
    if l.failed then None else
    Some (record { row = row_in v l.row.items; rest = nodes_in v l.rest.items; tail = option_map (node_in v) l.tail })

abbrev pub known_in : View → ListNames → Known (List ℕ)
known_in v k = record { dot = name_at v.names k.dot.0; nil = name_at v.names k.nil.0; braces = name_at v.names k.braces.0 }

pub record RowsBelow (n : ℕ) (l : DeclaredReadRows) : Type 0 where
  pub row : All (MemberBelow n) l.row.items
  pub rest : All (λ m. m < n) l.rest.items
  pub tail : IfSome l.tail (λ m. m < n)

-- the rows that the code has read, in brackets within brackets, as the layers of roles
abbrev pub nothing_read : ReadRows (List ℕ)
nothing_read = record { row = []; rest = []; tail = None }

abbrev pub first_rows : View → List DeclaredReadRows → Option (ReadRows (List ℕ))
first_rows v [] = Some nothing_read
first_rows v (l ∷ ls) = rows_in v l

pub record Reads (v : View) (names : ListNames) (p : Pending) (l : Layers) : Type 0 where
  pub inner : rows_in v p.inner ≡ read_rows (known_in v names) l.inner
  pub outer : map (rows_in v) (reverse p.outer.items) ≡ map (read_rows (known_in v names)) l.outer

pub record PendingBelow (n : ℕ) (p : Pending) : Type 0 where
  pub inner : RowsBelow n p.inner
  pub outer : All (RowsBelow n) p.outer.items

-- the innermost rows are taken away
pub record Popped (before after : Pending) : Type 0 where
  pub inner : (v : View) → rows_in v after.inner ≡ first_rows v (reverse before.outer.items)
  pub outer : reverse after.outer.items ≡ drop 1 (reverse before.outer.items)
  pub below : (n : ℕ) → PendingBelow n before → PendingBelow n after
