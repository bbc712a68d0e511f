-- Operators (ISO/IEC 13211-1, 6.3.4): what a name is as an operator, the operators at first, and what setting one makes of them.
use Rattle.std.specs.Prelude.{◌≡◌, ◌≤◌, ◌==◌, ◌||◌, ◌&&◌, ℕ, pos, negsuc, nat_le, Bool, true, false, ℤ, List, [], ◌∷◌, codes, bytes_eq}
use Rattle.std.specs.Prelude.{if◌then◌else◌, Option, Some, None, Result, Ok, Err, fold, ◌++◌}
use Rattle.std.specs.Option.{IfSome, is_some}
use Rattle.op_term.specs.declared.ops.OpKind.{OpKind}
use Rattle.op_term.specs.declared.ops.OpKind.TheVariants.{Xfx, Xfy, Yfx, Fy, Fx, Xf, Yf}
use Rattle.op_term.specs.declared.ops.OpFault.{OpFault}
use Rattle.op_term.specs.declared.ops.OpFault.TheVariants.{Priority, Comma, Reserved, Clash}
use Rattle.op_term.specs.declared.ops.Meaning.{Meaning}
use Rattle.op_term.specs.declared.ops.Meanings.{Meanings}

-- names, each with what it means as a prefix, an infix and a postfix operator; another name means nothing
abbrev pub Table : Type 0
Table = List (List ℕ × Meanings)

abbrev pub no_meaning : Meanings
no_meaning = record { as_prefix = None; as_infix = None; as_postfix = None }

abbrev pub meanings_in : Table → List ℕ → Meanings
meanings_in [] name = no_meaning
meanings_in (e ∷ es) name = if bytes_eq name e.0 then e.1 else meanings_in es name

abbrev pub prefix_in : Table → List ℕ → Option Meaning
prefix_in table name = (meanings_in table name).as_prefix

abbrev pub infix_in : Table → List ℕ → Option Meaning
infix_in table name = (meanings_in table name).as_infix

abbrev pub postfix_in : Table → List ℕ → Option Meaning
postfix_in table name = (meanings_in table name).as_postfix

-- the class of a kind
abbrev pub is_prefix : OpKind → Bool
is_prefix Fy = true
is_prefix Fx = true
is_prefix _ = false

abbrev pub is_postfix : OpKind → Bool
is_postfix Yf = true
is_postfix Xf = true
is_postfix _ = false

abbrev pub is_infix : OpKind → Bool
is_infix Xfx = true
is_infix Xfy = true
is_infix Yfx = true
is_infix _ = false

-- the left, or the right, operand is a y: it may have the operator's own priority
abbrev pub is_y_left : OpKind → Bool
is_y_left Yfx = true
is_y_left Yf = true
is_y_left _ = false

abbrev pub is_y_right : OpKind → Bool
is_y_right Xfy = true
is_y_right Fy = true
is_y_right _ = false

-- a name's meanings with another one in the class of a kind
abbrev pub changed : OpKind → Option Meaning → Meanings → Meanings
changed kind m ms =
    if is_prefix kind then record { as_prefix = m; as_infix = ms.as_infix; as_postfix = ms.as_postfix } else
    if is_postfix kind then record { as_prefix = ms.as_prefix; as_infix = ms.as_infix; as_postfix = m } else
    record { as_prefix = ms.as_prefix; as_infix = m; as_postfix = ms.as_postfix }

-- a table with other meanings of a name
abbrev pub with_meanings : Table → List ℕ → Meanings → Table
with_meanings [] name ms = (name, ms) ∷ []
with_meanings (e ∷ es) name ms = if bytes_eq name e.0 then (e.0, ms) ∷ es else e ∷ with_meanings es name ms

-- priority 0 stands for no operator
abbrev pub meaning_of : ℕ → OpKind → Option Meaning
meaning_of priority kind = if priority == 0 then None else Some (record { priority = priority; kind = kind })

abbrev pub with_op : Table → ℕ → OpKind → List ℕ → Table
with_op table priority kind name = with_meanings table name (changed kind (meaning_of priority kind) (meanings_in table name))

abbrev pub with_ops : Table → ℕ → OpKind → List (List ℕ) → Table
with_ops table priority kind names = fold (λ t name. with_op t priority kind name) table names

-- the operators at first, a group of names for each priority and kind
pub record OperatorGroup : Type 0 where
  pub priority : ℕ
  pub kind : OpKind
  pub names : List (List ℕ)

abbrev group : ℕ → OpKind → List (List ℕ) → OperatorGroup
group p k names = record { priority = p; kind = k; names = names }

abbrev pub with_groups : Table → List OperatorGroup → Table
with_groups table groups = fold (λ t g. with_ops t g.priority g.kind g.names) table groups

-- those of the standard's table 7, and `div` and the directives' names (this project's own), by what they are for
abbrev pub clause_operators : List OperatorGroup
clause_operators =
    group 1200 Xfx (codes ":-" ∷ codes "-->" ∷ []) ∷
    group 1200 Fx (codes ":-" ∷ codes "?-" ∷ []) ∷
    group 1150 Fx (codes "dynamic" ∷ codes "discontiguous" ∷ codes "multifile" ∷ codes "initialization" ∷ []) ∷
    []

abbrev pub control_operators : List OperatorGroup
control_operators =
    group 1100 Xfy (codes ";" ∷ []) ∷
    group 1050 Xfy (codes "->" ∷ []) ∷
    group 1000 Xfy (codes "," ∷ []) ∷
    group 900 Fy (codes "\\+" ∷ []) ∷
    []

abbrev pub comparison_operators : List OperatorGroup
comparison_operators =
    group 700 Xfx (codes "=" ∷ codes "\\=" ∷ codes "==" ∷ codes "\\==" ∷ codes "@<" ∷ codes "@=<" ∷ codes "@>" ∷ codes "@>=" ∷ []) ∷
    group 700 Xfx (codes "=.." ∷ codes "is" ∷ codes "=:=" ∷ codes "=\\=" ∷ codes "<" ∷ codes "=<" ∷ codes ">" ∷ codes ">=" ∷ []) ∷
    []

abbrev pub arithmetic_operators : List OperatorGroup
arithmetic_operators =
    group 500 Yfx (codes "+" ∷ codes "-" ∷ codes "/\\" ∷ codes "\\/" ∷ []) ∷
    group 400 Yfx (codes "*" ∷ codes "/" ∷ codes "//" ∷ codes "rem" ∷ codes "mod" ∷ codes "div" ∷ codes "<<" ∷ codes ">>" ∷ []) ∷
    group 200 Xfx (codes "**" ∷ []) ∷
    group 200 Xfy (codes "^" ∷ []) ∷
    group 200 Fy (codes "-" ∷ codes "+" ∷ codes "\\" ∷ []) ∷
    []

unfoldable pub iso_operators : List OperatorGroup
iso_operators = clause_operators ++ control_operators ++ comparison_operators ++ arithmetic_operators

unfoldable pub iso_table : Table
unfolding iso_operators
iso_table = with_groups [] iso_operators

-- names that are never operators
abbrev pub is_reserved : List ℕ → Bool
is_reserved name = bytes_eq name (codes "[]") || bytes_eq name (codes "{}") || bytes_eq name (codes "|")

-- an infix meaning where the name is postfix, or the other way round
abbrev pub clashes : OpKind → Meanings → Bool
clashes kind ms = (is_infix kind && is_some ms.as_postfix) || (is_postfix kind && is_some ms.as_infix)

-- setting an operator, with its refusals in the order of the tests; priority 0 removes the operator of that class (8.14.3)
abbrev pub set_in : Table → ℤ → OpKind → List ℕ → Result Table OpFault
set_in table (negsuc n) kind name = Err Priority
set_in table (pos n) kind name =
    if nat_le 1201 n then Err Priority else
    if bytes_eq name (codes ",") then Err Comma else
    if is_reserved name then Err Reserved else
    if clashes kind (meanings_in table name) then Err Clash else
    Ok (with_op table n kind name)

-- a meaning of a class of kinds
abbrev pub IsMeaning : (OpKind → Bool) → Meaning → Type 0
IsMeaning class m = (class m.kind ≡ true) × (1 ≤ m.priority) × (m.priority ≤ 1200)

-- what holds of every table: each meaning is of its class and has a priority from 1 to 1200, no name is both infix and postfix,
-- the comma is the infix operator of priority 1000 and nothing else, and a reserved name means nothing
pub record IsTable (table : Table) : Type 0 where
  pub prefixes : (name : List ℕ) → IfSome (prefix_in table name) (IsMeaning is_prefix)
  pub infixes : (name : List ℕ) → IfSome (infix_in table name) (IsMeaning is_infix)
  pub postfixes : (name : List ℕ) → IfSome (postfix_in table name) (IsMeaning is_postfix)
  pub apart : (name : List ℕ) → is_some (infix_in table name) && is_some (postfix_in table name) ≡ false
  pub comma : meanings_in table (codes ",")
      ≡ record { as_prefix = None; as_infix = Some (record { priority = 1000; kind = Xfy }); as_postfix = None }
  pub reserved : (name : List ℕ) → is_reserved name ≡ true → meanings_in table name ≡ no_meaning
