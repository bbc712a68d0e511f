-- The terms of rows: each row has its tree, within 1200 in a clause, in ( ) and in { }, and within 999 as an argument, an element
-- or a tail (ISO/IEC 13211-1, 6.3.3 to 6.3.6).
use Rattle.std.specs.Prelude.{ℕ, pos, List, [], ◌∷◌, Option, Some, None, option_map, option_and_then, unwrap_or, codes}
use Rattle.op_logic.specs.Term.{Term, int, node, atom, Args, no_args, arg}
use Rattle.op_reader.specs.declared.bracket.Bracket.{Bracket}
use Rattle.op_reader.specs.declared.bracket.Bracket.TheVariants.{Round, Square, Curly}
use Rattle.op_reader.specs.Row.{Member, operand as an_operand, operator as an_operator, tree}
use Rattle.op_reader.specs.Words.{list_of}
use Rattle.op_reader.specs.Roles.{Rows, done, separator, tail, operator, operand, too_great, compound, bracketed}

-- the names of lists and of { }
pub record Known (N : Type 0) : Type 0 where
  pub dot : N
  pub nil : N
  pub braces : N

abbrev pub known : Known (List ℕ)
known = record { dot = codes "."; nil = codes "[]"; braces = codes "{}" }

-- a row, and the terms of the rows behind it up to the end of the part, with a list's tail
pub record ReadRows (N : Type 0) : Type 0 where
  pub row : List (Member N)
  pub rest : List (Term N)
  pub tail : Option (Term N)

abbrev pub with_member : {N : Type 0} → Member N → ReadRows N → ReadRows N
with_member p r = record { row = p ∷ r.row; rest = r.rest; tail = r.tail }

abbrev pub args_of : {N : Type 0} → List (Term N) → Args N
args_of [] = no_args
args_of (t ∷ ts) = arg t (args_of ts)

-- the row is finished within 999, and another one stands before it
abbrev pub separated : {N : Type 0} → ReadRows N → Option (ReadRows N)
separated r = option_map (λ t. record { row = []; rest = t ∷ r.rest; tail = r.tail }) (tree 999 r.row)

-- the row is finished as a tail
abbrev pub tailed : {N : Type 0} → ReadRows N → Option (ReadRows N)
tailed r = option_map (λ t. record { row = []; rest = []; tail = Some t }) (tree 999 r.row)

abbrev pub compound_of : {N : Type 0} → N → ReadRows N → Option (Term N)
compound_of f r = option_map (λ t. node f (arg t (args_of r.rest))) (tree 999 r.row)

abbrev pub bracketed_of : {N : Type 0} → Known N → Bracket → ReadRows N → Option (Term N)
bracketed_of k Round r = tree 1200 r.row
bracketed_of k Square r = option_map (λ t. list_of k.dot (unwrap_or r.tail (atom k.nil)) (t ∷ r.rest)) (tree 999 r.row)
bracketed_of k Curly r = option_map (λ t. node k.braces (arg t no_args)) (tree 1200 r.row)

-- a finished term, as an operand of the row behind it
abbrev pub as_operand : {N : Type 0} → Option (Term N) → Option (ReadRows N) → Option (ReadRows N)
as_operand t r = option_and_then (λ t. option_map (with_member (an_operand t)) r) t

-- None where a row has no tree. An integer that is too great stands as 0, since no term with it is read
abbrev pub read_rows : {N : Type 0} → Known N → Rows N → Option (ReadRows N)
read_rows k done = Some (record { row = []; rest = []; tail = None })
read_rows k (separator rs) = option_and_then separated (read_rows k rs)
read_rows k (tail rs) = option_and_then tailed (read_rows k rs)
read_rows k (operator o rs) = option_map (with_member (an_operator o)) (read_rows k rs)
read_rows k (operand t rs) = option_map (with_member (an_operand t)) (read_rows k rs)
read_rows k (too_great place rs) = option_map (with_member (an_operand (int (pos 0)))) (read_rows k rs)
read_rows k (compound f inner rs) = as_operand (option_and_then (compound_of f) (read_rows k inner)) (read_rows k rs)
read_rows k (bracketed b inner rs) = as_operand (option_and_then (bracketed_of k b) (read_rows k inner)) (read_rows k rs)

-- the term of a clause
abbrev pub term_of : {N : Type 0} → Known N → Rows N → Option (Term N)
term_of k rs = option_and_then (λ r. tree 1200 r.row) (read_rows k rs)

abbrev pub first_of : Option ℕ → Option ℕ → Option ℕ
first_of (Some place) other = Some place
first_of None other = other

-- the place of the first integer that is too great
abbrev pub excess_in : {N : Type 0} → Rows N → Option ℕ
excess_in done = None
excess_in (separator rs) = excess_in rs
excess_in (tail rs) = excess_in rs
excess_in (operator o rs) = excess_in rs
excess_in (operand t rs) = excess_in rs
excess_in (too_great place rs) = Some place
excess_in (compound f inner rs) = first_of (excess_in inner) (excess_in rs)
excess_in (bracketed b inner rs) = first_of (excess_in inner) (excess_in rs)
