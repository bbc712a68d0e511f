-- Bracketed parts are cut out first; then the words of each row are given their roles from the left (ISO/IEC 13211-1, 6.3).
use Rattle.std.specs.Prelude.{ℕ, List, [], ◌∷◌, if◌then◌else◌, Result, Ok, Err}
use Rattle.op_logic.specs.Term.{Term}
use Rattle.op_term.specs.Ops.{is_infix}
use Rattle.op_reader.specs.declared.bracket.Bracket.{Bracket}
use Rattle.op_reader.specs.declared.bracket.Bracket.TheVariants.{Square}
use Rattle.op_reader.specs.declared.row_kind.RowKind.{RowKind}
use Rattle.op_reader.specs.declared.row_kind.RowKind.TheVariants.{Clause, Arguments, Elements, Last}
use Rattle.op_reader.specs.Row.{Operator}
use Rattle.op_reader.specs.Words.{functor, minus, prefix, plain, excess, joins, Word, opened, closed, comma, bar, word}

-- words in their order, a part in brackets as one: the place of its opening bracket, what is inside, the place of its closing bracket
pub data Parts (N : Type 0) : Type 0 where
  none : Parts N
  single : Word N → Parts N → Parts N
  enclosed : ℕ → Bracket → Parts N → ℕ → Parts N → Parts N

-- some parts, and the place where they stop: that of the closing bracket behind them, or of the end token
pub record Level (N : Type 0) : Type 0 where
  pub parts : Parts N
  pub stop : ℕ

-- some words up to the first closing bracket that has no partner among them; and behind each such bracket up to the next
pub record Levels (N : Type 0) : Type 0 where
  pub inner : Level N
  pub outer : List (Level N)

abbrev pub level : {N : Type 0} → Parts N → ℕ → Level N
level parts stop = record { parts = parts; stop = stop }

-- the innermost level in brackets, as a part of the next
abbrev pub with_opening : {N : Type 0} → ℕ → Bracket → Level N → List (Level N) → Levels N
with_opening place b l [] = record { inner = level (enclosed place b l.parts l.stop none) l.stop; outer = [] }
with_opening place b l (o ∷ os) = record { inner = level (enclosed place b l.parts l.stop o.parts) o.stop; outer = os }

abbrev pub with_word : {N : Type 0} → Word N → Levels N → Levels N
with_word (opened place b) l = with_opening place b l.inner l.outer
with_word (closed place) l = record { inner = level none place; outer = l.inner ∷ l.outer }
with_word w l = record { inner = level (single w l.inner.parts) l.inner.stop; outer = l.outer }

-- the end token stands at `stop`
abbrev pub levels_of : {N : Type 0} → ℕ → List (Word N) → Levels N
levels_of stop [] = record { inner = level none stop; outer = [] }
levels_of stop (w ∷ ws) = with_word w (levels_of stop ws)

-- rows with their roles: the operators and operands of a row in their order; a separator or a list's bar begins the next row. A
-- compound has the rows of its arguments, and a bracketed part those inside. An integer that is too great has its place
pub data Rows (N : Type 0) : Type 0 where
  done : Rows N
  separator : Rows N → Rows N
  tail : Rows N → Rows N
  operator : Operator N → Rows N → Rows N
  operand : Term N → Rows N → Rows N
  too_great : ℕ → Rows N → Rows N
  compound : N → Rows N → Rows N → Rows N
  bracketed : Bracket → Rows N → Rows N → Rows N

-- the kind of a row says what a comma and a bar are in it: in a clause, in ( ) and in { } the comma is an operator; among arguments and
-- elements it separates; a list's tail is the last row
abbrev pub inside : Bracket → RowKind
inside Square = Elements
inside b = Clause

-- what is expected next: an operand; an operator; behind a functor its arguments; behind a sign its number
pub data Expected (N : Type 0) : Type 0 where
  an_operand : Expected N
  an_operator : Expected N
  arguments_of : N → Expected N
  a_number : Expected N

-- an infix operator expects an operand, and a postfix operator a further operator
abbrev pub behind_operator : {N : Type 0} → Operator N → Expected N
behind_operator o = if is_infix o.kind then an_operand else an_operator

abbrev pub place_of : {N : Type 0} → Word N → ℕ
place_of (opened place b) = place
place_of (closed place) = place
place_of (comma place o) = place
place_of (bar place) = place
place_of (word place a o) = place

abbrev pub on_rows : {N : Type 0} → (Rows N → Rows N) → Result (Rows N) ℕ → Result (Rows N) ℕ
on_rows f (Ok r) = Ok (f r)
on_rows f (Err place) = Err place

-- the fault inside comes before one behind
abbrev pub on_both : {N : Type 0} → (Rows N → Rows N → Rows N) → Result (Rows N) ℕ → Result (Rows N) ℕ → Result (Rows N) ℕ
on_both f (Ok r) (Ok s) = Ok (f r s)
on_both f (Ok r) (Err place) = Err place
on_both f (Err place) s = Err place

-- the roles of the words of these parts, which stop at `stop`; or the place of the first word that can't stand where it stands
abbrev pub roles : {N : Type 0} → RowKind → Expected N → Parts N → ℕ → Result (Rows N) ℕ
roles c an_operator none stop = Ok done
roles c e none stop = Err stop
roles c an_operand (single (word place (functor f) o) ps) stop = roles c (arguments_of f) ps stop
roles c an_operand (single (word place (minus t) o) ps) stop = on_rows (operand t) (roles c a_number ps stop)
roles c an_operand (single (word place (prefix p) o) ps) stop = on_rows (operator p) (roles c an_operand ps stop)
roles c an_operand (single (word place (plain t) o) ps) stop = on_rows (operand t) (roles c an_operator ps stop)
roles c an_operand (single (word place excess o) ps) stop = on_rows (too_great place) (roles c an_operator ps stop)
roles c an_operand (enclosed place b ps end qs) stop =
    on_both (bracketed b) (roles (inside b) an_operand ps end) (roles c an_operator qs stop)
roles c an_operator (single (word place a (joins o)) ps) stop = on_rows (operator o) (roles c (behind_operator o) ps stop)
roles Clause an_operator (single (comma place (joins o)) ps) stop = on_rows (operator o) (roles Clause (behind_operator o) ps stop)
roles Arguments an_operator (single (comma place o) ps) stop = on_rows separator (roles Arguments an_operand ps stop)
roles Elements an_operator (single (comma place o) ps) stop = on_rows separator (roles Elements an_operand ps stop)
roles Elements an_operator (single (bar place) ps) stop = on_rows tail (roles Last an_operand ps stop)
roles c (arguments_of f) (enclosed place b ps end qs) stop =
    on_both (compound f) (roles Arguments an_operand ps end) (roles c an_operator qs stop)
roles c a_number (single w ps) stop = roles c an_operator ps stop
roles c e (single w ps) stop = Err (place_of w)
roles c e (enclosed place b ps end qs) stop = Err place

-- the roles of a clause's words
abbrev pub clause_roles : {N : Type 0} → ℕ → List (Word N) → Result (Rows N) ℕ
clause_roles stop ws = let l = (levels_of stop ws).inner in roles Clause an_operand l.parts l.stop
