-- Loading a text, and reading a goal and a command. Terms are read one after the other with the operators and flags of that moment.
use Rattle.std.specs.Prelude.{ℕ, zero, suc, ◌+◌, ◌==◌, ◌||◌, not, nat_lt, Bool, List, [], ◌∷◌, ◌++◌, take, drop, length, filter, count_by}
use Rattle.std.specs.Prelude.{Option, Some, None, Result, Ok, Err, codes, bytes_eq, if◌then◌else◌}
use Rattle.op_base.specs.Characters.{is_layout}
use Rattle.op_logic.specs.Term.{Term}
use Rattle.op_store.specs.Counted.{variable_count}
use Rattle.op_trace.specs.Database.{Text}
use Rattle.op_term.specs.Ops.{Table}
use Rattle.op_token.specs.Tokens.{scan_of}
use Rattle.op_term.specs.declared.quotes.DoubleQuotes.{DoubleQuotes}
use Rattle.op_reader.specs.declared.fault.ReadFaultKind.{ReadFaultKind}
use Rattle.op_reader.specs.declared.fault.ReadFaultKind.TheVariants.{NoEnd}
use Rattle.op_reader.specs.Reading.{Outcome, term, end, refused, reading_of, first_place}
use Rattle.op_store.specs.declared.names.locked.Locked.{Locked}
use Rattle.op_trace.specs.Database.{Database}
use Rattle.op_trace.specs.Body.{converted}
use Rattle.op_store.specs.Fault.{Fault, syntax, trailing, body}
use Rattle.op_store.specs.Clauses.{with_term}

-- a fault, with its line, counted from 1
pub record Found : Type 0 where
  pub line : ℕ
  pub fault : Fault

abbrev pub newlines : List ℕ → ℕ
newlines bytes = count_by (λ b. b == 10) bytes

-- the place of the first token
abbrev pub first_token : List ℕ → ℕ
first_token bytes = first_place (scan_of bytes).tokens

-- of bytes that begin at a line: the line of a place, and of the first token
abbrev pub line_at : ℕ → List ℕ → ℕ → ℕ
line_at line bytes place = line + newlines (take place bytes)

-- a fault of reading has the line of its place; at the end of the bytes, that of the first token
abbrev pub fault_line : ℕ → List ℕ → ℕ → ℕ
fault_line line bytes place = line_at line bytes (if nat_lt place (length bytes) then place else first_token bytes)

-- a world, and the first fault
pub record Loaded : Type 0 where
  pub world : Database
  pub found : Option Found

abbrev pub loaded : Database → Loaded
loaded w = record { world = w; found = None }

-- the world before the refused term
abbrev pub stopped : Database → ℕ → Fault → Loaded
stopped w line f = record { world = w; found = Some (record { line = line; fault = f }) }

-- at most so many terms of bytes that begin at a line
unfoldable pub load_from : ℕ → Locked → Database → ℕ → List ℕ → Loaded
load_from zero l w line bytes = loaded w
load_from (suc n) l w line bytes =
    elim (reading_of w.table w.flags.quotes bytes) [
      | end ↦ loaded w
      | refused place kind ↦ stopped w (fault_line line bytes place) (syntax kind)
      | term t names used ↦
          elim (with_term l w t) [
            | Err f ↦ stopped w (line_at line bytes (first_token bytes)) f
            | Ok u ↦ load_from n l u (line_at line bytes used) (drop used bytes)
          ]
    ]

-- a whole text, in which each term takes a byte at least
abbrev pub load_text : Locked → Database → List ℕ → Loaded
load_text l w text = load_from (suc (length text)) l w 1 text

-- a goal with its variables' names and how many variables there are
pub record Query : Type 0 where
  pub body : Term Text
  pub names : List (Text × ℕ)
  pub variables : ℕ

abbrev pub query : Term Text → Term Text → List (Text × ℕ) → Query
query t b names = record { body = b; names = names; variables = variable_count t }

-- layout, and at most one full stop
abbrev pub is_rest : List ℕ → Bool
is_rest bytes = let marks = filter (λ b. not (is_layout b)) bytes in bytes_eq marks [] || bytes_eq marks (codes ".")

abbrev pub found : ℕ → Fault → Result Query Found
found line f = Err (record { line = line; fault = f })

-- a goal is read with a full stop of its own on a line behind it
abbrev pub goal_bytes : List ℕ → List ℕ
goal_bytes text = text ++ (10 ∷ 46 ∷ 10 ∷ [])

-- the first fault of a term that was read as a goal: what stands behind it, then its body
abbrev pub goal_converted : ℕ → Term Text → List (Text × ℕ) → Option (Term Text) → Result Query Found
goal_converted line t names None = found line body
goal_converted line t names (Some b) = Ok (query t b names)

abbrev pub goal_read : List ℕ → Term Text → List (Text × ℕ) → ℕ → Result Query Found
goal_read bytes t names used =
    let line = line_at 1 bytes (first_token bytes) in
    if is_rest (drop used bytes) then goal_converted line t names (converted [] t).body else found line trailing

abbrev pub goal_outcome : List ℕ → Outcome → Result Query Found
goal_outcome bytes end = found (line_at 1 bytes 0) (syntax NoEnd)
goal_outcome bytes (refused place kind) = found (fault_line 1 bytes place) (syntax kind)
goal_outcome bytes (term t names used) = goal_read bytes t names used

unfoldable pub goal_in : Table → DoubleQuotes → List ℕ → Result Query Found
goal_in table quotes bytes = goal_outcome bytes (reading_of table quotes bytes)

unfoldable pub goal_of : Table → DoubleQuotes → List ℕ → Result Query Found
goal_of table quotes text = goal_in table quotes (goal_bytes text)

-- why a command is none: it can't be read, or its term can't be converted
pub data Bad : Type 0 where
  unreadable : ℕ → ReadFaultKind → Bad
  not_body : Term Text → Bad

-- a term that was read as a command
abbrev pub command_read : Term Text → List (Text × ℕ) → Result Query Bad
command_read t names = elim ((converted [] t).body) [ None ↦ Err (not_body t) | Some b ↦ Ok (query t b names) ]

-- a text without a token counts as a term without its end; what stands behind the first term is not looked at
abbrev pub command_outcome : List ℕ → Outcome → Result Query Bad
command_outcome text end = Err (unreadable (length text) NoEnd)
command_outcome text (refused place kind) = Err (unreadable place kind)
command_outcome text (term t names used) = command_read t names

unfoldable pub command_of : Table → DoubleQuotes → List ℕ → Result Query Bad
command_of table quotes text = command_outcome text (reading_of table quotes text)
