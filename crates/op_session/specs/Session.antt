-- A session: a recursion over the bytes of the commands, which answers each command over the run's events.
use Rattle.std.specs.Prelude.{ℕ, zero, suc, ◌-◌, nat_lt, Bool, true, false, List, [], ◌∷◌, ◌++◌, length, codes, decimal}
use Rattle.std.specs.Prelude.{Result, Ok, Err, if◌then◌else◌}
use Rattle.op_base.specs.Characters.{is_layout}
use Rattle.op_logic.specs.Term.{Term, node, no_args}
use Rattle.op_term.specs.Ops.{Table, iso_table}
use Rattle.op_trace.specs.Database.{Text, text_eq}
use Rattle.op_trace.specs.World.{Event}
use Rattle.op_trace.specs.Run.{events_of}
use Rattle.op_trace.specs.Outside.{Taking}
use Rattle.op_token.specs.declared.piece.Piece.{Piece}
use Rattle.op_token.specs.declared.piece.Piece.TheVariants as piece
use Rattle.op_token.specs.Cut.{cut_of, text_in, rest_in}
use Rattle.op_term.specs.declared.quotes.DoubleQuotes.TheVariants.{Codes}
use Rattle.op_reader.specs.declared.fault.ReadFaultKind.{ReadFaultKind}
use Rattle.op_store.specs.Load.{Query, Bad, unreadable, not_body, command_of}
use Rattle.op_session.specs.declared.command.Meaning.{Meaning}
use Rattle.op_session.specs.declared.command.Meaning.TheVariants.{Next, Other, Unreadable}
use Rattle.op_session.specs.Words.{kind_word}
use Rattle.op_event.specs.Line.{event_line}
use Rattle.op_session.specs.Traced.{Traced}
use Rattle.op_moves.specs.Moves.{Stand, at_start, Found, At, No_event, Past_budget, Outcome, next, moved}
use Rattle.op_moves.specs.Moves as moves

-- the command `next`
abbrev pub is_next : Term Text → Bool
is_next (node f no_args) = text_eq f (codes "next")
is_next t = false

-- what a text that was read as a command means: `next`, another goal or no goal at all, or it can't be read
abbrev pub goal_meaning : Term Text → Meaning
goal_meaning t = if is_next t then Next else Other

abbrev pub meaning_of : Result Query Bad → Meaning
meaning_of (Ok q) = goal_meaning q.body
meaning_of (Err (not_body t)) = Other
meaning_of (Err (unreadable place kind)) = Unreadable place kind

-- commands are read with the operators of the standard, and text in double quotes as codes
abbrev pub meaning : List ℕ → Meaning
meaning text = meaning_of (command_of iso_table Codes text)

-- the bytes from the first one that isn't layout
abbrev pub from_first : List ℕ → List ℕ
from_first [] = []
from_first (b ∷ s) = if is_layout b then from_first s else b ∷ s

-- the line of an event, where there is one
abbrev pub line_at : Table → List Event → ℕ → List ℕ
line_at ops [] i = []
line_at ops (e ∷ es) zero = event_line ops e
line_at ops (e ∷ es) (suc i) = line_at ops es i

abbrev pub found_text : Traced → Found → List ℕ
found_text traced (At j) = line_at traced.table (events_of traced.run.turns) (j - 1) ++ codes "\nyes\n"
found_text traced No_event = codes "no\n"
found_text traced Past_budget = codes "thrown trace_budget\n"
found_text traced moves.Spent = codes "budget\n"

-- a command that isn't known is refused for its form, and a text that can't be read by its kind and place
abbrev pub other_text : List ℕ
other_text = codes "unreadable form 0\n"

abbrev pub unreadable_text : ℕ → ReadFaultKind → List ℕ
unreadable_text place kind = codes "unreadable " ++ kind_word kind ++ codes " " ++ decimal place ++ codes "\n"

-- an answer, and where the user stands then
pub record Answer : Type 0 where
  pub text : List ℕ
  pub stand : Stand

-- the steps that a command may take: a million, one of which is its goal's
abbrev pub move_steps : ℕ
move_steps = 999999

-- what `next` comes to
abbrev pub next_in : Traced → Stand → Outcome
next_in traced s = next (events_of traced.run.turns) traced.run.ending s move_steps

abbrev pub answer_by : Traced → Stand → Meaning → Answer
answer_by traced s Next =
    let o : Outcome = next_in traced s in
    record { text = found_text traced o.found; stand = moved s o }
answer_by traced s Other = record { text = other_text; stand = s }
answer_by traced s (Unreadable place kind) = record { text = unreadable_text place kind; stand = s }

abbrev pub answer_to : Traced → Stand → List ℕ → Answer
answer_to traced s text = answer_by traced s (meaning text)

-- commands that are these bytes and no more
abbrev pub complete : List ℕ → Taking
complete bytes = record { bytes = bytes; over = true }

-- commands of which these bytes were taken, and more may come
abbrev pub so_far : List ℕ → Taking
so_far bytes = record { bytes = bytes; over = false }

-- whether a command stands first in these n bytes. While more may come, it is a text that has a byte behind its full stop, since where
-- it ends, or whether it goes on, only that byte can show; where the commands are over, it is any text, or a rest that is more than
-- layout and comments
abbrev pub is_due : Bool → Piece → ℕ → Bool
is_due false (piece.Text from end) n = nat_lt end n
is_due false piece.NoEnd n = false
is_due false piece.Empty n = false
is_due true (piece.Text from end) n = true
is_due true piece.NoEnd n = true
is_due true piece.Empty n = false

-- the bytes of that command; of a rest, those from the first one that isn't layout
abbrev pub command_text : Piece → List ℕ → List ℕ
command_text (piece.Text from end) bytes = text_in (piece.Text from end) bytes
command_text piece.NoEnd bytes = from_first bytes
command_text piece.Empty bytes = []

-- what stands behind it: nothing behind a rest
abbrev pub behind_command : Piece → List ℕ → List ℕ
behind_command (piece.Text from end) bytes = rest_in (piece.Text from end) bytes
behind_command piece.NoEnd bytes = []
behind_command piece.Empty bytes = []

-- the course of a session: the answers in order, where the user stands behind them, and the bytes that are left unread
pub record Course : Type 0 where
  pub answers : List (List ℕ)
  pub stand : Stand
  pub left : List ℕ

-- no command stands first: nothing more is answered, and where the commands are over all their bytes were read
abbrev pub no_more : Stand → Course
no_more s = record { answers = []; stand = s; left = [] }

-- an answer, and what is answered behind it
abbrev pub answer_first : Answer → Course → Course
answer_first a c = record { answers = a.text ∷ c.answers; stand = c.stand; left = c.left }

-- a session over these bytes, from where the user stands, with n commands at most: the first is answered, and then those behind it
abbrev pub session_from : Traced → Bool → ℕ → Stand → List ℕ → Course
session_from traced over zero s bytes = no_more s
session_from traced over (suc n) s bytes =
    let x : Piece = cut_of bytes in
    let a : Answer = answer_to traced s (command_text x bytes) in
    if is_due over x (length bytes) then answer_first a (session_from traced over n a.stand (behind_command x bytes)) else no_more s

-- a session from the start: n bytes have at most n commands
abbrev pub session : Traced → Taking → Course
session traced t = session_from traced t.over (length t.bytes) at_start t.bytes

abbrev pub joined : List (List ℕ) → List ℕ
joined [] = []
joined (x ∷ xs) = x ++ joined xs

-- all that is said, one answer behind the other
abbrev pub said_by : Course → List ℕ
said_by c = joined c.answers

abbrev pub said_in : Traced → Taking → List ℕ
said_in traced t = said_by (session traced t)

-- the furthest place that is looked at
abbrev pub furthest_in : Traced → Taking → ℕ
furthest_in traced t = (session traced t).stand.furthest
