-- The commands of a session, and what each comes to: as the goal of a query of its own, over all events of the run.
use Rattle.std.specs.Prelude.{ℕ, ◌-◌, ◌==◌, nat_le, Bool, true, false, not, List, [], ◌∷◌, ◌++◌, codes, pos, negsuc}
use Rattle.std.specs.Prelude.{Option, Some, None, if◌then◌else◌}
use Rattle.op_logic.specs.Term.{Term, var, int, node, no_args, arg, size, atom, args_of, nth_arg}
use Rattle.op_term.specs.Ops.{Table, iso_table}
use Rattle.op_trace.specs.Database.{Text, text_eq}
use Rattle.op_trace.specs.World.{Event}
use Rattle.op_trace.specs.Ending.{Ending}
use Rattle.op_trace.specs.Run.{events_of}
use Rattle.op_trace.specs.Copy.{copied}
use Rattle.op_trace.specs.Builtins.{instantiation_error, type_error}
use Rattle.op_inspect.specs.Errors.{domain_error}
use Rattle.op_moves.specs.Pattern.{is_unbound, is_event}
use Rattle.op_moves.specs.Moves.{Stand, Found, At, No_event, Past_budget, Outcome, moved, event_at}
use Rattle.op_moves.specs.Moves.{next, prev, first, last, parent, finish, retry, goto, seek, seek_back}
use Rattle.op_moves.specs.Moves as moves
use Rattle.op_writer.specs.Cut.{short}
use Rattle.op_event.specs.Line.{event_line}
use Rattle.op_store.specs.Load.{Query}
use Rattle.op_session.specs.declared.command.Command.{Command}
use Rattle.op_session.specs.declared.command.Command.TheVariants as command
use Rattle.op_session.specs.Traced.{Traced}

-- the commands by their names: those without an argument, and those with one
abbrev pub command_alone : Text → Option Command
command_alone f =
    if text_eq f (codes "next") then Some command.Next else
    if text_eq f (codes "prev") then Some command.Prev else
    if text_eq f (codes "first") then Some command.First else
    if text_eq f (codes "last") then Some command.Last else
    if text_eq f (codes "parent") then Some command.Parent else
    if text_eq f (codes "finish") then Some command.Finish else
    if text_eq f (codes "retry") then Some command.Retry else None

abbrev pub command_with : Text → Option Command
command_with f =
    if text_eq f (codes "goto") then Some command.Goto else
    if text_eq f (codes "seek") then Some command.Seek else
    if text_eq f (codes "seek_back") then Some command.SeekBack else None

-- what a goal is as a command, by its name and how many arguments it has
abbrev pub command_in : Term Text → Option Command
command_in (node f no_args) = command_alone f
command_in (node f (arg t no_args)) = command_with f
command_in _ = None

-- how a query ends: with a solution, without one, by a ball, or it needs more steps than it may take
pub data Reply : Type 0 where
  Yes : Reply
  No : Reply
  Thrown : Term Text → Reply
  Budget : Reply

-- and where the user stands then
pub record Replied : Type 0 where
  pub reply : Reply
  pub stand : Stand

abbrev pub replied : Reply → Stand → Replied
replied r s = record { reply = r; stand = s }

-- A ball is a copy with new variables, behind the n of the goal, at a step for each node.
abbrev pub thrown : ℕ → ℕ → Term Text → Reply
thrown n left b = if nat_le (size b) left then Thrown (copied n b) else Budget

-- a move that finds a place succeeds, one that finds none fails, or throws where it met the end of a spent run
abbrev pub reply_of : ℕ → Outcome → Found → Reply
reply_of n o (At j) = Yes
reply_of n o No_event = No
reply_of n o Past_budget = thrown n o.left (atom (codes "trace_budget"))
reply_of n o moves.Spent = Budget

abbrev pub by_move : ℕ → Stand → Outcome → Replied
by_move n s o = replied (reply_of n o o.found) (moved s o)

-- an argument is refused without a step, and its ball is thrown
abbrev pub refused : ℕ → Stand → ℕ → Term Text → Replied
refused n s left b = replied (thrown n left b) s

-- a place is an integer that isn't negative
abbrev pub to_place : List Event → Ending → ℕ → Stand → ℕ → Term Text → Replied
to_place es e n s left (var v) = refused n s left instantiation_error
to_place es e n s left (int (pos j)) = by_move n s (goto es e j s left)
to_place es e n s left (int (negsuc j)) =
    refused n s left (domain_error (codes "not_less_than_zero") (int (negsuc j)))
to_place es e n s left t = refused n s left (type_error (codes "integer") t)

-- a pattern is a term of an event
abbrev pub by_pattern : ℕ → Stand → ℕ → Term Text → Outcome → Replied
by_pattern n s left p o =
    if is_unbound p then refused n s left instantiation_error else
    if is_event p then by_move n s o else refused n s left (domain_error (codes "event_pattern") p)

-- what a command comes to: n is how many variables its goal has, t its argument
abbrev pub comes_to : List Event → Ending → ℕ → Stand → ℕ → Term Text → Command → Replied
comes_to es e n s left t command.Next = by_move n s (next es e s left)
comes_to es e n s left t command.Prev = by_move n s (prev s left)
comes_to es e n s left t command.First = by_move n s (first s left)
comes_to es e n s left t command.Last = by_move n s (last es e s left)
comes_to es e n s left t command.Parent = by_move n s (parent es s left)
comes_to es e n s left t command.Finish = by_move n s (finish es e s left)
comes_to es e n s left t command.Retry = by_move n s (retry es s left)
comes_to es e n s left t command.Goto = to_place es e n s left t
comes_to es e n s left t command.Seek = by_pattern n s left t (seek t es e s left)
comes_to es e n s left t command.SeekBack = by_pattern n s left t (seek_back t es s left)

-- a query may take a million steps, the first of which is that of its goal
abbrev pub query_budget : ℕ
query_budget = 1000000

abbrev pub replies : Traced → Stand → Query → Command → Replied
replies traced s q c =
    comes_to (events_of traced.run.turns) traced.run.ending q.variables s (query_budget - 1) (nth_arg (args_of q.body) 0) c

-- a line `Name = Text` for each named variable that doesn't begin with `_`: a move binds none of them
abbrev pub is_told : Text → Bool
is_told [] = true
is_told (b ∷ f) = not (b == 95)

abbrev pub binding_line : Text × ℕ → List ℕ
binding_line x = if is_told x.0 then x.0 ++ codes " = " ++ short iso_table (var x.1) 699 true ++ codes "\n" else []

-- the line of a place
abbrev pub line_of : Table → Option Event → List ℕ
line_of ops None = codes "0 start"
line_of ops (Some e) = event_line ops e

-- which stands in an answer where it isn't the place of before
abbrev pub place_text : Traced → ℕ → ℕ → List ℕ
place_text traced p j =
    if p == j then [] else line_of traced.table (event_at (events_of traced.run.turns) j) ++ codes "\n"

abbrev pub last_line : Reply → List ℕ
last_line Yes = codes "yes\n"
last_line No = codes "no\n"
last_line (Thrown b) = codes "thrown " ++ short iso_table b 1200 false ++ codes "\n"
last_line Budget = codes "budget\n"

abbrev pub binding_lines : List (Text × ℕ) → List ℕ
binding_lines [] = []
binding_lines (x ∷ xs) = binding_line x ++ binding_lines xs

abbrev pub bindings_of : Reply → List (Text × ℕ) → List ℕ
bindings_of Yes names = binding_lines names
bindings_of _ names = []

-- the text of an answer
abbrev pub reply_text : Traced → Stand → List (Text × ℕ) → Replied → List ℕ
reply_text traced s names r =
    bindings_of r.reply names ++ place_text traced s.place r.stand.place ++ last_line r.reply
