-- What a call of the program does by its words and the shelf.
use Rattle.std.specs.Prelude.{ℕ, nat_lt, false, List, [], ◌∷◌, ◌++◌, length, codes, Option, Some, None, Result, Ok, Err, if◌then◌else◌}
use Rattle.op_desk.specs.Contents.{Files, bytes_of}
use Rattle.op_term.specs.Ops.{iso_table}
use Rattle.op_term.specs.declared.quotes.DoubleQuotes.TheVariants.{Codes}
use Rattle.op_trace.specs.World as trace
use Rattle.op_trace.specs.Run.{run}
use Rattle.op_store.specs.declared.names.locked.Locked.TheVariants.{Program}
use Rattle.op_trace.specs.Database.{Database}
use Rattle.op_machine.specs.Acts.{setup_for}
use Rattle.op_store.specs.Load.{Query, Found, Loaded, load_text, goal_of}
use Rattle.op_session.specs.declared.status.Status.{Status}
use Rattle.op_session.specs.declared.status.Status.TheVariants as status
use Rattle.op_session.specs.Words.{fault_words, load_line}
use Rattle.op_session.specs.Runnable.{is_runnable, are_runnable}
use Rattle.op_session.specs.Traced.{Traced}

-- a fault line, or a session over a run; or the program's file is not on the shelf
pub data Outcome : Type 0 where
  Line : Status → List ℕ → Outcome
  Missing : Outcome
  Session : Traced → Outcome

-- how many bytes a file may have, and how many may be taken of the commands
abbrev pub file_limit : ℕ
file_limit = 16777216

abbrev pub channel_limit : ℕ
channel_limit = 67108864

-- the line for words that aren't two
abbrev pub usage_line : List ℕ
usage_line = codes "opium: usage words\n"

abbrev pub long_line : List ℕ → List ℕ
long_line name = codes "opium: too long " ++ name ++ codes "\n"

-- before a program is loaded there are no clauses, the operators of the standard, and text in double quotes is codes
abbrev pub first_world : Database
first_world = record { procedures = []; next = 0; table = iso_table; flags = record { quotes = Codes; unknown_fails = false } }

-- the run of a goal: so many steps, up to its first solution
abbrev pub traced_of : ℕ → Database → Query → Traced
traced_of budget w q = record {
  run = run (setup_for budget 1) q.body q.variables (trace.loaded w);
  table = w.table;
}

-- a text is refused by its first fault, and then where it has a goal that can't be run by now
abbrev pub refused : List ℕ → Found → Outcome
refused name f = Line status.Load (load_line name f.line (fault_words f.fault))

abbrev pub unrunnable : List ℕ → Outcome
unrunnable name = Line status.Load (load_line name 1 (codes "form"))

abbrev pub goal_name : List ℕ
goal_name = codes "(goal)"

-- ten million steps
abbrev pub with_query : Database → Query → Outcome
with_query w q = if is_runnable q.body then Session (traced_of 10000000 w q) else unrunnable goal_name

abbrev pub with_goal : Database → Result Query Found → Outcome
with_goal w (Err f) = refused goal_name f
with_goal w (Ok q) = with_query w q

abbrev pub with_world : List ℕ → List ℕ → Database → Outcome
with_world name goal w = if are_runnable w then with_goal w (goal_of w.table w.flags.quotes goal) else unrunnable name

abbrev pub with_found : List ℕ → List ℕ → Database → Option Found → Outcome
with_found name goal w (Some f) = refused name f
with_found name goal w None = with_world name goal w

abbrev pub with_loaded : List ℕ → List ℕ → Loaded → Outcome
with_loaded name goal l = with_found name goal l.world l.found

abbrev pub with_bytes : List ℕ → List ℕ → Option (List ℕ) → Outcome
with_bytes name goal None = Missing
with_bytes name goal (Some bytes) =
    if nat_lt file_limit (length bytes) then Line status.TooLong (long_line name)
    else with_loaded name goal (load_text Program first_world bytes)

-- the words are the program's file and the goal
abbrev pub outcome_of : Files → List (List ℕ) → Outcome
outcome_of files (name ∷ goal ∷ []) = with_bytes name goal (bytes_of files name)
outcome_of files words = Line status.Usage usage_line
