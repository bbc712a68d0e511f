-- What a text asks for, by what it was read as.
use Rattle.std.specs.Prelude.{◌≡◌, Bool, true, false, not, List, length, is_some, Some, Result, Ok, Err}
use Rattle.op_logic.specs.Names.{named}
use Rattle.op_trace.specs.Database.{Text}
use Rattle.op_store.specs.Load.{Query, Bad, unreadable, not_body}
use Rattle.op_store.specs.Queries.{query_named, IsSoundGoal}
use Rattle.op_session.specs.declared.command.Asked.{Asked}
use Rattle.op_session.specs.declared.command.Asked.TheVariants as asked
use Rattle.op_session.specs.Commands.{command_in}

-- a term that is no command, or no goal at all
abbrev pub is_refused : Result Query Bad → Bool
is_refused (Ok q) = not (is_some (command_in q.body))
is_refused (Err (not_body t)) = true
is_refused (Err (unreadable place kind)) = false

abbrev pub IsAsked : List Text → Asked → Result Query Bad → Type 0
IsAsked names (asked.Command c g) r =
    (r ≡ Ok (query_named names g)) × (command_in (named names g.body) ≡ Some c) × IsSoundGoal (length names) g
IsAsked names asked.Other r = is_refused r ≡ true
IsAsked names (asked.Unreadable place kind) r = r ≡ Err (unreadable place kind)
