-- Which move a command is.
use Rattle.std.specs.Prelude.{ℕ}
use Rattle.op_logic.specs.Term.{Term}
use Rattle.op_trace.specs.Database.{Text}
use Rattle.op_moves.specs.Moves as moves
use Rattle.op_cursor.specs.Moving.{Moving, to_place, back_one, to_start, to_parent, to_call, back_to}
use Rattle.op_session.specs.declared.command.Command.{Command}
use Rattle.op_session.specs.declared.command.Command.TheVariants as command

-- to the place j, or by the pattern p
abbrev pub moving_of : ℕ → Term Text → Command → Moving
moving_of j p command.Next = moves.next
moving_of j p command.Prev = back_one
moving_of j p command.First = to_start
moving_of j p command.Last = moves.last
moving_of j p command.Parent = to_parent
moving_of j p command.Finish = moves.finish
moving_of j p command.Retry = to_call
moving_of j p command.Goto = to_place j
moving_of j p command.Seek = moves.seek p
moving_of j p command.SeekBack = back_to p
