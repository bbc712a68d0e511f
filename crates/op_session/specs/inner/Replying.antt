-- The text of a move's answer, as code sees it.
use Rattle.std.specs.Prelude.{ℕ, ◌==◌, List, [], ◌++◌, codes, nat_le, if◌then◌else◌}
use Rattle.op_term.specs.Ops.{Table}
use Rattle.op_trace.specs.Database.{Text}
use Rattle.op_cursor.specs.declared.cursor.Move.{Move}
use Rattle.op_cursor.specs.declared.cursor.Move.TheVariants as move
use Rattle.op_cursor.specs.Seen.{Seen}
use Rattle.op_session.specs.Commands.{binding_lines, line_of}
use Rattle.op_session.specs.inner.Standing.{event_of}

-- the last line, by what the move answers and the steps that are left: a ball of one node takes one
abbrev pub end_line : Move → ℕ → List ℕ
end_line move.Moved left = codes "yes\n"
end_line move.NoEvent left = codes "no\n"
end_line move.PastBudget left = if nat_le 1 left then codes "thrown trace_budget\n" else codes "budget\n"
end_line move.Spent left = codes "budget\n"

abbrev pub bindings_by : Move → List (Text × ℕ) → List ℕ
bindings_by move.Moved names = binding_lines names
bindings_by m names = []

-- the line of another place than the one of before
abbrev pub place_by : Table → ℕ → Seen → List ℕ
place_by ops from v = if from == v.place then [] else line_of ops (event_of v) ++ codes "\n"

abbrev pub move_text : Table → List (Text × ℕ) → ℕ → Move → ℕ → Seen → List ℕ
move_text ops names from m left v = bindings_by m names ++ place_by ops from v ++ end_line m left
