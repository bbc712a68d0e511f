-- The parts of an event's term as they stand in a view, and both sides of a pair.
use Rattle.std.specs.Prelude.{ℕ, ◌<◌, List, length}
use Rattle.op_logic.specs.Term.{Term, atom}
use Rattle.op_logic.specs.Names.{named, HasNames}
use Rattle.op_term.specs.Places.{term_at}
use Rattle.op_bind.specs.State.{value_of}
use Rattle.op_trace.specs.Database.{Text}
use Rattle.op_moves.specs.EventTerm.{number, shown, port_name, event_term}
use Rattle.op_event.specs.View.{Showing, event_in}
use Rattle.op_cursor.specs.declared.part.Part.{Part}
use Rattle.op_cursor.specs.declared.part.Part.TheVariants as part
use Rattle.op_cursor.specs.declared.part.Side.{Side}
use Rattle.op_cursor.specs.declared.part.Side.TheVariants as side

abbrev pub part_term : Showing → Part → Term Text
part_term v part.Whole = event_term (event_in v)
part_term v (part.Number n) = number n
part_term v (part.Port p) = atom (port_name p)
part_term v (part.Goal r) = shown (named v.names (value_of v.state r))

abbrev pub IsPart : Showing → Part → Type 0
IsPart v (part.Goal r) = (r < length v.state.terms) × HasNames (length v.names) (value_of v.state r)
IsPart v _ = Unit {0}

-- a pattern: the terms of its nodes, and its names
abbrev pub side_term : List (Term ℕ) → List Text → Showing → Side → Term Text
side_term ts own v (side.Pattern n) = named own (term_at ts n)
side_term ts own v (side.Event p) = part_term v p

abbrev pub IsSide : List (Term ℕ) → Showing → Side → Type 0
IsSide ts v (side.Pattern n) = n < length ts
IsSide ts v (side.Event p) = IsPart v p

-- the names of a pattern's node are below k
abbrev pub HasOwnNames : ℕ → List (Term ℕ) → Side → Type 0
HasOwnNames k ts (side.Pattern n) = HasNames k (term_at ts n)
HasOwnNames k ts (side.Event p) = Unit {0}
