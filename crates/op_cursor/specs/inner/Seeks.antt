-- What searches from the place of a cursor do to its feed.
use Rattle.std.specs.Prelude.{ℕ}
use Rattle.op_moves.specs.Moves as moves
use Rattle.op_retrace.specs.Fed.{Fed}
use Rattle.op_retrace.specs.Sight.{Sight}
use Rattle.op_cursor.specs.declared.search.Sought.{Sought}
use Rattle.op_cursor.specs.declared.search.SearchFault.{SearchFault}
use Rattle.op_cursor.specs.declared.search.SearchFault.TheVariants as fault
use Rattle.op_cursor.specs.Moving.{Moving}
use Rattle.op_cursor.specs.inner.Finds.{sought_test}
use Rattle.op_cursor.specs.inner.Does.{Fails, Lacks}

-- the search of what is sought, as a move
abbrev pub searching : Sought → Moving
searching x es e s fuel = moves.search_on (sought_test x) es e s fuel

-- a move that answers a fault, of its own or of the feed
abbrev pub Misses : Moving → ℕ → SearchFault → Fed → Fed → Sight → Sight → ℕ → ℕ → ℕ → Type 0
Misses m p fault.Memory old new a b before after fuel = Lacks m p old new a b before after fuel
Misses m p (fault.Feed f) old new a b before after fuel = Fails m p f old new a b before after fuel
