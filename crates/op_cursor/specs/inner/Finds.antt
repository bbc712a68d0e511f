-- What is found on walks, by the definitions of the moves.
use Rattle.std.specs.Prelude.{◌≡◌, ℕ, ◌+◌, ◌<◌, ◌≤◌, ◌^◌, nat_le, true}
use Rattle.std.specs.Prelude.{false, List, length, Option, Some, None, max, if◌then◌else◌}
use Rattle.op_trace.specs.World.{Event}
use Rattle.op_trace.specs.Run.{Run, events_of}
use Rattle.op_machine.specs.declared.turn.Ending.{Ending}
use Rattle.op_machine.specs.declared.turn.Ending.TheVariants as answer
use Rattle.op_moves.specs.Pattern.{Test, tested}
use Rattle.op_moves.specs.Moves as moves
use Rattle.op_moves.specs.Moves.{Outcome, outcome, leaves, search, later, look_at_end}
use Rattle.op_retrace.specs.declared.fault.FeedFault.{FeedFault}
use Rattle.op_retrace.specs.Fed.{Fed}
use Rattle.op_retrace.specs.Sight.{Sight}
use Rattle.op_cursor.specs.declared.found.Found.{Found}
use Rattle.op_cursor.specs.declared.found.Found.TheVariants as found
use Rattle.op_cursor.specs.declared.search.Sought.{Sought}
use Rattle.op_cursor.specs.declared.search.Sought.TheVariants as sought
use Rattle.op_cursor.specs.declared.search.SearchFault.{SearchFault}
use Rattle.op_cursor.specs.declared.search.SearchFault.TheVariants as fault
use Rattle.op_cursor.specs.inner.Walks.{Walks, Stops, behind}

abbrev pub found_of : Found → moves.Found
found_of (found.At j) = moves.At j
found_of found.NoEvent = moves.No_event
found_of found.PastBudget = moves.Past_budget
found_of found.Spent = moves.Spent

-- what is found at the end, by how the run ended
abbrev pub found_at_end : Option Ending → moves.Found
found_at_end (Some answer.Spent) = moves.Past_budget
found_at_end e = moves.No_event

-- the event at a place, or the end
abbrev pub place_found : Run → ℕ → moves.Found
place_found r j = if nat_le j (length (events_of r.turns)) then moves.At j else moves.end_found r.ending

-- the test of what is sought
abbrev pub sought_test : Sought → Event → Test
sought_test (sought.Accepted p) e = tested p.now e
sought_test (sought.Left k) e = leaves k e

-- what a search from a place comes to, where a furthest place was looked at
abbrev pub searched : Sought → ℕ → ℕ → Run → ℕ → Outcome
searched x p f r fuel = search (sought_test x) (later (events_of r.turns) p) (look_at_end (events_of r.turns) r.ending) f fuel

-- Whatever the furthest place was by then, a search from a place comes to this. The feed stands where it has looked.
abbrev pub Finds : Sought → Found → ℕ → ℕ → Fed → ℕ → Type 0
Finds x y p fuel new left =
    (rest : List ℕ) (f : ℕ) → p ≤ f → searched x p f (new.run rest) fuel ≡ outcome (found_of y) (max f new.place) left

-- it comes to what it still comes to from where the feed stands
abbrev pub LooksOn : Sought → ℕ → ℕ → Fed → ℕ → Type 0
LooksOn x p fuel new left =
    (rest : List ℕ) (f : ℕ) → p ≤ f
    → searched x p f (new.run rest) fuel ≡ searched x new.place (max f new.place) (new.run rest) left

-- it looks at a place of each run
abbrev pub LooksAt : Sought → (Run → ℕ) → ℕ → ℕ → Fed → Type 0
LooksAt x at p fuel new =
    (rest : List ℕ) (f : ℕ) → p ≤ f → max f (at (new.run rest)) ≤ (searched x p f (new.run rest) fuel).furthest

-- a look at the event where a feed stands: it is found, the search goes on, or the test takes more steps than there are
abbrev pub Tells : Option Found → Test → ℕ → ℕ → ℕ → Type 0
Tells (Some (found.At j)) t place fuel left = (j ≡ place) × (t.yes ≡ true) × (fuel ≡ left + t.cost)
Tells (Some found.Spent) t place fuel left = (fuel < t.cost) × (left ≡ 0)
Tells (Some found.NoEvent) t place fuel left = ⊥
Tells (Some found.PastBudget) t place fuel left = ⊥
Tells None t place fuel left = (t.yes ≡ false) × (fuel ≡ left + t.cost)

-- one look behind the place
abbrev pub Looks : Sought → Option Found → Fed → ℕ → Fed → ℕ → Type 0
Looks x (Some y) old fuel new left = Finds x y old.place fuel new left
Looks x None old fuel new left = LooksOn x old.place fuel new left × (new.place ≡ old.place + 1) × (new.place < 2 ^ 63)

-- a search that answers a fault
pub record StopsLooking (x : Sought) (f : FeedFault) (old new : Fed) (a b : Sight) (before after fuel : ℕ) : Type 0 where
  pub limit : ℕ
  pub ahead : old.place ≤ limit
  pub stops : Stops old.place (limit + 1) f old new a b before after
  pub looks : LooksAt x (λ r. behind r limit) old.place fuel new

pub record LacksMemory (x : Sought) (old new : Fed) (a b : Sight) (before after fuel : ℕ) : Type 0 where
  pub walks : Walks old.place old new a b before after
  pub looks : LooksAt x (λ r. new.place) old.place fuel new

abbrev pub BreaksOff : Sought → SearchFault → Fed → Fed → Sight → Sight → ℕ → ℕ → ℕ → Type 0
BreaksOff x fault.Memory old new a b before after fuel = LacksMemory x old new a b before after fuel
BreaksOff x (fault.Feed f) old new a b before after fuel = StopsLooking x f old new a b before after fuel
