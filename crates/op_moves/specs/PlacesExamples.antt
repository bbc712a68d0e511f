-- Places of a small run, by computation: two events, each with a solution behind it, and the end.
use Rattle.std.specs.Prelude.{◌≡◌, ℕ, false, [], ◌∷◌, codes, refl}
use Rattle.op_logic.specs.Term.{atom}
use Rattle.op_term.specs.Ops.{iso_table}
use Rattle.op_term.specs.declared.quotes.DoubleQuotes.TheVariants.{Codes}
use Rattle.op_trace.specs.declared.port.Port.{Port}
use Rattle.op_trace.specs.declared.port.Port.TheVariants as port
use Rattle.op_trace.specs.World.{World, Event, Shown, Solved, loaded}
use Rattle.op_trace.specs.Ending as ending
use Rattle.op_trace.specs.Run.{Run, steps_at}
use Rattle.op_moves.specs.Places.{event_count, place_behind, turns_to, least_steps}

abbrev event : ℕ → Port → Event
event n p = record { chrono = n; call = 1; parent = 0; depth = 1; port = p; goal = atom (codes "p") }

abbrev world : ℕ → World
world n =
    record (loaded (record { procedures = []; next = 0; table = iso_table; flags = record { quotes = Codes; unknown_fails = false } })) {
      steps = n;
    }

abbrev small : Run
small = record {
  turns = Shown (event 1 port.Call) (world 1) ∷ Solved [] (world 3) ∷ Shown (event 2 port.Fail) (world 4) ∷ Solved [] (world 6) ∷ [];
  ending = ending.Failed;
  world = world 9;
}

pub two_events : event_count small ≡ 2
two_events = refl

pub no_turn : turns_to small.turns 0 ≡ 0
no_turn = refl

pub at_the_first : turns_to small.turns 1 ≡ 1
at_the_first = refl

-- a solution counts only once the next event, or the end, was reached
pub at_the_second : turns_to small.turns 2 ≡ 3
at_the_second = refl

pub all_turns : turns_to small.turns 3 ≡ 4
all_turns = refl

pub steps_of_the_second : steps_at small 2 ≡ 4
steps_of_the_second = refl

pub steps_of_the_end : steps_at small 3 ≡ 9
steps_of_the_end = refl

pub least_of_the_end : least_steps small 3 ≡ 4
least_of_the_end = refl

pub behind_the_last : place_behind small 2 ≡ 3
behind_the_last = refl

pub behind_the_end : place_behind small 3 ≡ 3
behind_the_end = refl
