-- What a feed holds that makes the run again from the start.
use Rattle.std.specs.Prelude.{◌≡◌, ℕ, ◌^◌, ◌≤◌, false, List, [], ◌++◌, length, min, Option, None}
use Rattle.op_logic.specs.Names.{named}
use Rattle.op_trace.specs.World.{Turn, loaded}
use Rattle.op_trace.specs.Outside.{no_outside}
use Rattle.op_machine.specs.Acts.{setup_for}
use Rattle.op_trace.specs.Run.{Run, run, events_of, output_at}
use Rattle.op_store.specs.declared.goals.goal.Goal.{Goal}
use Rattle.op_store.specs.Stored.{Stored, database_of}
use Rattle.op_store.specs.Queries.{IsSoundGoal}
use Rattle.op_machine.specs.declared.turn.Ending.{Ending}
use Rattle.op_machine.specs.Machine.{Kept, to_come, answered, has_event, has_solution}
use Rattle.op_moves.specs.Places.{event_count}
use Rattle.op_retrace.specs.declared.fault.Cause.{Cause}
use Rattle.op_retrace.specs.Fed.{Fed, Stands}

-- the program as loading left it, the goal, the budget and the wanted solution, of which a run is made; and where the feed stands
pub record Held : Type 0 where
  pub store : Stored
  pub goal : Goal
  pub budget : ℕ
  pub wanted : ℕ
  pub machine : Kept
  pub place : ℕ
  pub furthest : ℕ
  pub ending : Option Ending
  pub fault : Option Cause

-- the run of a goal over a program that has no input
abbrev pub run_by : Stored → Goal → ℕ → ℕ → Run
run_by t g budget wanted = run (setup_for budget wanted) (named t.names g.body) g.vars (loaded (database_of t))

abbrev pub run_of : Held → Run
run_of h = run_by h.store h.goal h.budget h.wanted

abbrev pub fed_of : Held → Fed
fed_of h = record {
  run = λ rest. run_of h;
  loaded = h.store;
  place = h.place;
  furthest = h.furthest;
  ending = h.ending;
  machine = h.machine;
  keeps = 0;
  drawn = 0;
  ended = false;
  fault = h.fault;
}

-- a feed at the start of a run
abbrev pub first_held : Stored → Goal → ℕ → ℕ → Kept → Held
first_held t g budget wanted k = record {
  store = t;
  goal = g;
  budget = budget;
  wanted = wanted;
  machine = k;
  place = 0;
  furthest = 0;
  ending = None;
  fault = None;
}

-- what a machine still has to show: nothing lies outside its program
abbrev pub to_show : Kept → Run
to_show k = to_come k no_outside []

-- a machine that was just started
pub record IsStarted (t : Stored) (g : Goal) (budget wanted : ℕ) (k : Kept) : Type 0 where
  pub run : to_show k ≡ run_by t g budget wanted
  pub steps : k.steps ≡ 0
  pub answered : answered k ≡ 0
  pub tables : k.tables ≡ t
  pub no_event : has_event k ≡ false
  pub no_solution : has_solution k ≡ false
  pub whole : k.faulted ≡ false

-- Where the feed stands: these turns are past, and the others the machine has still to show. Up to the furthest place nothing was written.
pub record IsHere (h : Held) (r : Run) : Type 0 where
  pub stands : Stands (fed_of h) r
  pub past : List Turn
  pub turns : r.turns ≡ past ++ (to_show h.machine).turns
  pub ending : r.ending ≡ (to_show h.machine).ending
  pub world : r.world ≡ (to_show h.machine).world
  pub count : length past ≡ answered h.machine
  pub seen : length (events_of past) ≡ min h.place (event_count r)
  pub quiet : output_at r h.furthest ≡ []
  pub few : h.place ≤ 2 ^ 63

-- what always holds of what it holds
pub record IsHolding (h : Held) : Type 0 where
  pub goal : IsSoundGoal (length h.store.names) h.goal
  pub some : 1 ≤ h.budget
  pub limit : h.budget ≤ 1000000000
  pub here : h.fault ≡ None → IsHere h (run_of h)
