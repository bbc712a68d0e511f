-- What a run is made of: its world, its items and its turns.
use Rattle.std.specs.Prelude.{◌≡◌, ◌⊎◌, ℕ, ◌==◌, Bool, false, List, [], ◌∷◌, Option, None}
use Rattle.op_logic.specs.Term.{Term}
use Rattle.op_logic.specs.Bind.{Bindings}
use Rattle.op_term.specs.Ops.{Table}
use Rattle.op_trace.specs.declared.port.Port.{Port}
use Rattle.op_trace.specs.declared.barrier.Barrier.{Barrier}
use Rattle.op_trace.specs.declared.barrier.Barrier.TheVariants.{Call, InCondition, AtSuccess}
use Rattle.op_trace.specs.Database.{Text, Database}
use Rattle.op_trace.specs.Ending.{Ending}

-- an event of the box model: its place in the order of events, its box's call number, parent and depth, and the goal as the port shows it
pub record Event : Type 0 where
  pub chrono : ℕ
  pub call : ℕ
  pub parent : ℕ
  pub depth : ℕ
  pub port : Port
  pub goal : Term Text

-- what an analysis looks at: the events of a whole run, its ending, the program's operators as loading left them, the place where the
-- analysis stands, and the furthest place that was looked at
pub record Trace : Type 0 where
  pub events : List Event
  pub ending : Ending
  pub table : Table
  pub place : ℕ
  pub furthest : ℕ

-- all that a run changes but its bindings, so that nothing of it is undone on backtracking
pub record World : Type 0 where
  pub database : Database
  -- the bytes of the input that were not read; how many were read, and how many were looked at, which is no fewer, and no more than there
  -- are
  pub input : List ℕ
  pub read : ℕ
  pub looked : ℕ
  -- what was written
  pub output : List ℕ
  -- the terms that were collected, each for a box, the first first
  pub copies : List (ℕ × Term Text)
  -- none for a program
  pub trace : Option Trace
  -- how many variables, call numbers and numbers of conditions were given out
  pub variables : ℕ
  pub calls : ℕ
  pub conditions : ℕ
  -- how many steps were made, how many events and solutions were shown
  pub steps : ℕ
  pub events : ℕ
  pub solutions : ℕ

-- the world of a program that was loaded and not run, and has no input
abbrev pub loaded : Database → World
loaded d = record {
  database = d;
  input = [];
  read = 0;
  looked = 0;
  output = [];
  copies = [];
  trace = None;
  variables = 0;
  calls = 0;
  conditions = 0;
  steps = 0;
  events = 0;
  solutions = 0;
}

abbrev pub same_barrier : Barrier → Barrier → Bool
same_barrier (Call a) (Call b) = a == b
same_barrier (InCondition a) (InCondition b) = a == b
same_barrier (AtSuccess a) (AtSuccess b) = a == b
same_barrier _ _ = false

-- which execution of a goal comes next: the first; a further one (it is re-executed, 7.7.8) of a goal that succeeds each time; or that of
-- the recovery of catch/3 (7.8.9)
pub data Execution : Type 0 where
  First : Execution
  Repeated : Execution
  Recovery : Execution

-- what is still to be done: a goal, the cut of a condition that has succeeded, the exit of a box that was called with a goal, or an
-- execution of
-- the goal that a box was called with, whose exit comes behind it: the box is open as by an exit
pub data Item : Type 0 where
  Goal : Term Text → Barrier → Item
  Cut : Barrier → Item
  Exit : ℕ → Term Text → Item
  Execute : Execution → ℕ → Term Text → Item

-- the call numbers of the boxes that are open, the innermost first
abbrev pub open_boxes : List Item → List ℕ
open_boxes [] = []
open_boxes (Goal t m ∷ J) = open_boxes J
open_boxes (Cut m ∷ J) = open_boxes J
open_boxes (Exit k g ∷ J) = k ∷ open_boxes J
open_boxes (Execute t k g ∷ J) = k ∷ open_boxes J

-- n is the barrier of one of these items; what is executed may run a body in its box, where a cut is local to the box
abbrev pub Has : Barrier → List Item → Type 0
Has n [] = ⊥
Has n (Goal t m ∷ J) = (n ≡ m) ⊎ Has n J
Has n (Cut m ∷ J) = (n ≡ m) ⊎ Has n J
Has n (Exit k g ∷ J) = Has n J
Has n (Execute t k g ∷ J) = (n ≡ Call k) ⊎ Has n J

-- what a run shows, with the world of that moment
pub data Turn : Type 0 where
  Shown : Event → World → Turn
  Solved : Bindings Text → World → Turn

abbrev pub head_number : List ℕ → ℕ
head_number [] = 0
head_number (k ∷ ks) = k
