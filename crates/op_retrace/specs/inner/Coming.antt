-- A machine that goes on to its next event, or to its end.
use Rattle.std.specs.Prelude.{◌≡◌, ℕ, ◌+◌, ◌^◌, ◌<◌, true, false, List, [], ◌∷◌, ◌++◌, length, Option, Some, None}
use Rattle.op_trace.specs.World.{Turn, Shown, Solved}
use Rattle.op_machine.specs.declared.turn.Ending.{Ending}
use Rattle.op_machine.specs.Machine.{Kept, answered, has_event, has_solution, event_now, world_now, ending_for, HasBallNames}
use Rattle.op_retrace.specs.declared.feed.FeedStep.{FeedStep}
use Rattle.op_retrace.specs.declared.feed.FeedStep.TheVariants as step
use Rattle.op_retrace.specs.Holding.{to_show}

abbrev pub IsSolution : Turn → Type 0
IsSolution (Shown e w) = ⊥
IsSolution (Solved σ w) = Unit {0}

abbrev pub AreSolutions : List Turn → Type 0
AreSolutions [] = Unit {0}
AreSolutions (t ∷ ts) = IsSolution t × AreSolutions ts

-- how many steps were made at the last of some turns, from so many on
abbrev pub last_steps : ℕ → List Turn → ℕ
last_steps n [] = n
last_steps n (Shown e w ∷ ts) = last_steps w.steps ts
last_steps n (Solved σ w ∷ ts) = last_steps w.steps ts

-- a machine has answered these solutions
pub record Passed (old new : Kept) (ts : List Turn) : Type 0 where
  pub turns : (to_show old).turns ≡ ts ++ (to_show new).turns
  pub ending : (to_show old).ending ≡ (to_show new).ending
  pub world : (to_show old).world ≡ (to_show new).world
  pub solutions : AreSolutions ts
  pub count : answered new ≡ answered old + length ts
  pub steps : new.steps ≡ last_steps old.steps ts

-- it has answered no more than some solutions
pub record Passing (old new : Kept) : Type 0 where
  pub skipped : List Turn
  pub passed : Passed old new skipped

-- solutions, and then this event
pub record Came (old new : Kept) (ts : List Turn) : Type 0 where
  pub turns : (to_show old).turns ≡ ts ++ Shown (event_now new) (world_now new) ∷ (to_show new).turns
  pub ending : (to_show old).ending ≡ (to_show new).ending
  pub world : (to_show old).world ≡ (to_show new).world
  pub solutions : AreSolutions ts
  pub count : answered new ≡ answered old + length ts + 1
  pub shown : has_event new ≡ true

-- or the end
pub record Ended (old new : Kept) (e : Ending) (ts : List Turn) : Type 0 where
  pub turns : (to_show old).turns ≡ ts
  pub none : (to_show new).turns ≡ []
  pub ending : (to_show old).ending ≡ (to_show new).ending
  pub world : (to_show old).world ≡ (to_show new).world
  pub is : (to_show new).ending ≡ ending_for new.tables.names e
  pub last : (to_show new).world ≡ world_now new
  pub solutions : AreSolutions ts
  pub count : answered new ≡ answered old + length ts
  pub shown : has_event new ≡ false
  pub no_solution : has_solution new ≡ false
  pub known : HasBallNames (length new.tables.names) e

abbrev pub ComesBy : Option Ending → Kept → Kept → List Turn → Type 0
ComesBy None old new ts = Came old new ts
ComesBy (Some e) old new ts = Ended old new e ts

-- what was answered is the next event or the end
pub record Comes (o : Option Ending) (old new : Kept) : Type 0 where
  pub skipped : List Turn
  pub comes : ComesBy o old new skipped
  pub few : answered new < 2 ^ 63
  pub whole : new.faulted ≡ false

-- a fault came behind some solutions
pub record Stops (old new : Kept) : Type 0 where
  pub skipped : List Turn
  pub rest : List Turn
  pub turns : (to_show old).turns ≡ skipped ++ rest
  pub solutions : AreSolutions skipped
  pub steps : new.steps ≡ last_steps old.steps skipped

-- which ending is kept, and where the feed has come to
abbrev pub kept_by : Option Ending → Option Ending → Option Ending
kept_by kept None = kept
kept_by kept (Some e) = Some e

abbrev pub step_by : Option Ending → FeedStep
step_by None = step.Event
step_by (Some e) = step.End
