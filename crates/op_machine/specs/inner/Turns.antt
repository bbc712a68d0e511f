-- What a machine's parts come to at the next turn.
use Rattle.std.specs.Prelude.{◌≡◌, ℕ, ◌+◌, ◌≤◌, List, [], ◌∷◌, length}
use Rattle.op_trace.specs.declared.barrier.Barrier.TheVariants.{Call}
use Rattle.op_trace.specs.World.{Turn, Shown, Solved, Goal, loaded}
use Rattle.op_trace.specs.Outside.{Outside, at}
use Rattle.op_machine.specs.Acts.{setup_for}
use Rattle.op_trace.specs.Run.{started, ending_of}
use Rattle.op_trace.specs.Visit.{Verdict, gives, with_turns}
use Rattle.op_machine.specs.declared.core_state.Core.{Core}
use Rattle.op_machine.specs.declared.turn.Ending.{Ending}
use Rattle.op_machine.specs.declared.turn.Turn as declared
use Rattle.op_machine.specs.declared.turn.Turn.TheVariants as turn
use Rattle.op_logic.specs.Term.{Term}
use Rattle.op_machine.specs.Meaning.{setup_of, world_left, state_of, event_seen, bindings_now}
use Rattle.op_machine.specs.inner.Invariant.{IsSound, IsSeen}
use Rattle.op_machine.specs.Resume.{owed, Forward}
use Rattle.op_machine.specs.inner.Moves.{HasGrown}
use Rattle.op_machine.specs.Outer.{state_at, turn_at}
use Rattle.op_machine.specs.Machine.{ending_for, HasBallNames}
use Rattle.op_store.specs.Stored.{Stored, database_of}
use Rattle.op_machine.specs.Program.{goal_named}

-- how many turns a machine has answered
abbrev pub turns_in : Core → ℕ
turns_in c = c.events + c.solutions

-- the same run goes on from one to the other
pub record Follows (old new : Core) : Type 0 where
  pub sound : IsSound new
  pub store : HasGrown old.store new.store
  pub names : new.names ≡ old.names
  pub budget : new.budget ≡ old.budget
  pub wanted : new.wanted ≡ old.wanted
  pub later : old.steps ≤ new.steps

-- by silent moves, whatever lies outside and whatever was written before
pub record Walked (old new : Core) : Type 0 where
  pub follows : Follows old new
  pub owed : (h : Outside) (o : List ℕ) → owed (setup_of old) (state_at h o (state_of old))
      ≡ owed (setup_of new) (state_at h o (state_of new))
  pub count : turns_in new ≡ turns_in old

-- by silent moves, and one that showed this turn
pub record Showed (old new : Core) (t : Turn) : Type 0 where
  pub follows : Follows old new
  pub owed : (h : Outside) (o : List ℕ) → owed (setup_of old) (state_at h o (state_of old))
      ≡ with_turns (turn_at h o t ∷ []) (owed (setup_of new) (state_at h o (state_of new)))
  pub count : turns_in new ≡ turns_in old + 1

-- by silent moves, to the end, with the verdict that this ending answers
pub record Ended (old new : Core) (e : Ending) : Type 0 where
  pub walked : Walked old new
  pub verdict : Verdict
  pub is : ending_of verdict ≡ ending_for new.store.names e
  pub owed : (h : Outside) (o : List ℕ) → owed (setup_of old) (state_at h o (state_of old)) ≡ gives verdict (at h o (world_left new))
  pub names : HasBallNames (length new.store.names) e

abbrev pub Turned : Core → Core → declared.Turn → Type 0
Turned old new turn.Event = Showed old new (Shown (event_seen new.store new.bindings new.seen) (world_left new)) × IsSeen new
Turned old new turn.Solution = Showed old new (Solved (bindings_now new) (world_left new))
Turned old new (turn.Ended e) = Ended old new e

-- nothing was done yet
pub record IsBegun (t : Stored) (g : Term ℕ) (n : ℕ) (query_names : List (List ℕ × ℕ)) (budget wanted : ℕ) (c : Core) : Type 0 where
  pub state : state_of c ≡ Forward (Goal (goal_named t g) (Call 0) ∷ []) [] [] (started n (loaded (database_of t)))
  pub names : c.names ≡ query_names
  pub setup : setup_of c ≡ setup_for budget wanted
  pub steps : c.steps ≡ 0
  pub turns : turns_in c ≡ 0
