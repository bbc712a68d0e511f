-- Walks: calls of a feed on the way to a place.
use Rattle.std.specs.Prelude.{◌≡◌, ℕ, ◌+◌, ◌-◌, ◌≤◌, min, max}
use Rattle.std.specs.Prelude.{nat_le, false, IsTrue, Some, None, Result, Err, if◌then◌else◌}
use Rattle.op_desk.specs.declared.chan.Chan.TheVariants.{Input, Output}
use Rattle.op_trace.specs.Run.{Run, steps_at}
use Rattle.op_moves.specs.Places.{event_count}
use Rattle.op_retrace.specs.declared.feed.FeedStep.{FeedStep}
use Rattle.op_retrace.specs.declared.fault.FeedFault.{FeedFault}
use Rattle.op_retrace.specs.declared.fault.FeedFault.TheVariants as fault
use Rattle.op_retrace.specs.Fed.{Fed, IsSound, Pays, Advances, cause_of, input_limit}
use Rattle.op_retrace.specs.Sight.{Sight, Apart, Counts}
use Rattle.op_cursor.specs.Seen.{IsPlaceOf}
use Rattle.op_cursor.specs.Comes.{Comes, Broke}

-- of a desk only its Input and its Output have changed, and no fault was counted
pub record Calm (a b : Sight) : Type 0 where
  pub apart : Apart a b
  pub reads : b.reads ≡ a.reads
  pub writes : b.writes ≡ a.writes
  pub steady : IsTrue a.steady → IsTrue b.steady

-- calls that answered no fault
pub record Goes (old new : Fed) (a b : Sight) : Type 0 where
  pub none : old.fault ≡ None
  pub still_none : new.fault ≡ None
  pub sound : IsSound old
  pub still_sound : IsSound new
  pub furthest : old.furthest ≤ new.furthest
  pub calm : Calm a b

-- from a place on, without a reset behind it
pub record Walks (from : ℕ) (old new : Fed) (a b : Sight) (before after : ℕ) : Type 0 where
  pub goes : Goes old new a b
  pub later : from ≤ new.place
  pub furthest : new.furthest ≡ max old.furthest new.place
  pub comes : Comes (λ r. Pays old.keeps r from new.place before after) old new a b

-- one advance
pub record Advanced (s : FeedStep) (old new : Fed) (a b : Sight) (before after : ℕ) : Type 0 where
  pub goes : Goes old new a b
  pub advances : Advances s old new (a.left Input) (b.left Input) (a.written Output) (b.written Output) before after

-- a place, or the end where that is earlier
abbrev pub up_to : Run → ℕ → ℕ
up_to r to = min to (event_count r + 1)

-- the place behind a limit, or the end
abbrev pub behind : Run → ℕ → ℕ
behind r limit = up_to r (limit + 1)

abbrev pub furthest_of : Fed → ℕ → Run → ℕ
furthest_of v to r = max v.furthest (up_to r to)

-- the faults that calls answer which have answered none
abbrev pub IsFirst : FeedFault → Type 0
IsFirst (fault.Ended c) = ⊥
IsFirst f = Unit {0}

abbrev pub failed : FeedFault → Result (Unit {0}) FeedFault
failed f = Err f

-- A walk that ended at a fault, on the way to a place.
pub record StoppedBy (from to : ℕ) (r : Run) (old new : Fed) (before after : ℕ) : Type 0 where
  pub within : new.furthest ≤ furthest_of old to r
  pub most : after ≤ before + (steps_at r (up_to r to) - steps_at r from)

pub record Stops (from to : ℕ) (f : FeedFault) (old new : Fed) (a b : Sight) (before after : ℕ) : Type 0 where
  pub none : old.fault ≡ None
  pub sound : IsSound old
  pub first : IsFirst f
  pub cause : new.fault ≡ Some (cause_of f)
  pub furthest : old.furthest ≤ new.furthest
  pub places : (p : ℕ) → IsPlaceOf old p → IsPlaceOf new p
  pub apart : Apart a b
  pub counts : Counts a b (failed f)
  pub too_long : f ≡ fault.InputTooLong → (new.drawn ≡ input_limit) × (new.ended ≡ false)
  pub broke : Broke (furthest_of old to) (λ r. StoppedBy from to r old new before after) old new a b

-- where a walk to a place begins: where the feed stands, or at the start
abbrev pub start_of : ℕ → ℕ → ℕ
start_of a p = if nat_le a p then a else 0

-- the feed stands at a place, to which it has come from where it stood or from the start
pub record Arrives (p : ℕ) (old new : Fed) (a b : Sight) (before after : ℕ) : Type 0 where
  pub walks : Walks (start_of old.place p) old new a b before after
  pub there : new.place ≡ p
  pub furthest : new.furthest ≡ old.furthest
