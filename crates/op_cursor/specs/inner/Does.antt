-- What the calls behind the moves do to a feed, by the move that they are for and the place where the cursor stands.
use Rattle.std.specs.Prelude.{◌≡◌, ℕ, ◌+◌, ◌-◌, ◌*◌, ◌≤◌, Bool, true, false, List, Some, None}
use Rattle.op_trace.specs.Run.{Run, events_of, steps_at}
use Rattle.op_moves.specs.Moves as moves
use Rattle.op_moves.specs.Moves.{Stand, Outcome, outcome}
use Rattle.op_retrace.specs.declared.fault.FeedFault.{FeedFault}
use Rattle.op_retrace.specs.declared.fault.FeedFault.TheVariants as feed_fault
use Rattle.op_retrace.specs.declared.fault.Cause.TheVariants as cause
use Rattle.op_retrace.specs.Fed.{Fed, IsSound, IsBrokenReset, IsResetFault, EndsBy, cause_of, input_limit}
use Rattle.op_retrace.specs.Sight.{Sight, Apart, Counts}
use Rattle.op_cursor.specs.declared.found.Found.{Found}
use Rattle.op_cursor.specs.Seen.{Seen, IsPlaceOf}
use Rattle.op_cursor.specs.Comes.{Comes, Broke}
use Rattle.op_cursor.specs.Moving.{Moving, Bounded}
use Rattle.op_cursor.specs.inner.Walks.{Goes, Walks, IsFirst, failed}
use Rattle.op_cursor.specs.inner.Finds.{found_of}

abbrev pub from_stand : Moving → Run → ℕ → ℕ → ℕ → Outcome
from_stand m r p f fuel = m (events_of r.turns) r.ending (record { place = p; furthest = f }) fuel

-- where nothing was found, the place stays; else there is an event, or it is 0
abbrev pub IsPlaceFound : moves.Found → Fed → Type 0
IsPlaceFound (moves.At j) v = IsPlaceOf v j
IsPlaceFound x v = Unit {0}

pub record DoesOver (IsKnown : Run → Type 0) (m : Moving) (p : ℕ) (y : Found) (r : Run) (old new : Fed)
    (before after fuel left : ℕ) : Type 0 where
  pub answer : IsKnown r → from_stand m r p old.furthest fuel ≡ outcome (found_of y) new.furthest left
  pub steps : Bounded old.keeps r (2 * steps_at r (from_stand m r p p fuel).furthest) old.place new.place before after

pub record Does (IsKnown : Run → Type 0) (m : Moving) (p : ℕ) (y : Found) (old new : Fed) (a b : Sight)
    (before after fuel left : ℕ) : Type 0 where
  pub goes : Goes old new a b
  pub found : IsPlaceFound (found_of y) new
  pub comes : Comes (λ r. DoesOver IsKnown m p y r old new before after fuel left) old new a b

-- forward, where the feed stands at or before the place
pub record Forward (p : ℕ) (y : Found) (old new : Fed) (before after : ℕ) : Type 0 where
  pub steps : old.place ≤ p → (rest : List ℕ)
      → after ≤ before + (steps_at (new.run rest) new.place - steps_at (new.run rest) old.place)
  pub ahead : (j : ℕ) → found_of y ≡ moves.At j → old.place ≤ j → new.place ≤ j

pub record FailsOver (m : Moving) (p : ℕ) (r : Run) (old new : Fed) (before after fuel : ℕ) : Type 0 where
  pub within : new.furthest ≤ (from_stand m r p old.furthest fuel).furthest
  pub most : after ≤ before + 2 * steps_at r (from_stand m r p p fuel).furthest

-- a fault of the feed
pub record Fails (m : Moving) (p : ℕ) (f : FeedFault) (old new : Fed) (a b : Sight) (before after fuel : ℕ) : Type 0 where
  pub none : old.fault ≡ None
  pub sound : IsSound old
  pub first : IsFirst f
  pub cause : new.fault ≡ Some (cause_of f)
  pub furthest : old.furthest ≤ new.furthest
  pub places : (q : ℕ) → IsPlaceOf old q → IsPlaceOf new q
  pub apart : Apart a b
  pub counts : Counts a b (failed f)
  pub too_long : f ≡ feed_fault.InputTooLong → (new.drawn ≡ input_limit) × (new.ended ≡ false)
  pub broke : Broke (λ r. (from_stand m r p old.furthest fuel).furthest) (λ r. FailsOver m p r old new before after fuel) old new a b

-- want of memory that isn't the feed's
pub record Lacks (m : Moving) (p : ℕ) (old new : Fed) (a b : Sight) (before after fuel : ℕ) : Type 0 where
  pub goes : Goes old new a b
  pub comes : Broke (λ r. (from_stand m r p old.furthest fuel).furthest) (λ r. FailsOver m p r old new before after fuel) old new a b

-- a feed that was seen to have answered no fault; where it stood at the end, it may have gone back to the start
pub record Wakes (old new : Fed) : Type 0 where
  pub from : ℕ
  pub walks : (a : Sight) (n : ℕ) → Walks from old new a a n n
  pub there : new.place ≡ from
  pub furthest : new.furthest ≡ old.furthest
  pub where_from : ((p : ℕ) → IsPlaceOf old p → old.place ≤ p → from ≡ old.place)
      × ((from ≡ old.place → ⊥) → from ≡ 0)

-- it has answered a fault, in an earlier call or in this one
pub record FailsToWake (f : FeedFault) (old new : Fed) : Type 0 where
  pub sound : IsSound old
  pub reset : IsBrokenReset old new
  pub proper : IsResetFault f
  pub ends : EndsBy f old new

-- the same of a cursor
abbrev pub IsUnwoken : Bool → FeedFault → Fed → Fed → Type 0
IsUnwoken true f old new = (f ≡ feed_fault.Ended cause.Memory) × (new ≡ old)
IsUnwoken false f old new = FailsToWake f old new

pub record CannotWake (f : FeedFault) (old new : Seen) : Type 0 where
  pub place : new.place ≡ old.place
  pub exhausted : new.exhausted ≡ old.exhausted
  pub unwoken : IsUnwoken old.exhausted f old.fed new.fed

pub record IsAwake (old new : Seen) : Type 0 where
  pub before : old.exhausted ≡ false
  pub after : new.exhausted ≡ false
  pub place : new.place ≡ old.place
  pub wakes : Wakes old.fed new.fed
