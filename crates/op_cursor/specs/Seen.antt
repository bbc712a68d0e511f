-- What a cursor stands for, and how it ends.
use Rattle.std.specs.Prelude.{◌≡◌, ℕ, ◌<◌, ◌≤◌, Bool, true, false, Option}
use Rattle.std.specs.Prelude.{Some, None, is_some, Result, Ok, Err, IsErrOf, if◌then◌else◌}
use Rattle.op_moves.specs.Moves.{Stand}
use Rattle.op_retrace.specs.declared.fault.Cause.{Cause}
use Rattle.op_retrace.specs.declared.fault.Cause.TheVariants as cause
use Rattle.op_retrace.specs.declared.fault.FeedFault.{FeedFault}
use Rattle.op_retrace.specs.declared.fault.FeedFault.TheVariants as fault
use Rattle.op_retrace.specs.Fed.{Fed, cause_of, input_limit}
use Rattle.op_retrace.specs.Sight.{Sight, Apart, Counts}
use Rattle.op_cursor.specs.declared.cursor.Cursor.{Cursor}
use Rattle.op_cursor.specs.declared.fault.CursorFault.{CursorFault}
use Rattle.op_cursor.specs.declared.fault.CursorFault.TheVariants as cursor_fault

-- what its feed stands for, the place, and whether memory of its own was wanting
pub record Seen : Type 0 where
  pub fed : Fed
  pub place : ℕ
  pub exhausted : Bool

-- by what a kind of feed stands for
abbrev pub seen : {F : Type 0} → (F → Fed) → Cursor F → Seen
seen fed c = record { fed = fed c.feed; place = c.place; exhausted = c.exhausted }

-- where it stands, and the furthest place that was looked at
abbrev pub stand_of : Seen → Stand
stand_of v = record { place = v.place; furthest = v.fed.furthest }

-- A place that was looked at, and is not the end. So there is an event at it, unless it is 0.
pub record IsPlaceOf (v : Fed) (p : ℕ) : Type 0 where
  pub within : p ≤ v.furthest
  pub below : is_some v.ending ≡ true → p < v.furthest

abbrev pub CanStand : Seen → Type 0
CanStand v = IsPlaceOf v.fed v.place

-- by which fault it has ended, or its feed
abbrev pub cause_in : Seen → Option Cause
cause_in v = if v.exhausted then Some cause.Memory else v.fed.fault

-- a cursor and a desk at a moment, with the fuel that is left and the steps that the traced machines have made
pub record Moment : Type 0 where
  pub cursor : Seen
  pub desk : Sight
  pub fuel : ℕ
  pub steps : ℕ

abbrev pub moment : Seen → Sight → ℕ → ℕ → Moment
moment v a fuel steps = record { cursor = v; desk = a; fuel = fuel; steps = steps }

-- a cursor's fault is its feed's
abbrev pub feed_fault : CursorFault → FeedFault
feed_fault (cursor_fault.Feed f) = f

abbrev pub of_feed : {T : Type 0} → Result T CursorFault → Result T FeedFault
of_feed (Ok x) = Ok x
of_feed (Err e) = Err (feed_fault e)

-- no fault is answered where none was; after one, the same cause is answered from then on, and nothing changes
abbrev pub EndsBy : FeedFault → Moment → Moment → Type 0
EndsBy (fault.Ended c) a b = (cause_in a.cursor ≡ Some c) × (b ≡ a)
EndsBy f a b = (cause_in a.cursor ≡ None) × (cause_in b.cursor ≡ Some (cause_of f))

abbrev pub Ends : {T : Type 0} → Result T FeedFault → Moment → Moment → Type 0
Ends (Ok x) a b = (cause_in a.cursor ≡ None) × (cause_in b.cursor ≡ None)
Ends (Err f) a b = EndsBy f a b

-- What each call leaves, whatever it answers. Of a desk's contents only what its Input has left and what its Output has got may have
-- changed; counts of faults rise each at its own answer.
pub record Leaves {T : Type 0} (result : Result T FeedFault) (a b : Moment) : Type 0 where
  pub ends : Ends result a b
  pub stands : CanStand b.cursor
  pub apart : Apart a.desk b.desk
  pub counts : Counts a.desk b.desk result
  pub too_long : IsErrOf result fault.InputTooLong → (b.cursor.fed.drawn ≡ input_limit) × (b.cursor.fed.ended ≡ false)
  pub fuel : b.fuel ≤ a.fuel
