-- Where a cursor stands, as answers show it.
use Rattle.std.specs.Prelude.{◌≡◌, ℕ, ◌==◌, Option, Some, None, Ok, Err, if◌then◌else◌}
use Rattle.op_trace.specs.World.{Event}
use Rattle.op_machine.specs.Machine.{event_now}
use Rattle.op_cursor.specs.declared.fault.CursorFault.{CursorFault}
use Rattle.op_cursor.specs.Seen.{Seen, Moment, Leaves, cause_in, feed_fault}
use Rattle.op_cursor.specs.Moving.{Shows, ShowBreaks}
use Rattle.op_session.specs.declared.show.ReplyFault.{ReplyFault}
use Rattle.op_session.specs.declared.show.ReplyFault.TheVariants as reply

-- the event that a cursor shows, whose feed stands at its place
abbrev pub event_of : Seen → Option Event
event_of v = if v.place == 0 then None else Some (event_now v.fed.machine)

-- the feed stands at the place and shows the event there, or nothing changed where the place is that of before
abbrev pub Shown : ℕ → Moment → Moment → Type 0
Shown from a b =
    (a.cursor.place ≡ from → b ≡ a) × ((a.cursor.place ≡ from → ⊥) → Shows a b × Leaves {T = Unit {0}} (Ok tt) a b)

-- it could not be shown
abbrev pub Unshown : CursorFault → Moment → Moment → Type 0
Unshown f a b = (cause_in a.cursor ≡ None → ShowBreaks a b) × Leaves {T = Unit {0}} (Err (feed_fault f)) a b

-- or it was, and memory was wanting for the text
abbrev pub IsUnanswered : ReplyFault → ℕ → Moment → Moment → Type 0
IsUnanswered (reply.Cursor f) from a b = Unshown f a b
IsUnanswered reply.Memory from a b = Shown from a b
