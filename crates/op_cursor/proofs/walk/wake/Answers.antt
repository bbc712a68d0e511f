use Rattle.std.proofs.Common.{sym, ◌∙◌}
use Rattle.op_cursor.proofs.WokenFeeds.{wakes-nothing, wakes-reset, shows-none}
use Rattle.op_cursor.proofs.walk.wake.Goals as goal

pub returns-then-shows_event-clause-wakes : goal.returns-then-shows_event-clause-wakes
returns-then-shows_event-clause-wakes g c =
    wakes-nothing (g.F.Feed.fed c.args.feed.now) (shows-none (g.F.Feed.fed c.args.feed.now) (sym c.shows_event.ensures ∙ c.if-shows_event.true))
    c.place-place.ensures.sound

pub returns-in-Ok-clause-wakes : goal.returns-in-Ok-clause-wakes
returns-in-Ok-clause-wakes g c =
    wakes-reset _ _ c.in-Ok.ensures.ends.0 c.place-place.ensures.sound c.in-Ok.ensures.resets c.place-start.ensures.sound
    (sym c.shows_event.ensures ∙ c.if-shows_event.false)
