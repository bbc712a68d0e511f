use Rattle.op_cursor.proofs.JoinedWalks.{walks-nothing, walks-step}
use Rattle.op_cursor.proofs.SearchedFeeds.{short-found, shown-there, end-found-there, event-found-there, event-lacks, stops-looking}
use Rattle.op_cursor.proofs.search.look.Goals as goal

pub returns-then-is_short-clause-walks : goal.returns-then-is_short-clause-walks
returns-then-is_short-clause-walks g c = walks-nothing _ _ _ c.requires.none c.requires.sound

pub returns-then-is_short-clause-looks : goal.returns-then-is_short-clause-looks
returns-then-is_short-clause-looks g c = short-found c.args.sought.now (g.F.Feed.fed c.args.feed.now) _ _ (c.is_short.ensures.short c.if-is_short.true)

pub look_at_event-requires : goal.look_at_event-requires
look_at_event-requires g c = shown-there _ _ _ _ _ _ _ c.in-Ok-Event.field-0-is c.in-Ok-Event.ensures.advanced

pub returns-in-Ok-End-clause-walks : goal.returns-in-Ok-End-clause-walks
returns-in-Ok-End-clause-walks g c = walks-step _ _ _ _ _ _ _ c.in-Ok-End.ensures.advanced

pub returns-in-Ok-End-clause-looks : goal.returns-in-Ok-End-clause-looks
returns-in-Ok-End-clause-looks g c =
    end-found-there c.args.sought.now c.end_found.result _ _ _ _ _ _ _ _ _ c.in-Ok-End.field-0-is c.in-Ok-End.ensures.advanced
    (c.is_short.ensures.paid c.if-is_short.false) c.end_found.ensures

pub returns-in-Ok-clause-walks : goal.returns-in-Ok-clause-walks
returns-in-Ok-clause-walks g c = walks-step _ _ _ _ _ _ _ c.in-Ok-Event.ensures.advanced

pub returns-in-Ok-clause-looks : goal.returns-in-Ok-clause-looks
returns-in-Ok-clause-looks g c =
    event-found-there c.args.sought.now c.in-Ok.found _ _ _ _ _ _ _ _ c.is_short.new.fuel c.look_at_event.new.fuel
    c.in-Ok-Event.field-0-is c.in-Ok-Event.ensures.advanced
    (c.is_short.ensures.paid c.if-is_short.false) c.in-Ok.ensures.tells

pub returns-in-Err-look_at_event-clause-breaks : goal.returns-in-Err-look_at_event-clause-breaks
returns-in-Err-look_at_event-clause-breaks g c =
    event-lacks c.args.sought.now _ _ _ _ _ _ _ _ _ c.in-Ok-Event.field-0-is c.in-Ok-Event.ensures.advanced
    (c.is_short.ensures.paid c.if-is_short.false)

pub returns-in-Err-clause-breaks : goal.returns-in-Err-clause-breaks
returns-in-Err-clause-breaks g c =
    stops-looking c.args.sought.now c.in-Err.fault _ _ _ _ _ _ _ _ (c.is_short.ensures.paid c.if-is_short.false) c.in-Err.ensures.stops
