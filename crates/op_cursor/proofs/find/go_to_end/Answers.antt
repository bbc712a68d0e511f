use Rattle.std.proofs.Common.{◌+◌, arith}
use Rattle.op_cursor.proofs.JoinedWalks.{walks-nothing, walks-on, event-on}
use Rattle.op_cursor.proofs.StoppedWalks.{stops-then}
use Rattle.op_cursor.proofs.find.go_to_end.Goals as goal

pub events-init : goal.events-init
events-init g c = record { walks = walks-nothing _ _ _ c.requires.none c.requires.sound }

pub events-smaller : goal.events-smaller
events-smaller g c =
    let e = event-on _ _ _ _ _ _ _ c.in-Ok-Event.field-0-is c.in-Ok-Event.ensures.advanced in
    let p = e.0 in
    let q = e.1 in
    omega arith

pub events-preserved : goal.events-preserved
events-preserved g c =
    record { walks = walks-on _ _ _ _ _ _ _ _ _ _ _ c.events.invariant.walks c.in-Ok-Event.ensures.advanced }

pub returns-in-Ok-End-clause-walks : goal.returns-in-Ok-End-clause-walks
returns-in-Ok-End-clause-walks g c =
    walks-on _ _ _ _ _ _ _ _ _ _ _ c.events.invariant.walks c.in-Ok-End.ensures.advanced

pub returns-in-Err-clause-stops : goal.returns-in-Err-clause-stops
returns-in-Err-clause-stops g c =
    let mid = g.F.Feed.fed c.events.feed in
    (mid.place + 1, stops-then _ (mid.place + 1) _ _ mid _ _ _ _ _ _ _ c.events.invariant.walks (omega arith) c.in-Err.ensures.stops)
