use Rattle.std.proofs.Common.{◌+◌, arith}
use Rattle.op_cursor.proofs.JoinedWalks.{walks-nothing, walks-on, event-on}
use Rattle.op_cursor.proofs.StoppedWalks.{stops-then, stops-wider}
use Rattle.op_cursor.proofs.walk.go_past.Goals as goal

pub places-init : goal.places-init
places-init g c = record { walks = walks-nothing _ _ _ c.requires.none c.requires.sound; before = c.requires.before }

pub places-smaller : goal.places-smaller
places-smaller g c =
    let e = event-on _ _ _ _ _ _ _ c.in-Ok-Event.field-0-is c.in-Ok-Event.ensures.advanced in
    let p = e.0 in
    let q = e.1 in
    omega arith

pub places-preserved : goal.places-preserved
places-preserved g c =
    let e = event-on _ _ _ _ _ _ _ c.in-Ok-Event.field-0-is c.in-Ok-Event.ensures.advanced in
    let p = e.0 in
    let h = c.place.ensures.place in
    let t = c.if-place-limit.false in
    record {
      walks = walks-on _ _ _ _ _ _ _ _ _ _ _ c.places.invariant.walks c.in-Ok-Event.ensures.advanced;
      before = omega arith;
    }

pub returns-in-Ok-End-clause-walks : goal.returns-in-Ok-End-clause-walks
returns-in-Ok-End-clause-walks g c =
    walks-on _ _ _ _ _ _ _ _ _ _ _ c.places.invariant.walks c.in-Ok-End.ensures.advanced

pub returns-in-Err-clause-stops : goal.returns-in-Err-clause-stops
returns-in-Err-clause-stops g c =
    let mid = g.F.Feed.fed c.places.feed in
    let h = c.place.ensures.place in
    let t = c.if-place-limit.false in
    stops-wider _ (mid.place + 1) (c.args.limit + 1) _ _ _ _ _ _ _ (omega arith)
    (stops-then _ (mid.place + 1) _ _ mid _ _ _ _ _ _ _ c.places.invariant.walks (omega arith) c.in-Err.ensures.stops)
