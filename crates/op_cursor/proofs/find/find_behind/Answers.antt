use Rattle.std.proofs.Common.{[], arith}
use Rattle.op_cursor.proofs.FoundPlaces.{short-does, known-does, open-known, gone-does, gone-forward, place-fails}
use Rattle.op_cursor.proofs.find.find_behind.Goals as goal

pub returns-then-is_short-clause-does : goal.returns-then-is_short-clause-does
returns-then-is_short-clause-does g c p i =
    short-does c.args.limit p _ _ _ _ _ c.requires.none c.requires.sound (c.is_short.ensures.short c.if-is_short.true)

pub returns-then-is_known-clause-does : goal.returns-then-is_known-clause-does
returns-then-is_known-clause-does g c p i =
    known-does c.args.limit p _ _ _ _ _ _ c.requires.none c.requires.sound (c.is_short.ensures.paid c.if-is_short.false)
    (c.is_known.ensures.known c.if-is_known.true) c.place_found.ensures

pub go_past-requires-clause-before : goal.go_past-requires-clause-before
go_past-requires-clause-before g c =
    let s = c.requires.sound c.requires.none [] in
    let w = s.within in
    let o = (c.is_known.ensures.open c.if-is_known.false).1 in
    omega arith

pub place_found-requires-in-Ok-clause-known : goal.place_found-requires-in-Ok-clause-known
place_found-requires-in-Ok-clause-known g c =
    let w = c.in-Ok.ensures.walks in
    open-known _ c.args.limit w.goes.still_none w.goes.still_sound c.in-Ok.ensures.there

pub returns-in-Ok-clause-does : goal.returns-in-Ok-clause-does
returns-in-Ok-clause-does g c p i =
    gone-does c.args.limit p _ _ _ _ _ _ _ _ _ (c.is_short.ensures.paid c.if-is_short.false) c.in-Ok.ensures.walks
    c.in-Ok.ensures.there c.place_found-in-Ok.ensures

pub returns-in-Ok-clause-forward : goal.returns-in-Ok-clause-forward
returns-in-Ok-clause-forward g c p i =
    gone-forward c.args.limit p _ _ _ _ _ _ _ c.in-Ok.ensures.walks c.in-Ok.ensures.there c.place_found-in-Ok.ensures

pub returns-in-Err-clause-fails : goal.returns-in-Err-clause-fails
returns-in-Err-clause-fails g c p i =
    place-fails c.args.limit p _ _ _ _ _ _ _ _ _ (c.is_short.ensures.paid c.if-is_short.false) c.in-Err.ensures.stops
