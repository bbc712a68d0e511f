use Rattle.std.proofs.Common.{[], sym, ◌∙◌}
use Rattle.op_cursor.proofs.FoundPlaces.{last-short-does, last-known-does, ended-there, last-gone-does, last-fails}
use Rattle.op_cursor.proofs.find.find_last.Goals as goal

pub returns-then-is_short-clause-does : goal.returns-then-is_short-clause-does
returns-then-is_short-clause-does g c p i =
    last-short-does p _ _ _ _ _ c.requires.none c.requires.sound (c.is_short.ensures.short c.if-is_short.true)

pub returns-then-has_ended-clause-does : goal.returns-then-has_ended-clause-does
returns-then-has_ended-clause-does g c p i =
    last-known-does p _ _ _ _ _ _ c.requires.none c.requires.sound (c.is_short.ensures.paid c.if-is_short.false)
    (sym c.has_ended.ensures ∙ c.if-has_ended.true) c.last_found.ensures

pub last_found-requires-in-Ok-clause-known : goal.last_found-requires-in-Ok-clause-known
last_found-requires-in-Ok-clause-known g c =
    let w = c.in-Ok.ensures.walks in
    ended-there _ _ (w.goes.still_sound w.goes.still_none []) (c.in-Ok.ensures.there [])

pub returns-in-Ok-clause-does : goal.returns-in-Ok-clause-does
returns-in-Ok-clause-does g c p i =
    last-gone-does p _ _ _ _ _ _ _ _ _ (c.is_short.ensures.paid c.if-is_short.false) c.in-Ok.ensures.walks c.in-Ok.ensures.there
    c.last_found-in-Ok.ensures

pub returns-in-Err-clause-fails : goal.returns-in-Err-clause-fails
returns-in-Err-clause-fails g c p i =
    last-fails c.in-Err.ensures.stops.0 p _ _ _ _ _ _ _ _ _ (c.is_short.ensures.paid c.if-is_short.false) c.in-Err.ensures.stops.1
