use Rattle.std.proofs.Common.{◌≡◌, ◌∙◌, ap, Err}
use Rattle.op_term.specs.declared.walk.WalkFault.TheVariants.{Spent}
use Rattle.op_moves.specs.Moves as moves
use Rattle.op_cursor.specs.declared.search.Sought.TheVariants as sought
use Rattle.op_cursor.specs.inner.Seeks.{searching}
use Rattle.op_cursor.proofs.PaidMoves.{does-paid, misses-paid, seek-paid, seek-short, seek-lacks}
use Rattle.op_cursor.proofs.search.find_accepted.Goals as goal

pub returns-in-Err-Spent-clause-does : goal.returns-in-Err-Spent-clause-does
returns-in-Err-Spent-clause-does g c =
    let e : c.size.result ≡ Err Spent = c.in-Err-Spent.is ∙ ap Err c.in-Err-Spent.field-0-is in
    seek-short c.args.pattern.now c.args.place (g.F.Feed.fed c.args.feed.now) _ _ _ _ c.requires.none c.requires.sound
    (c.size.ensures.spent e) (c.size.ensures.empty e)

pub returns-in-Err-Memory-clause-misses : goal.returns-in-Err-Memory-clause-misses
returns-in-Err-Memory-clause-misses g c =
    seek-lacks c.args.pattern.now c.args.place (g.F.Feed.fed c.args.feed.now) _ _ _ c.requires.none c.requires.sound

pub returns-in-Ok-find_sought-clause-does : goal.returns-in-Ok-find_sought-clause-does
returns-in-Ok-find_sought-clause-does g c =
    does-paid (moves.seek c.args.pattern.now) (searching (sought.Accepted c.args.pattern)) c.args.place _ _ _ _ _ _ c.args.fuel.now
    c.size.new.fuel
    (λ rest f. seek-paid c.args.pattern.now ((g.F.Feed.fed c.find_sought.new.feed).run rest) c.args.place f c.args.fuel.now c.size.new.fuel
    c.in-Ok.ensures.paid)
    c.in-Ok-find_sought.found _ c.in-Ok-find_sought.ensures.does

pub returns-in-Err-clause-misses : goal.returns-in-Err-clause-misses
returns-in-Err-clause-misses g c =
    misses-paid (moves.seek c.args.pattern.now) (searching (sought.Accepted c.args.pattern)) c.args.place _ _ _ _ _ _ c.args.fuel.now
    c.size.new.fuel
    (λ rest f. seek-paid c.args.pattern.now ((g.F.Feed.fed c.find_sought.new.feed).run rest) c.args.place f c.args.fuel.now c.size.new.fuel
    c.in-Ok.ensures.paid)
    c.in-Err.fault c.in-Err.ensures.misses
