use Rattle.std.proofs.Common.{ℕ, ◌≤◌, ◌<◌, OnOk, sym, subst, arith}
use Rattle.op_retrace.specs.Sight.{Sight}
use Rattle.op_cursor.specs.inner.Walks.{Walks}
use Rattle.op_cursor.proofs.JoinedWalks.{walks-nothing, start-here, start-zero}
use Rattle.op_cursor.proofs.walk.back.Goals as goal

pub returns-then-place-clause-walks : goal.returns-then-place-clause-walks
returns-then-place-clause-walks g c a n =
    let v = g.F.Feed.fed c.args.feed.now in
    let e = c.place.ensures.place in
    let t = c.if-place.true in
    let h : v.place ≤ c.args.place = omega (arith, e, t) in
    subst (λ (s : ℕ). Walks s v v a a n n) (sym (start-here v.place c.args.place h)) (walks-nothing v a n c.requires.none c.requires.sound)

pub returns-clause-walks : goal.returns-clause-walks
returns-clause-walks g c =
    let v = g.F.Feed.fed c.args.feed.now in
    let w = g.F.Feed.fed c.reset.new.feed in
    let e = c.place.ensures.place in
    let t = c.if-place.false in
    let h : c.args.place < v.place = omega (arith, e, t) in
    subst (λ (s : ℕ). OnOk c.reset.result ((a : Sight) (n : ℕ) → Walks s v w a a n n)) (sym (start-zero v.place c.args.place h))
    c.reset.ensures.walks
