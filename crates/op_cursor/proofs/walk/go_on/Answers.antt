use Rattle.std.proofs.Common.{◌≡◌, ℕ, ◌+◌, ◌-◌, ◌<◌, IfErr, subst, arith}
use Rattle.op_retrace.specs.Sight.{sight}
use Rattle.op_cursor.specs.inner.Walks.{Stops}
use Rattle.op_cursor.proofs.JoinedWalks.{walks-nothing, on-ok}
use Rattle.op_cursor.proofs.FoundPlaces.{arrives-at}
use Rattle.op_cursor.proofs.walk.go_on.Goals as goal

pub returns-then-place-eq0-clause-walks : goal.returns-then-place-eq0-clause-walks
returns-then-place-eq0-clause-walks g c = walks-nothing _ _ _ c.requires.none c.requires.sound

pub returns-clause-there : goal.returns-clause-there
returns-clause-there g c =
    let t = c.if-place-eq0.false in
    let some : 0 < c.args.place = grind arith in
    on-ok c.go_past.result c.go_past.ensures.walks c.go_past.ensures.there
    (λ w there. arrives-at c.args.place _ _ _ _ _ _ w c.requires.place some there)

pub returns-clause-stops : goal.returns-clause-stops
returns-clause-stops g c =
    let t = c.if-place-eq0.false in
    let e : c.args.place - 1 + 1 ≡ c.args.place = grind arith in
    subst (λ (n : ℕ). IfErr c.go_past.result (λ f. Stops (g.F.Feed.fed c.args.feed.now).place n f (g.F.Feed.fed c.args.feed.now)
    (g.F.Feed.fed c.go_past.new.feed) (sight g.D.Desk c.args.desk.now) (sight g.D.Desk c.go_past.new.desk) c.args.steps.now
    c.go_past.new.steps)) e c.go_past.ensures.stops
