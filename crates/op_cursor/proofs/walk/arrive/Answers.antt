use Rattle.std.proofs.Common.{◌≤◌, arith}
use Rattle.op_retrace.specs.Sight.{sight}
use Rattle.op_cursor.proofs.JoinedWalks.{walks-then, start-fits, on-ok, if-err}
use Rattle.op_cursor.proofs.StoppedWalks.{stops-then}
use Rattle.op_cursor.proofs.walk.arrive.Goals as goal

pub go_on-requires-clause-none : goal.go_on-requires-clause-none
go_on-requires-clause-none g c = (c.in-Ok.ensures.walks (sight g.D.Desk c.args.desk.now) c.args.steps.now).goes.still_none

pub go_on-requires-clause-sound : goal.go_on-requires-clause-sound
go_on-requires-clause-sound g c = (c.in-Ok.ensures.walks (sight g.D.Desk c.args.desk.now) c.args.steps.now).goes.still_sound

pub returns-in-Ok-clause-arrives : goal.returns-in-Ok-clause-arrives
returns-in-Ok-clause-arrives g c =
    let back = c.in-Ok.ensures.walks (sight g.D.Desk c.args.desk.now) c.args.steps.now in
    let f = c.in-Ok.ensures.furthest in
    let i = c.requires.place.within in
    on-ok c.go_on.result c.go_on.ensures.walks c.go_on.ensures.there
    (λ w there. let h = w.furthest in
    record {
      walks = walks-then _ _ _ _ _ _ _ _ _ _ back w;
      there = there;
      furthest = omega arith;
    })

pub returns-in-Ok-clause-stops : goal.returns-in-Ok-clause-stops
returns-in-Ok-clause-stops g c =
    let back = c.in-Ok.ensures.walks (sight g.D.Desk c.args.desk.now) c.args.steps.now in
    let t = c.in-Ok.ensures.there in
    let k = start-fits (g.F.Feed.fed c.args.feed.now).place c.args.place in
    let fits : (g.F.Feed.fed c.back.new.feed).place ≤ c.args.place = omega arith in
    if-err c.go_on.result c.go_on.ensures.stops
    (λ f s. stops-then _ c.args.place f _ _ _ _ _ _ _ _ _ back fits s)

pub returns-in-Err-clause-stops : goal.returns-in-Err-clause-stops
returns-in-Err-clause-stops g c = c.in-Err.ensures.stops _ _ _ _
