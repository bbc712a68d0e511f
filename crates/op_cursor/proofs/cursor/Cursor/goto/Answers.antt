use Rattle.std.proofs.Common.{ap, refl}
use Rattle.op_moves.proofs.MoveCosts.{goto-rises}
use Rattle.op_trace.specs.Run.{Run, events_of}
use Rattle.op_retrace.specs.Sight.{sight}
use Rattle.op_cursor.specs.Seen.{seen, stand_of}
use Rattle.op_cursor.specs.Moving.{any_run, to_place}
use Rattle.op_cursor.proofs.MovedCursors.{moved, left-so, forward-so, breaks-now, leaves-broken, unwoken-breaks, awake-none, awake-sound}
use Rattle.op_cursor.proofs.cursor.Cursor.goto.Goals as goal

pub find_place-requires-clause-none : goal.find_place-requires-clause-none
find_place-requires-clause-none g c =
    awake-none (seen g.F.Feed.fed c.args.self.now) _ (sight g.D.Desk c.args.desk.now) c.in-Ok.ensures.wakes

pub find_place-requires-clause-sound : goal.find_place-requires-clause-sound
find_place-requires-clause-sound g c =
    awake-sound (seen g.F.Feed.fed c.args.self.now) _ (sight g.D.Desk c.args.desk.now) c.in-Ok.ensures.wakes

pub returns-in-Ok-find_place-clause-moves : goal.returns-in-Ok-find_place-clause-moves
returns-in-Ok-find_place-clause-moves g c =
    let v = seen g.F.Feed.fed c.wake.new.self in
    let u = seen g.F.Feed.fed c.args.self.now in
    (moved any_run (to_place c.args.n) c.in-Ok-find_place.found _ u v _ _ _ _ _ _ _ _ c.requires c.in-Ok.ensures.wakes
    (c.in-Ok-find_place.ensures.does u.place) (ap g.F.Feed.fed c.settle.ensures.feed) c.settle.ensures.place c.settle.ensures.answer)

pub returns-in-Ok-find_place-clause-forward : goal.returns-in-Ok-find_place-clause-forward
returns-in-Ok-find_place-clause-forward g c =
    let v = seen g.F.Feed.fed c.wake.new.self in
    let u = seen g.F.Feed.fed c.args.self.now in
    forward-so any_run (to_place c.args.n) c.in-Ok-find_place.found _ u v _ _ _ _ _ _ _ _ c.requires c.in-Ok.ensures.wakes
    (c.in-Ok-find_place.ensures.does u.place) (ap g.F.Feed.fed c.settle.ensures.feed) c.settle.ensures.place c.settle.ensures.answer
    (c.in-Ok-find_place.ensures.forward u.place)

pub returns-in-Ok-find_place-clause-leaves : goal.returns-in-Ok-find_place-clause-leaves
returns-in-Ok-find_place-clause-leaves g c =
    let v = seen g.F.Feed.fed c.wake.new.self in
    let u = seen g.F.Feed.fed c.args.self.now in
    left-so any_run (to_place c.args.n) c.in-Ok-find_place.found _ u v _ _ _ _ _ _ _ _ c.requires c.in-Ok.ensures.wakes
    (c.in-Ok-find_place.ensures.does u.place) (ap g.F.Feed.fed c.settle.ensures.feed) c.settle.ensures.place c.settle.ensures.answer
    c.settle.ensures.exhausted c.find_place.ensures.falls

pub returns-in-Err-find_place-clause-breaks : goal.returns-in-Err-find_place-clause-breaks
returns-in-Err-find_place-clause-breaks g c none =
    let v = seen g.F.Feed.fed c.wake.new.self in
    let u = seen g.F.Feed.fed c.args.self.now in
    (breaks-now (to_place c.args.n) c.in-Err-find_place.fault u v _ _ _ _ _ _ _ c.requires c.in-Ok.ensures.wakes
    (c.in-Err-find_place.ensures.fails u.place) refl refl)

pub returns-in-Err-find_place-clause-leaves : goal.returns-in-Err-find_place-clause-leaves
returns-in-Err-find_place-clause-leaves g c =
    let v = seen g.F.Feed.fed c.wake.new.self in
    let u = seen g.F.Feed.fed c.args.self.now in
    leaves-broken (to_place c.args.n) c.in-Err-find_place.fault u v _ _ _ _ _ _ _ c.requires c.in-Ok.ensures.wakes
    (c.in-Err-find_place.ensures.fails u.place) refl refl c.find_place.ensures.falls

pub returns-in-Err-clause-breaks : goal.returns-in-Err-clause-breaks
returns-in-Err-clause-breaks g c none =
    let u = seen g.F.Feed.fed c.args.self.now in
    unwoken-breaks (to_place c.args.n) c.in-Err.fault u _ _ _ _ none c.in-Err.ensures.fails
    (λ (r : Run). goto-rises (events_of r.turns) r.ending c.args.n (stand_of u) c.args.fuel.now)
