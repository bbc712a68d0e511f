use Rattle.std.proofs.Common.{ap, refl}
use Rattle.op_moves.specs.Moves as moves
use Rattle.op_moves.proofs.MoveCosts.{last-rises}
use Rattle.op_trace.specs.Run.{Run, events_of}
use Rattle.op_retrace.specs.Sight.{sight}
use Rattle.op_cursor.specs.Seen.{seen, stand_of}
use Rattle.op_cursor.specs.Moving.{any_run}
use Rattle.op_cursor.proofs.MovedCursors.{moved, left-so, breaks-now, leaves-broken, unwoken-breaks, awake-none, awake-sound}
use Rattle.op_cursor.proofs.cursor.Cursor.last.Goals as goal

pub find_last-requires-clause-none : goal.find_last-requires-clause-none
find_last-requires-clause-none g c =
    awake-none (seen g.F.Feed.fed c.args.self.now) _ (sight g.D.Desk c.args.desk.now) c.in-Ok.ensures.wakes

pub find_last-requires-clause-sound : goal.find_last-requires-clause-sound
find_last-requires-clause-sound g c =
    awake-sound (seen g.F.Feed.fed c.args.self.now) _ (sight g.D.Desk c.args.desk.now) c.in-Ok.ensures.wakes

pub returns-in-Ok-find_last-clause-moves : goal.returns-in-Ok-find_last-clause-moves
returns-in-Ok-find_last-clause-moves g c =
    let v = seen g.F.Feed.fed c.wake.new.self in
    let u = seen g.F.Feed.fed c.args.self.now in
    (moved any_run moves.last c.in-Ok-find_last.found _ u v _ _ _ _ _ _ _ _ c.requires c.in-Ok.ensures.wakes
    (c.in-Ok-find_last.ensures.does u.place) (ap g.F.Feed.fed c.settle.ensures.feed) c.settle.ensures.place c.settle.ensures.answer)

pub returns-in-Ok-find_last-clause-leaves : goal.returns-in-Ok-find_last-clause-leaves
returns-in-Ok-find_last-clause-leaves g c =
    let v = seen g.F.Feed.fed c.wake.new.self in
    let u = seen g.F.Feed.fed c.args.self.now in
    left-so any_run moves.last c.in-Ok-find_last.found _ u v _ _ _ _ _ _ _ _ c.requires c.in-Ok.ensures.wakes
    (c.in-Ok-find_last.ensures.does u.place) (ap g.F.Feed.fed c.settle.ensures.feed) c.settle.ensures.place c.settle.ensures.answer
    c.settle.ensures.exhausted c.find_last.ensures.falls

pub returns-in-Err-find_last-clause-breaks : goal.returns-in-Err-find_last-clause-breaks
returns-in-Err-find_last-clause-breaks g c none =
    let v = seen g.F.Feed.fed c.wake.new.self in
    let u = seen g.F.Feed.fed c.args.self.now in
    (breaks-now moves.last c.in-Err-find_last.fault u v _ _ _ _ _ _ _ c.requires c.in-Ok.ensures.wakes
    (c.in-Err-find_last.ensures.fails u.place) refl refl)

pub returns-in-Err-find_last-clause-leaves : goal.returns-in-Err-find_last-clause-leaves
returns-in-Err-find_last-clause-leaves g c =
    let v = seen g.F.Feed.fed c.wake.new.self in
    let u = seen g.F.Feed.fed c.args.self.now in
    leaves-broken moves.last c.in-Err-find_last.fault u v _ _ _ _ _ _ _ c.requires c.in-Ok.ensures.wakes
    (c.in-Err-find_last.ensures.fails u.place) refl refl c.find_last.ensures.falls

pub returns-in-Err-clause-breaks : goal.returns-in-Err-clause-breaks
returns-in-Err-clause-breaks g c none =
    let u = seen g.F.Feed.fed c.args.self.now in
    unwoken-breaks moves.last c.in-Err.fault u _ _ _ _ none c.in-Err.ensures.fails
    (λ (r : Run). last-rises (events_of r.turns) r.ending (stand_of u) c.args.fuel.now)
