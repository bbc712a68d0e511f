use Rattle.std.proofs.Common.{ap}
use Rattle.op_trace.specs.Run.{Run}
use Rattle.op_moves.proofs.MoveCosts.{first-rises}
use Rattle.op_retrace.specs.Sight.{sight}
use Rattle.op_cursor.specs.Seen.{seen, stand_of}
use Rattle.op_cursor.specs.Moving.{any_run, to_start}
use Rattle.op_cursor.proofs.MovedCursors.{moved, left-so, start-does, unwoken-breaks}
use Rattle.op_cursor.proofs.cursor.Cursor.first.Goals as goal

pub returns-in-Ok-clause-moves : goal.returns-in-Ok-clause-moves
returns-in-Ok-clause-moves g c =
    let v = seen g.F.Feed.fed c.wake.new.self in
    let u = seen g.F.Feed.fed c.args.self.now in
    let found = c.find_start-found.ensures in
    moved any_run to_start c.find_start-found.result _ u v _ _ _ _ _ _ _ _ c.requires c.in-Ok.ensures.wakes
    (start-does c.find_start-found.result u v (sight g.D.Desk c.args.desk.now) c.args.steps.now _ _ c.in-Ok.ensures.wakes found.finds found.place)
    (ap g.F.Feed.fed c.settle.ensures.feed) c.settle.ensures.place c.settle.ensures.answer

pub returns-in-Ok-clause-leaves : goal.returns-in-Ok-clause-leaves
returns-in-Ok-clause-leaves g c =
    let v = seen g.F.Feed.fed c.wake.new.self in
    let u = seen g.F.Feed.fed c.args.self.now in
    let found = c.find_start-found.ensures in
    left-so any_run to_start c.find_start-found.result _ u v _ _ _ _ _ _ _ _ c.requires c.in-Ok.ensures.wakes
    (start-does c.find_start-found.result u v (sight g.D.Desk c.args.desk.now) c.args.steps.now _ _ c.in-Ok.ensures.wakes found.finds found.place)
    (ap g.F.Feed.fed c.settle.ensures.feed) c.settle.ensures.place c.settle.ensures.answer c.settle.ensures.exhausted found.falls

pub returns-in-Err-clause-breaks : goal.returns-in-Err-clause-breaks
returns-in-Err-clause-breaks g c none =
    let u = seen g.F.Feed.fed c.args.self.now in
    unwoken-breaks to_start c.in-Err.fault u _ _ _ _ none c.in-Err.ensures.fails (λ (r : Run). first-rises (stand_of u) c.args.fuel.now)
