use Rattle.std.proofs.Common.{ap, refl}
use Rattle.op_moves.specs.Moves as moves
use Rattle.op_moves.proofs.MoveCosts.{finish-rises}
use Rattle.op_trace.specs.Run.{Run, events_of}
use Rattle.op_retrace.specs.Sight.{sight}
use Rattle.op_cursor.specs.Seen.{seen, stand_of}
use Rattle.op_cursor.specs.Moving.{any_run}
use Rattle.op_cursor.proofs.MovedCursors.{moved, left-so, forward-so, breaks-now, leaves-broken, unwoken-breaks}
use Rattle.op_cursor.proofs.MovedCursors.{awake-none, awake-sound, awake-place}
use Rattle.op_cursor.proofs.LackedCursors.{lacking-breaks, lacking-leaves, does-here, forward-here, fails-here, lacks-here}
use Rattle.op_cursor.proofs.cursor.Cursor.finish.Goals as goal

pub find_leaving-requires-clause-none : goal.find_leaving-requires-clause-none
find_leaving-requires-clause-none g c =
    awake-none (seen g.F.Feed.fed c.args.self.now) _ (sight g.D.Desk c.args.desk.now) c.in-Ok.ensures.wakes

pub find_leaving-requires-clause-sound : goal.find_leaving-requires-clause-sound
find_leaving-requires-clause-sound g c =
    awake-sound (seen g.F.Feed.fed c.args.self.now) _ (sight g.D.Desk c.args.desk.now) c.in-Ok.ensures.wakes

pub find_leaving-requires-clause-place : goal.find_leaving-requires-clause-place
find_leaving-requires-clause-place g c =
    awake-place (seen g.F.Feed.fed c.args.self.now) (seen g.F.Feed.fed c.wake.new.self) (sight g.D.Desk c.args.desk.now) c.requires
    c.in-Ok.ensures.wakes

pub returns-in-Ok-find_leaving-clause-moves : goal.returns-in-Ok-find_leaving-clause-moves
returns-in-Ok-find_leaving-clause-moves g c =
    let v = seen g.F.Feed.fed c.wake.new.self in
    let u = seen g.F.Feed.fed c.args.self.now in
    (moved any_run moves.finish c.in-Ok-find_leaving.found _ u v _ _ _ _ _ _ _ _ c.requires c.in-Ok.ensures.wakes
    (λ i. does-here moves.finish u v _ _ _ _ _ _ c.in-Ok.ensures.wakes any_run c.in-Ok-find_leaving.found _
    c.in-Ok-find_leaving.ensures.does)
    (ap g.F.Feed.fed c.settle.ensures.feed) c.settle.ensures.place c.settle.ensures.answer)

pub returns-in-Ok-find_leaving-clause-forward : goal.returns-in-Ok-find_leaving-clause-forward
returns-in-Ok-find_leaving-clause-forward g c =
    let v = seen g.F.Feed.fed c.wake.new.self in
    let u = seen g.F.Feed.fed c.args.self.now in
    let m = moves.finish in
    forward-so any_run m c.in-Ok-find_leaving.found _ u v _ _ _ _ _ _ _ _ c.requires c.in-Ok.ensures.wakes
    (λ i. does-here m u v _ _ _ _ _ _ c.in-Ok.ensures.wakes any_run c.in-Ok-find_leaving.found _ c.in-Ok-find_leaving.ensures.does)
    (ap g.F.Feed.fed c.settle.ensures.feed) c.settle.ensures.place c.settle.ensures.answer
    (λ i. forward-here m u v _ (sight g.D.Desk c.args.desk.now) (sight g.D.Desk c.args.desk.now) _ _ 0 c.in-Ok.ensures.wakes
    c.in-Ok-find_leaving.found c.in-Ok-find_leaving.ensures.forward)

pub returns-in-Ok-find_leaving-clause-leaves : goal.returns-in-Ok-find_leaving-clause-leaves
returns-in-Ok-find_leaving-clause-leaves g c =
    let v = seen g.F.Feed.fed c.wake.new.self in
    let u = seen g.F.Feed.fed c.args.self.now in
    let m = moves.finish in
    left-so any_run m c.in-Ok-find_leaving.found _ u v _ _ _ _ _ _ _ _ c.requires c.in-Ok.ensures.wakes
    (λ i. does-here m u v _ _ _ _ _ _ c.in-Ok.ensures.wakes any_run c.in-Ok-find_leaving.found _ c.in-Ok-find_leaving.ensures.does)
    (ap g.F.Feed.fed c.settle.ensures.feed) c.settle.ensures.place c.settle.ensures.answer
    c.settle.ensures.exhausted c.find_leaving.ensures.falls

pub returns-in-Err-Feed-clause-breaks : goal.returns-in-Err-Feed-clause-breaks
returns-in-Err-Feed-clause-breaks g c none =
    let v = seen g.F.Feed.fed c.wake.new.self in
    let u = seen g.F.Feed.fed c.args.self.now in
    let m = moves.finish in
    (breaks-now m c.in-Err-Feed.fault u v _ _ _ _ _ _ _ c.requires c.in-Ok.ensures.wakes
    (λ i. fails-here m u v _ _ _ _ _ _ c.in-Ok.ensures.wakes _ c.in-Err-Feed.fault c.in-Err-Feed.field-0-is
    c.in-Err-Feed.ensures.misses) refl refl)

pub returns-in-Err-Feed-clause-leaves : goal.returns-in-Err-Feed-clause-leaves
returns-in-Err-Feed-clause-leaves g c =
    let v = seen g.F.Feed.fed c.wake.new.self in
    let u = seen g.F.Feed.fed c.args.self.now in
    let m = moves.finish in
    leaves-broken m c.in-Err-Feed.fault u v _ _ _ _ _ _ _ c.requires c.in-Ok.ensures.wakes
    (λ i. fails-here m u v _ _ _ _ _ _ c.in-Ok.ensures.wakes _ c.in-Err-Feed.fault c.in-Err-Feed.field-0-is
    c.in-Err-Feed.ensures.misses) refl refl c.find_leaving.ensures.falls

pub returns-in-Err-Memory-clause-breaks : goal.returns-in-Err-Memory-clause-breaks
returns-in-Err-Memory-clause-breaks g c none =
    let v = seen g.F.Feed.fed c.wake.new.self in
    let u = seen g.F.Feed.fed c.args.self.now in
    let m = moves.finish in
    lacking-breaks m u v _ _ _ _ _ _ _ c.requires c.in-Ok.ensures.wakes
    (lacks-here m u v _ _ _ _ _ _ c.in-Ok.ensures.wakes _ c.in-Err-Memory.field-0-is c.in-Err-Memory.ensures.misses) refl refl

pub returns-in-Err-Memory-clause-leaves : goal.returns-in-Err-Memory-clause-leaves
returns-in-Err-Memory-clause-leaves g c =
    let v = seen g.F.Feed.fed c.wake.new.self in
    let u = seen g.F.Feed.fed c.args.self.now in
    let m = moves.finish in
    lacking-leaves m u v _ _ _ _ _ _ _ c.requires c.in-Ok.ensures.wakes
    (lacks-here m u v _ _ _ _ _ _ c.in-Ok.ensures.wakes _ c.in-Err-Memory.field-0-is c.in-Err-Memory.ensures.misses) refl refl
    c.find_leaving.ensures.falls

pub returns-in-Err-clause-breaks : goal.returns-in-Err-clause-breaks
returns-in-Err-clause-breaks g c none =
    let u = seen g.F.Feed.fed c.args.self.now in
    unwoken-breaks moves.finish c.in-Err.fault u _ _ _ _ none c.in-Err.ensures.fails
    (λ (r : Run). finish-rises (events_of r.turns) r.ending (stand_of u) c.args.fuel.now)
