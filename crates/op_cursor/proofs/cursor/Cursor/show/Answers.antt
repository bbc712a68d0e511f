use Rattle.std.proofs.Common.{refl}
use Rattle.op_retrace.specs.Sight.{sight}
use Rattle.op_cursor.specs.Seen.{seen}
use Rattle.op_cursor.proofs.MovedCursors.{awake-none, awake-sound, awake-place}
use Rattle.op_cursor.proofs.ShownPlaces.{shows-now, show-leaves, show-breaks, show-broken-leaves, show-unwoken}
use Rattle.op_cursor.proofs.cursor.Cursor.show.Goals as goal

pub arrive-requires-clause-none : goal.arrive-requires-clause-none
arrive-requires-clause-none g c =
    awake-none (seen g.F.Feed.fed c.args.self.now) _ (sight g.D.Desk c.args.desk.now) c.in-Ok.ensures.wakes

pub arrive-requires-clause-sound : goal.arrive-requires-clause-sound
arrive-requires-clause-sound g c =
    awake-sound (seen g.F.Feed.fed c.args.self.now) _ (sight g.D.Desk c.args.desk.now) c.in-Ok.ensures.wakes

pub arrive-requires-clause-place : goal.arrive-requires-clause-place
arrive-requires-clause-place g c =
    awake-place (seen g.F.Feed.fed c.args.self.now) (seen g.F.Feed.fed c.wake.new.self) (sight g.D.Desk c.args.desk.now) c.requires
    c.in-Ok.ensures.wakes

pub returns-in-Ok-arrive-clause-shows : goal.returns-in-Ok-arrive-clause-shows
returns-in-Ok-arrive-clause-shows g c =
    shows-now (seen g.F.Feed.fed c.args.self.now) (seen g.F.Feed.fed c.wake.new.self) _ _ _ _ _ c.requires c.in-Ok.ensures.wakes
    c.in-Ok-arrive.ensures.arrives refl

pub returns-in-Ok-arrive-clause-leaves : goal.returns-in-Ok-arrive-clause-leaves
returns-in-Ok-arrive-clause-leaves g c =
    show-leaves (seen g.F.Feed.fed c.args.self.now) (seen g.F.Feed.fed c.wake.new.self) _ _ _ _ _ c.requires c.in-Ok.ensures.wakes
    c.in-Ok-arrive.ensures.arrives refl refl

pub returns-in-Err-arrive-clause-breaks : goal.returns-in-Err-arrive-clause-breaks
returns-in-Err-arrive-clause-breaks g c none =
    show-breaks c.in-Err-arrive.fault (seen g.F.Feed.fed c.args.self.now) (seen g.F.Feed.fed c.wake.new.self) _ _ _ _ _ c.requires
    c.in-Ok.ensures.wakes c.in-Err-arrive.ensures.stops refl

pub returns-in-Err-arrive-clause-leaves : goal.returns-in-Err-arrive-clause-leaves
returns-in-Err-arrive-clause-leaves g c =
    show-broken-leaves c.in-Err-arrive.fault (seen g.F.Feed.fed c.args.self.now) (seen g.F.Feed.fed c.wake.new.self) _ _ _ _ _ c.requires
    c.in-Ok.ensures.wakes c.in-Err-arrive.ensures.stops refl refl

pub returns-in-Err-clause-breaks : goal.returns-in-Err-clause-breaks
returns-in-Err-clause-breaks g c none =
    show-unwoken c.in-Err.fault (seen g.F.Feed.fed c.args.self.now) _ _ _ none c.in-Err.ensures.fails
