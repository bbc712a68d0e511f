use Rattle.std.proofs.Common.{◌-◌, ◌^◌, ◌≤◌}
use Rattle.op_retrace.specs.Sight.{sight}
use Rattle.op_cursor.specs.inner.Walks.{Walks}
use Rattle.op_cursor.specs.inner.Finds.{LooksOn}
use Rattle.op_cursor.proofs.search.search.Given as goal

abbrev pub invariant-looks : goal.invariant-looks
invariant-looks g l = record {
  walks : Walks (g.F.Feed.fed l.fn.feed).place (g.F.Feed.fed l.fn.feed) (g.F.Feed.fed l.feed)
      (sight g.D.Desk l.fn.desk) (sight g.D.Desk l.desk) l.fn.steps l.steps;
  on : LooksOn l.sought (g.F.Feed.fed l.fn.feed).place l.fn.fuel (g.F.Feed.fed l.feed) l.fuel;
  falls : l.fuel ≤ l.fn.fuel;
}

abbrev pub decreases-looks : goal.decreases-looks
decreases-looks g l = 2 ^ 63 - (g.F.Feed.fed l.feed).place
