use Rattle.std.proofs.Common.{◌+◌, ◌-◌, ◌^◌, ◌≤◌}
use Rattle.op_retrace.specs.Sight.{sight}
use Rattle.op_cursor.specs.inner.Walks.{Walks}
use Rattle.op_cursor.proofs.walk.go_past.Given as goal

abbrev pub invariant-places : goal.invariant-places
invariant-places g l = record {
  walks : Walks (g.F.Feed.fed l.fn.feed).place (g.F.Feed.fed l.fn.feed) (g.F.Feed.fed l.feed)
      (sight g.D.Desk l.fn.desk) (sight g.D.Desk l.desk) l.fn.steps l.steps;
  before : (g.F.Feed.fed l.feed).place ≤ l.limit + 1;
}

abbrev pub decreases-places : goal.decreases-places
decreases-places g l = 2 ^ 63 - (g.F.Feed.fed l.feed).place
