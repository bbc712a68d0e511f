use Rattle.std.proofs.Common.{◌-◌, ◌^◌}
use Rattle.op_retrace.specs.Sight.{sight}
use Rattle.op_cursor.specs.inner.Walks.{Walks}
use Rattle.op_cursor.proofs.find.go_to_end.Given as goal

abbrev pub invariant-events : goal.invariant-events
invariant-events g l = record {
  walks : Walks (g.F.Feed.fed l.fn.feed).place (g.F.Feed.fed l.fn.feed) (g.F.Feed.fed l.feed)
      (sight g.D.Desk l.fn.desk) (sight g.D.Desk l.desk) l.fn.steps l.steps;
}

abbrev pub decreases-events : goal.decreases-events
decreases-events g l = 2 ^ 63 - (g.F.Feed.fed l.feed).place
