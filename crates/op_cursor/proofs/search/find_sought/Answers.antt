use Rattle.op_retrace.specs.Sight.{sight}
use Rattle.op_cursor.proofs.FoundSearches.{sought-does, sought-forward, sought-misses, arrive-misses}
use Rattle.op_cursor.proofs.search.find_sought.Goals as goal

pub returns-in-Err-clause-misses : goal.returns-in-Err-clause-misses
returns-in-Err-clause-misses g c =
    arrive-misses c.args.sought.now c.args.place c.in-Err.fault _ _ _ _ _ _ _ c.requires.place c.in-Err.ensures.stops

pub returns-in-Ok-search-clause-does : goal.returns-in-Ok-search-clause-does
returns-in-Ok-search-clause-does g c =
    sought-does c.args.sought.now c.args.place (g.F.Feed.fed c.args.feed.now) (g.F.Feed.fed c.arrive.new.feed) _ _ _ _ _ _ _ _
    c.requires.place c.in-Ok.ensures.arrives c.in-Ok-search.found _ c.in-Ok-search.ensures.walks c.in-Ok-search.ensures.finds

pub returns-in-Ok-search-clause-forward : goal.returns-in-Ok-search-clause-forward
returns-in-Ok-search-clause-forward g c =
    sought-forward c.args.sought.now c.args.place (g.F.Feed.fed c.args.feed.now) (g.F.Feed.fed c.arrive.new.feed) _
    (sight g.D.Desk c.args.desk.now) (sight g.D.Desk c.arrive.new.desk) (sight g.D.Desk c.search.new.desk) _ c.arrive.new.steps _ _
    c.requires.place c.in-Ok.ensures.arrives c.in-Ok-search.found _ c.in-Ok-search.ensures.walks c.in-Ok-search.ensures.finds

pub returns-in-Err-search-clause-misses : goal.returns-in-Err-search-clause-misses
returns-in-Err-search-clause-misses g c =
    sought-misses c.args.sought.now c.args.place (g.F.Feed.fed c.args.feed.now) (g.F.Feed.fed c.arrive.new.feed) _
    (sight g.D.Desk c.args.desk.now) (sight g.D.Desk c.arrive.new.desk) (sight g.D.Desk c.search.new.desk) _ c.arrive.new.steps _ _
    c.requires.place c.in-Ok.ensures.arrives c.in-Err-search.fault c.in-Err-search.ensures.breaks
