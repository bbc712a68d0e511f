use Rattle.std.proofs.Common.{arith}
use Rattle.op_retrace.specs.Sight.{sight}
use Rattle.op_cursor.specs.declared.search.Sought.TheVariants as sought
use Rattle.op_cursor.proofs.FoundSearches.{sought-forward}
use Rattle.op_cursor.proofs.FinishedBoxes.{finish-nowhere, arrived-shows, finish-does, finish-misses, finish-unarrived}
use Rattle.op_cursor.proofs.search.find_leaving.Goals as goal

pub returns-in-Err-clause-misses : goal.returns-in-Err-clause-misses
returns-in-Err-clause-misses g c =
    finish-unarrived c.args.place c.in-Err.fault _ _ _ _ _ _ _ c.requires.place c.in-Err.ensures.stops

pub returns-then-place-eq0-clause-does : goal.returns-then-place-eq0-clause-does
returns-then-place-eq0-clause-does g c =
    finish-nowhere c.args.place (g.F.Feed.fed c.args.feed.now) _ _ _ c.requires.none c.requires.sound c.requires.place c.if-place-eq0.true

pub call_here-requires : goal.call_here-requires
call_here-requires g c =
    arrived-shows c.args.place (g.F.Feed.fed c.args.feed.now) (g.F.Feed.fed c.arrive.new.feed) (g.F.Feed.fed c.arrive.new.feed)
    (sight g.D.Desk c.args.desk.now) (sight g.D.Desk c.arrive.new.desk) (sight g.D.Desk c.arrive.new.desk) c.args.steps.now
    c.arrive.new.steps 0 c.args.fuel.now c.requires.place c.in-Ok.ensures.arrives (omega (arith, c.if-place-eq0.false))

pub returns-in-Ok-search-clause-does : goal.returns-in-Ok-search-clause-does
returns-in-Ok-search-clause-does g c =
    let old = g.F.Feed.fed c.args.feed.now in
    let mid = g.F.Feed.fed c.arrive.new.feed in
    let new = g.F.Feed.fed c.search.new.feed in
    let a = sight g.D.Desk c.args.desk.now in
    let m = sight g.D.Desk c.arrive.new.desk in
    let b = sight g.D.Desk c.search.new.desk in
    let shown = arrived-shows c.args.place old mid new a m b c.args.steps.now c.arrive.new.steps 0 c.args.fuel.now c.requires.place
    c.in-Ok.ensures.arrives (omega (arith, c.if-place-eq0.false)) in
    finish-does c.args.place old mid new a m b c.args.steps.now c.arrive.new.steps c.search.new.steps c.args.fuel.now c.requires.place
    c.in-Ok.ensures.arrives c.call_here.result shown c.call_here.ensures c.in-Ok-search.found _ c.in-Ok-search.ensures.walks
    c.in-Ok-search.ensures.finds

pub returns-in-Ok-search-clause-forward : goal.returns-in-Ok-search-clause-forward
returns-in-Ok-search-clause-forward g c =
    sought-forward (sought.Left c.call_here.result) c.args.place (g.F.Feed.fed c.args.feed.now) (g.F.Feed.fed c.arrive.new.feed) _
    (sight g.D.Desk c.args.desk.now) (sight g.D.Desk c.arrive.new.desk) (sight g.D.Desk c.search.new.desk) _ c.arrive.new.steps _ _
    c.requires.place c.in-Ok.ensures.arrives c.in-Ok-search.found _ c.in-Ok-search.ensures.walks c.in-Ok-search.ensures.finds

pub returns-in-Err-search-clause-misses : goal.returns-in-Err-search-clause-misses
returns-in-Err-search-clause-misses g c =
    let old = g.F.Feed.fed c.args.feed.now in
    let mid = g.F.Feed.fed c.arrive.new.feed in
    let new = g.F.Feed.fed c.search.new.feed in
    let a = sight g.D.Desk c.args.desk.now in
    let m = sight g.D.Desk c.arrive.new.desk in
    let b = sight g.D.Desk c.search.new.desk in
    let shown = arrived-shows c.args.place old mid new a m b c.args.steps.now c.arrive.new.steps 0 c.args.fuel.now c.requires.place
    c.in-Ok.ensures.arrives (omega (arith, c.if-place-eq0.false)) in
    finish-misses c.args.place old mid new a m b c.args.steps.now c.arrive.new.steps c.search.new.steps c.args.fuel.now
    c.requires.place c.in-Ok.ensures.arrives c.call_here.result shown c.call_here.ensures c.in-Err-search.fault
    c.in-Err-search.ensures.breaks
