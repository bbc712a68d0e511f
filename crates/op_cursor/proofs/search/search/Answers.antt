use Rattle.std.proofs.Common.{arith}
use Rattle.op_cursor.proofs.JoinedWalks.{walks-nothing, walks-then}
use Rattle.op_cursor.proofs.SearchSteps.{looks-nothing}
use Rattle.op_cursor.proofs.SearchedFeeds.{looked-behind, breaks-behind, looks-none}
use Rattle.op_cursor.proofs.search.search.Goals as goal

pub looks-init : goal.looks-init
looks-init g c = record {
  walks = walks-nothing _ _ _ c.requires.none c.requires.sound;
  on = looks-nothing c.args.sought.now (g.F.Feed.fed c.args.feed.now) c.args.fuel.now;
  falls = omega arith;
}

pub returns-in-Ok-Some-clause-walks : goal.returns-in-Ok-Some-clause-walks
returns-in-Ok-Some-clause-walks g c = walks-then _ _ _ _ _ _ _ _ _ _ c.looks.invariant.walks c.in-Ok-Some.ensures.walks

pub looks-preserved : goal.looks-preserved
looks-preserved g c =
    let i = c.looks.invariant in
    let f = i.falls in
    let h = c.look.ensures.falls in
    record {
      walks = walks-then _ _ _ _ _ _ _ _ _ _ i.walks c.in-Ok-None.ensures.walks;
      on = looked-behind c.args.sought.now _ (g.F.Feed.fed c.looks.feed) _ _ _ _ _ _ _ c.args.fuel.now c.looks.fuel c.look.new.fuel i.walks i.on
          c.in-Ok-None.ensures.walks
          (looks-none c.args.sought.now c.in-Ok-None.field-0 _ _ _ _ c.in-Ok-None.field-0-is c.in-Ok-None.ensures.looks);
      falls = omega arith;
    }

pub returns-in-Err-clause-breaks : goal.returns-in-Err-clause-breaks
returns-in-Err-clause-breaks g c =
    let i = c.looks.invariant in
    breaks-behind c.args.sought.now _ (g.F.Feed.fed c.looks.feed) _ _ _ _ _ _ _ c.args.fuel.now c.looks.fuel c.looks.fuel i.walks i.on
    c.in-Err.fault c.in-Err.ensures.breaks
