use Rattle.std.proofs.Common.{[], arith}
use Rattle.op_cursor.proofs.FoundPlaces.{end-known}
use Rattle.op_cursor.proofs.cursor.Cursor.new.Goals as goal

pub returns-clause-stands : goal.returns-clause-stands
returns-clause-stands g c none = record {
  within = omega arith;
  below = λ s.
      let f = end-known (g.F.Feed.fed c.args.feed) _ (c.place-place.ensures.sound none []) s in
      omega arith;
}
