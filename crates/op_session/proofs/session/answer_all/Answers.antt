use Rattle.std.proofs.Common.{refl, sym, subst}
use Rattle.op_machine.specs.Machine.{Kept}
use Rattle.op_moves.specs.Moves.{at_start}
use Rattle.op_session.specs.inner.Feeding.{Feeds, traced_by}
use Rattle.op_session.proofs.BetweenBytes.{holds_start}
use Rattle.op_session.proofs.session.answer_all.Goals as goal

pub answer_feed-requires : goal.answer_feed-requires
answer_feed-requires g c =
    let feeds : Feeds (traced_by c.new-feed.result.machine) at_start c.new-feed.result =
    subst (λ (m : Kept). Feeds (traced_by m) at_start c.new-feed.result) (sym c.new-feed.ensures.machine) c.new-feed.ensures.feeds in
    rw c.new-cutter.ensures.empty (holds_start _ _ _ _ feeds c.new-feed.ensures.steps refl)

pub returns : goal.returns
returns g c = rw c.new-feed.ensures.machine at c.answer_feed.ensures
