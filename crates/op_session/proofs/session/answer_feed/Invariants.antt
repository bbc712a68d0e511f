use Rattle.op_session.specs.inner.Feeding.{traced_by}
use Rattle.op_session.specs.inner.Progress.{Holds}
use Rattle.op_session.specs.Sight.{sight}
use Rattle.op_session.proofs.session.answer_feed.Given as goal

abbrev pub invariant-loop : goal.invariant-loop
invariant-loop g l =
    Holds (traced_by l.fn.feed.machine) (sight g.D.Desk l.fn.desk) (sight g.D.Desk l.desk) l.counter l.fn.steps l.steps l.cutter l.feed
