use Rattle.op_session.proofs.FeedMoves.{finds_asked, finds_known, here_asked, here_known}
use Rattle.op_session.proofs.feed.Feed.next.Goals as goal
use Rattle.op_session.proofs.feed.Feed.next.Goals.{then-is_none+in_ok-self, else-is_none}

pub returns-clause-finds : goal.returns-clause-finds
returns-clause-finds g c = λ traced s f. elim c.if-is_none.branch [
  | then-is_none+in_ok-self w ↦
      let was = c.args.self.now in
      rw w.self-is
      (finds_asked traced s was.commands was.machine w.next_event.new.machine was.ended w.in_ok-self.field-0 w.if-is_none.ensures f
      w.in_ok-self.ensures.shows w.in_ok-self.ensures.later w.next_event.ensures.table)
  | else-is_none w ↦
      let was = c.args.self.now in
      rw w.self-is (finds_known traced s was.commands was.machine was.ended w.if-is_none.ensures f)
]

pub returns-clause-here : goal.returns-clause-here
returns-clause-here g c = elim c.if-is_none.branch [
  | then-is_none+in_ok-self w ↦
      rw w.self-is
      (here_asked c.args.self.now.machine w.next_event.new.machine w.in_ok-self.field-0 w.in_ok-self.ensures.shows)
  | else-is_none w ↦ rw w.self-is (here_known c.args.self.now.machine c.args.self.now.ended w.if-is_none.ensures)
]
