use Rattle.std.proofs.Common.{◌≡◌, ◌+◌, All, length}
use Rattle.op_bind.proofs.TermCopies.{IsMeeting}
use Rattle.op_bind.proofs.copy.nodes_within.Given as goal

abbrev pub invariant-walk : goal.invariant-walk
invariant-walk g l = record {
  meeting : IsMeeting (g.T.Tree.term l.tree) (g.T.Tree.term l.tree l.at) l.nodes.items l.todo.items;
  there : All (λ p. g.T.Tree.IsPlace l.tree p) l.todo.items;
  paid : l.fn.fuel ≡ l.fuel + length l.nodes.items;
}

abbrev pub decreases-walk : goal.decreases-walk
decreases-walk g l = l.fuel
