use Rattle.std.proofs.Common.{◌≤◌, All}
use Rattle.op_term.proofs.TermOrders.{ArePushed}
use Rattle.op_term.proofs.order.push_pairs.Given as goal

abbrev pub invariant-down : goal.invariant-down
invariant-down g l = record {
  pushed : ArePushed (g.T.Tree.term l.tree) (g.T.Tree.term l.tree l.a) (g.T.Tree.term l.tree l.b) l.fn.todo.items l.todo.items l.i;
  there : All (λ p. g.T.Tree.IsPlace l.tree p.0 × g.T.Tree.IsPlace l.tree p.1) l.todo.items;
  within : l.i ≤ l.n;
}

abbrev pub decreases-down : goal.decreases-down
decreases-down g l = l.i
