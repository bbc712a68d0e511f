use Rattle.std.proofs.Common.{[], ◌≤◌, All}
use Rattle.op_term.specs.inner.Compared.{pairs_from}
use Rattle.op_term.proofs.TermOrders.{IsComparing}
use Rattle.op_term.proofs.order.compare.Given as goal

abbrev pub invariant-pairs : goal.invariant-pairs
invariant-pairs g l = record {
  comparing : IsComparing l.symbols (g.T.Tree.term l.tree l.a) (g.T.Tree.term l.tree l.b) l.fn.fuel l.fuel
      (pairs_from (g.T.Tree.term l.tree) l.todo.items []);
  there : All (λ p. g.T.Tree.IsPlace l.tree p.0 × g.T.Tree.IsPlace l.tree p.1) l.todo.items;
  falls : l.fuel ≤ l.fn.fuel;
}

abbrev pub decreases-pairs : goal.decreases-pairs
decreases-pairs g l = l.fuel
