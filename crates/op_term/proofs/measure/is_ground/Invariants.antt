use Rattle.std.proofs.Common.{◌≤◌, All, map}
use Rattle.op_term.proofs.TermMeasures.{IsMeasuring}
use Rattle.op_term.proofs.measure.is_ground.Given as goal

abbrev pub invariant-walk : goal.invariant-walk
invariant-walk g l = record {
  measuring : IsMeasuring (g.T.Tree.term l.tree l.at) l.fn.fuel l.fuel l.none (map (g.T.Tree.term l.tree) l.todo.items);
  there : All (λ p. g.T.Tree.IsPlace l.tree p) l.todo.items;
  falls : l.fuel ≤ l.fn.fuel;
}

abbrev pub decreases-walk : goal.decreases-walk
decreases-walk g l = l.fuel
