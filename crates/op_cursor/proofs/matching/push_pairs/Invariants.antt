use Rattle.std.proofs.Common.{◌≤◌, All}
use Rattle.op_cursor.specs.inner.Parts.{part_term, side_term}
use Rattle.op_cursor.specs.inner.Stacks.{IsPair}
use Rattle.op_cursor.proofs.PairStacks.{ArePushed}
use Rattle.op_cursor.proofs.matching.push_pairs.Given as goal

abbrev pub invariant-down : goal.invariant-down
invariant-down l = record {
  pushed : ArePushed l.whole.terms l.names l.view (side_term l.whole.terms l.names l.view l.side) (part_term l.view l.part)
      l.fn.todo.items l.todo.items l.i;
  there : All (λ p. IsPair l.whole.terms l.names l.view p) l.todo.items;
  within : l.i ≤ l.n;
}

abbrev pub decreases-down : goal.decreases-down
decreases-down l = l.i
