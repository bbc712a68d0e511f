use Rattle.std.proofs.Common.{◌≡◌, max, length}
use Rattle.op_store.specs.Counted.{variable_count}
use Rattle.op_store.proofs.VariableCounts.{counted}
use Rattle.op_store.proofs.bodies.converted.count_variables.Given as goal

abbrev pub invariant-back : goal.invariant-back
invariant-back g l = max l.most (counted l.nodes.items) ≡ variable_count (g.T.Tree.term l.tree l.at)

abbrev pub decreases-back : goal.decreases-back
decreases-back g l = length l.nodes.items
