use Rattle.op_store.proofs.DirectiveEntries.{IsParting, weight}
use Rattle.op_store.proofs.loading.entries.conjuncts_of.Given as goal

abbrev pub invariant-parts : goal.invariant-parts
invariant-parts g l = IsParting l.symbols (g.T.Tree.term l.tree) (g.T.Tree.IsPlace l.tree) l.at l.parts.items l.todo.items

abbrev pub decreases-parts : goal.decreases-parts
decreases-parts g l = weight (g.T.Tree.term l.tree) l.todo.items
