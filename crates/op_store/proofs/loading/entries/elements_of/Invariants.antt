use Rattle.op_logic.specs.Term.{size}
use Rattle.op_store.proofs.DirectiveEntries.{IsListing}
use Rattle.op_store.proofs.loading.entries.elements_of.Given as goal

abbrev pub invariant-list : goal.invariant-list
invariant-list g l = IsListing l.symbols (g.T.Tree.term l.tree) (g.T.Tree.IsPlace l.tree) l.at l.items.items l.rest

abbrev pub decreases-list : goal.decreases-list
decreases-list g l = size (g.T.Tree.term l.tree l.rest)
