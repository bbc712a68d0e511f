use Rattle.std.proofs.Common.{All}
use Rattle.op_term.proofs.ArgumentLists.{Pushed}
use Rattle.op_term.proofs.arguments.push_args.Given as goal

abbrev pub invariant-push : goal.invariant-push
invariant-push g l = record {
  pushed : Pushed (g.T.Tree.term l.tree) (g.T.Tree.term l.tree l.at) l.fn.todo.items l.todo.items l.i;
  there : All (λ p. g.T.Tree.IsPlace l.tree p) l.todo.items;
}
