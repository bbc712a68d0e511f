-- A term as the list of its nodes, which stand each before its arguments' nodes, the last argument's first.
use Rattle.std.specs.Prelude.{ℕ, List, [], ◌∷◌, ◌++◌}
use Rattle.op_logic.specs.Term.{Term, var, int, node, Args, no_args, arg}
use Rattle.op_term.specs.Head.{head}
use Rattle.op_term.specs.declared.node.Node.{Node}
use Rattle.op_term.specs.declared.node.Node.TheVariants.{Var, Int}

abbrev mutual
  pub visit : Term ℕ → List Node
  visit (var v) = Var v ∷ []
  visit (int i) = Int i ∷ []
  visit (node f ts) = head (node f ts) ∷ visit_args ts

  pub visit_args : Args ℕ → List Node
  visit_args no_args = []
  visit_args (arg t ts) = visit_args ts ++ visit t
