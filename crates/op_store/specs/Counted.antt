-- How many variables a term and a node count.
use Rattle.std.specs.Prelude.{ℕ, suc, max}
use Rattle.op_logic.specs.Term.{Term, var, int, node, Args, no_args, arg}
use Rattle.op_term.specs.declared.node.Node.{Node}
use Rattle.op_term.specs.declared.node.Node.TheVariants.{Var, Int, Atom, Struct}

-- one more than a variable's number
abbrev pub node_variables : Node → ℕ
node_variables (Var v) = suc v
node_variables (Int i) = 0
node_variables (Atom f) = 0
node_variables (Struct f n) = 0

-- one more than the greatest variable, or 0: how many variables a term has that numbers them from 0
abbrev mutual
  pub variable_count : {N : Type 0} → Term N → ℕ
  variable_count (var v) = suc v
  variable_count (int i) = 0
  variable_count (node f ts) = args_variable_count ts

  pub args_variable_count : {N : Type 0} → Args N → ℕ
  args_variable_count no_args = 0
  args_variable_count (arg t ts) = max (variable_count t) (args_variable_count ts)
