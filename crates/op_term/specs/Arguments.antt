-- The arguments of a term as a list.
use Rattle.std.specs.Prelude.{ℕ, List, [], ◌∷◌}
use Rattle.op_logic.specs.Term.{Term, Args, no_args, arg}
use Rattle.op_term.specs.declared.node.Node.{Node}
use Rattle.op_term.specs.declared.node.Node.TheVariants.{Var, Int, Atom, Struct}

abbrev pub args_list : Args ℕ → List (Term ℕ)
args_list no_args = []
args_list (arg t ts) = t ∷ args_list ts

-- how many arguments a node has
abbrev pub argument_count : Node → ℕ
argument_count (Var n) = 0
argument_count (Int i) = 0
argument_count (Atom f) = 0
argument_count (Struct f n) = n
