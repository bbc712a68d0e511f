-- The nodes of a term with new variables.
use Rattle.std.specs.Prelude.{ℕ, nat_eq, ◌+◌, List, [], ◌∷◌, ◌++◌}
use Rattle.std.specs.List.{position_or_len}
use Rattle.op_term.specs.declared.node.Node.{Node}
use Rattle.op_term.specs.declared.node.Node.TheVariants.{Var, Int, Atom, Struct}

abbrev pub node_variables : Node → List ℕ
node_variables (Var v) = v ∷ []
node_variables (Int i) = []
node_variables (Atom f) = []
node_variables (Struct f n) = []

-- the variables of nodes, from the last node back
abbrev pub variables_back : List Node → List ℕ
variables_back [] = []
variables_back (n ∷ ns) = variables_back ns ++ node_variables n

-- a node, its variable numbered from `first` on by its place among some variables
abbrev pub renewed_node : ℕ → List ℕ → Node → Node
renewed_node first vs (Var v) = Var (first + position_or_len (nat_eq v) vs)
renewed_node first vs (Int i) = Int i
renewed_node first vs (Atom f) = Atom f
renewed_node first vs (Struct f n) = Struct f n
