-- A node that a walk over a term meets.
use Rattle.std.specs.Prelude.{Bool, true, false}
use Rattle.op_term.specs.declared.node.Node.{Node}
use Rattle.op_term.specs.declared.node.Node.TheVariants.{Var, Int, Atom, Struct}

abbrev pub is_variable : Node → Bool
is_variable (Var v) = true
is_variable (Int i) = false
is_variable (Atom f) = false
is_variable (Struct f n) = false
