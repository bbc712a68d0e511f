-- A term that is brought in, its variables counted from a first one on.
use Rattle.std.specs.Prelude.{ℕ, ◌+◌, ◌<◌, ◌^◌}
use Rattle.op_term.specs.declared.node.Node.{Node}
use Rattle.op_term.specs.declared.node.Node.TheVariants.{Var, Int, Atom, Struct}

abbrev pub shifted_node : ℕ → Node → Node
shifted_node first (Var k) = Var (first + k)
shifted_node first (Int i) = Int i
shifted_node first (Atom f) = Atom f
shifted_node first (Struct f n) = Struct f n

-- its variable, counted so, is a number of 64 bits
abbrev pub CanShift : ℕ → Node → Type 0
CanShift first (Var k) = first + k < 2 ^ 64
CanShift first (Int i) = Unit {0}
CanShift first (Atom f) = Unit {0}
CanShift first (Struct f n) = Unit {0}
