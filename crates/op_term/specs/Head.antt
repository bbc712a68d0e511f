-- The outermost node of a term.
use Rattle.std.specs.Prelude.{ℕ, suc}
use Rattle.op_logic.specs.Term.{Term, var, int, node, Args, no_args, arg, arity}
use Rattle.op_term.specs.declared.node.Node.{Node}
use Rattle.op_term.specs.declared.node.Node.TheVariants.{Var, Int, Atom, Struct}
use Rattle.op_term.specs.declared.symbols.Sym.{Sym}

abbrev pub sym : ℕ → Sym
sym n = record { 0 = n }

abbrev pub head_named : ℕ → Args ℕ → Node
head_named f no_args = Atom (sym f)
head_named f (arg t ts) = Struct (sym f) (suc (arity ts))

abbrev pub head : Term ℕ → Node
head (var n) = Var n
head (int i) = Int i
head (node f ts) = head_named f ts
