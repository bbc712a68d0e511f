-- A term with the names of a table of its own.
use Rattle.std.specs.Prelude.{◌≡◌, ℕ, ◌<◌, List, true, bytes_eq}
use Rattle.std.specs.List.{list_any, position_or_len}
use Rattle.op_logic.specs.Term.{Term, var, int, node, Args, no_args, arg}
use Rattle.op_logic.specs.Names.{name_at}
use Rattle.op_term.specs.Head.{sym}
use Rattle.op_term.specs.declared.node.Node.{Node}
use Rattle.op_term.specs.declared.node.Node.TheVariants as nodes
use Rattle.op_trace.specs.Database.{Text}

-- a name's number in the own table
abbrev pub own_number : List Text → List Text → ℕ → ℕ
own_number names own n = position_or_len (bytes_eq (name_at names n)) own

abbrev pub IsOwn : List Text → List Text → ℕ → Type 0
IsOwn names own n = list_any (bytes_eq (name_at names n)) own ≡ true

-- the names of a term are there
abbrev mutual
  pub AreOwn : List Text → List Text → Term ℕ → Type 0
  AreOwn names own (var v) = Unit {0}
  AreOwn names own (int i) = Unit {0}
  AreOwn names own (node f ts) = IsOwn names own f × ArgsAreOwn names own ts

  pub ArgsAreOwn : List Text → List Text → Args ℕ → Type 0
  ArgsAreOwn names own no_args = Unit {0}
  ArgsAreOwn names own (arg t ts) = AreOwn names own t × ArgsAreOwn names own ts

-- and of a node
abbrev pub IsOwnNode : List Text → List Text → Node → Type 0
IsOwnNode names own (nodes.Var v) = Unit {0}
IsOwnNode names own (nodes.Int i) = Unit {0}
IsOwnNode names own (nodes.Atom f) = IsOwn names own f.0
IsOwnNode names own (nodes.Struct f n) = IsOwn names own f.0

abbrev pub IsNamedBelow : ℕ → Node → Type 0
IsNamedBelow k (nodes.Var v) = Unit {0}
IsNamedBelow k (nodes.Int i) = Unit {0}
IsNamedBelow k (nodes.Atom f) = f.0 < k
IsNamedBelow k (nodes.Struct f n) = f.0 < k

abbrev pub own_node : List Text → List Text → Node → Node
own_node names own (nodes.Var v) = nodes.Var v
own_node names own (nodes.Int i) = nodes.Int i
own_node names own (nodes.Atom f) = nodes.Atom (sym (own_number names own f.0))
own_node names own (nodes.Struct f n) = nodes.Struct (sym (own_number names own f.0)) n
