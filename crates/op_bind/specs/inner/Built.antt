-- A term that is built from the list of its nodes.
use Rattle.std.specs.Prelude.{◌≡◌, ℕ, ◌-◌, ◌<◌, ◌≤◌, List, [], ◌∷◌, ◌++◌, length, take, drop}
use Rattle.op_logic.specs.Term.{Term, var, int, node, Args, no_args, arg, IsWithin}
use Rattle.op_term.specs.declared.node.Node.{Node}
use Rattle.op_term.specs.declared.node.Node.TheVariants.{Var, Int, Atom, Struct}
use Rattle.op_bind.specs.Within.{AllWithin}

abbrev pub args_from : List (Term ℕ) → Args ℕ
args_from [] = no_args
args_from (t ∷ ts) = arg t (args_from ts)

-- a node takes its arguments from the end of a list, and joins there
abbrev pub join : Node → List (Term ℕ) → List (Term ℕ)
join (Var v) ts = ts ++ var v ∷ []
join (Int i) ts = ts ++ int i ∷ []
join (Atom f) ts = ts ++ node f.0 no_args ∷ []
join (Struct f n) ts = take (length ts - n) ts ++ node f.0 (args_from (drop (length ts - n) ts)) ∷ []

-- a node's arguments are there
abbrev pub HasArgs : Node → List (Term ℕ) → Type 0
HasArgs (Var v) ts = Unit {0}
HasArgs (Int i) ts = Unit {0}
HasArgs (Atom f) ts = Unit {0}
HasArgs (Struct f n) ts = (0 < n) × (n ≤ length ts)

abbrev pub NodeWithin : ℕ → Node → Type 0
NodeWithin n (Var v) = v < n
NodeWithin n (Int i) = Unit {0}
NodeWithin n (Atom f) = Unit {0}
NodeWithin n (Struct f k) = Unit {0}

abbrev pub NodesWithin : ℕ → List Node → Type 0
NodesWithin n [] = Unit {0}
NodesWithin n (x ∷ xs) = NodeWithin n x × NodesWithin n xs

-- one more term, whose variables are those of its node and of what was made
abbrev pub IsMore : Node → List (Term ℕ) → List (Term ℕ) → Type 0
IsMore x old new = (t : Term ℕ) × ((new ≡ old ++ t ∷ []) × ((n : ℕ) → NodeWithin n x → AllWithin n old → IsWithin n t))
