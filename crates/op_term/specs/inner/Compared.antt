-- Two nodes are compared, and pairs of places that are still to be compared.
use Rattle.std.specs.Prelude.{ℕ, ◌<◌, List, [], ◌∷◌}
use Rattle.std.specs.declared.cmp.Ordering.{Ordering}
use Rattle.std.specs.declared.cmp.Ordering.TheVariants.{Less, Equal, Greater}
use Rattle.std.specs.Ordering.{ordering_then, nat_cmp, int_cmp}
use Rattle.op_logic.specs.Term.{Term}
use Rattle.op_logic.specs.Bind.{Pairs}
use Rattle.op_logic.specs.Names.{name_at}
use Rattle.op_term.specs.Order.{name_order}
use Rattle.op_term.specs.declared.node.Node.{Node}
use Rattle.op_term.specs.declared.node.Node.TheVariants.{Var, Int, Atom, Struct}

-- the order of two nodes, by a table of names
abbrev pub node_order : List (List ℕ) → Node → Node → Ordering
node_order names (Var v) (Var w) = nat_cmp v w
node_order names (Var v) _ = Less
node_order names (Int i) (Var w) = Greater
node_order names (Int i) (Int j) = int_cmp i j
node_order names (Int i) _ = Less
node_order names (Atom f) (Atom g) = name_order (name_at names f.0) (name_at names g.0)
node_order names (Atom f) (Struct g m) = Less
node_order names (Atom f) _ = Greater
node_order names (Struct f n) (Struct g m) = ordering_then (nat_cmp n m) (name_order (name_at names f.0) (name_at names g.0))
node_order names (Struct f n) _ = Greater

-- a node's name is below n
abbrev pub HasItsName : ℕ → Node → Type 0
HasItsName n (Var v) = Unit {0}
HasItsName n (Int i) = Unit {0}
HasItsName n (Atom f) = f.0 < n
HasItsName n (Struct f k) = f.0 < n

-- the terms at pairs of places, those of the last pair first
abbrev pub pairs_from : {P : Type 0} → (P → Term ℕ) → List (P × P) → Pairs ℕ → Pairs ℕ
pairs_from term [] ps = ps
pairs_from term (x ∷ xs) ps = pairs_from term xs ((term x.0, term x.1) ∷ ps)
