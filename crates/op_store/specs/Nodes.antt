-- What the nodes of a body stand for: each part of a control construct has a greater number than the construct.
use Rattle.std.specs.Prelude.{ℕ, suc, pos, ◌-◌, ◌<◌, List, [], ◌∷◌, length, slice_index_or, codes}
use Rattle.op_logic.specs.Term.{Term, int}
use Rattle.op_trace.specs.Body.{Body, goal, call, control}
use Rattle.op_store.specs.declared.bodies.body_node.BodyNode.{BodyNode}
use Rattle.op_store.specs.declared.bodies.body_node.BodyNode.TheVariants.{Goal, CallOf, And, Or, Then}

-- the body of a node, by the terms of the places and the bodies of the nodes behind it
abbrev pub node_tree : {P : Type 0} → (P → Term (List ℕ)) → (ℕ → Body) → BodyNode P → Body
node_tree place at (Goal p) = goal (place p)
node_tree place at (CallOf p) = call (place p)
node_tree place at (And a b) = control (codes ",") (at a) (at b)
node_tree place at (Or a b) = control (codes ";") (at a) (at b)
node_tree place at (Then a b) = control (codes "->") (at a) (at b)

-- the body of the node with a number, where these are the bodies of the nodes from number i on
abbrev pub numbered : ℕ → List Body → ℕ → Body
numbered i bs k = slice_index_or bs (k - i) (goal (int (pos 0)))

-- the bodies of these nodes, of which the first has the number i
abbrev pub node_trees : {P : Type 0} → (P → Term (List ℕ)) → ℕ → List (BodyNode P) → List Body
node_trees place i [] = []
node_trees place i (x ∷ xs) =
    let later = node_trees place (suc i) xs in
    node_tree place (numbered (suc i) later) x ∷ later

-- the body that the nodes make up, which is that of the first
abbrev pub body_tree : {P : Type 0} → (P → Term (List ℕ)) → List (BodyNode P) → Body
body_tree place xs = numbered 0 (node_trees place 0 xs) 0

-- the places of a body's goals
abbrev pub leaf : {P : Type 0} → BodyNode P → List P → List P
leaf (Goal p) ps = p ∷ ps
leaf (CallOf p) ps = p ∷ ps
leaf x ps = ps

abbrev pub leaves : {P : Type 0} → List (BodyNode P) → List P
leaves [] = []
leaves (x ∷ xs) = leaf x (leaves xs)

-- the parts of the node with the number i stand behind it and have numbers below n
abbrev pub AreBehind : ℕ → ℕ → ℕ → ℕ → Type 0
AreBehind i n a b = (i < a) × (a < n) × (i < b) × (b < n)

abbrev pub IsLinked : {P : Type 0} → ℕ → ℕ → BodyNode P → Type 0
IsLinked i n (Goal p) = Unit {0}
IsLinked i n (CallOf p) = Unit {0}
IsLinked i n (And a b) = AreBehind i n a b
IsLinked i n (Or a b) = AreBehind i n a b
IsLinked i n (Then a b) = AreBehind i n a b

-- the nodes from number i on, of n in all
abbrev pub AreLinked : {P : Type 0} → ℕ → ℕ → List (BodyNode P) → Type 0
AreLinked i n [] = Unit {0}
AreLinked i n (x ∷ xs) = IsLinked i n x × AreLinked (suc i) n xs

-- a body has a node, and its nodes are linked
pub record IsBody {P : Type 0} (xs : List (BodyNode P)) : Type 0 where
  pub some : 0 < length xs
  pub linked : AreLinked 0 (length xs) xs
