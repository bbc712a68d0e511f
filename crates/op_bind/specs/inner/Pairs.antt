-- Pairs that are still to be made equal, and what each comes to.
use Rattle.std.specs.Prelude.{◌≡◌, ℕ, ◌<◌, ◌==◌, ◌&&◌, nat_eq, nat_lt, Bool, false, if◌then◌else◌, List, [], ◌∷◌, reverse}
use Rattle.std.specs.Ordering.{int_eq}
use Rattle.op_logic.specs.Term.{Term}
use Rattle.op_logic.specs.Bind.{Pairs, Reduction, clash, goes, bind_reduction, reduction}
use Rattle.op_term.specs.Places.{term_at}
use Rattle.op_term.specs.declared.node.Node.{Node}
use Rattle.op_term.specs.declared.node.Node.TheVariants.{Var, Int, Atom, Struct}
use Rattle.op_bind.specs.State.{State, bindings}
use Rattle.op_bind.specs.declared.step.Step.{Step}
use Rattle.op_bind.specs.declared.step.Step.TheVariants.{Same, Clash, Bind, Parts}

abbrev pub pairs_of : List (Term ℕ) → List (ℕ × ℕ) → Pairs ℕ
pairs_of ts [] = []
pairs_of ts (p ∷ ps) = (term_at ts p.0, term_at ts p.1) ∷ pairs_of ts ps

-- with the last pair first
abbrev pub stack_pairs : List (Term ℕ) → List (ℕ × ℕ) → Pairs ℕ
stack_pairs ts ps = pairs_of ts (reverse ps)

-- whether two nodes that are no variables agree
abbrev pub same_node : Node → Node → Bool
same_node (Int i) (Int j) = int_eq i j
same_node (Atom f) (Atom g) = f.0 == g.0
same_node (Struct f n) (Struct g m) = (f.0 == g.0) && (n == m)
same_node _ _ = false

-- what two nodes ask for: a variable is bound to a node, or the parts are made equal
abbrev pub step_of : Node → Node → ℕ → ℕ → Step
step_of (Var v) (Var w) x y = if v == w then Same else (if nat_lt v w then Bind w x else Bind v y)
step_of (Var v) m x y = Bind v y
step_of n (Var w) x y = Bind w x
step_of n m x y = if same_node n m then Parts else Clash

-- the reduction of one pair
abbrev pub reduction_of : State → List (ℕ × ℕ) → ℕ → ℕ → Reduction ℕ
reduction_of s todo a b = reduction nat_eq (bindings s) (term_at s.terms a) (term_at s.terms b) (stack_pairs s.terms todo)

-- what a pair came to
abbrev pub reduced : Bool → State → List (ℕ × ℕ) → ℕ → Reduction ℕ
reduced went s todo c = if went then goes (bindings s) (stack_pairs s.terms todo) c else clash c

-- both sides are below n
abbrev pub ArePairs : ℕ → List (ℕ × ℕ) → Type 0
ArePairs n [] = Unit {0}
ArePairs n (p ∷ ps) = (p.0 < n) × (p.1 < n) × ArePairs n ps

-- what binding a variable came to, whatever is still to be made equal
abbrev pub IsBindReduction : Bool → State → State → ℕ → ℕ → ℕ → Type 0
IsBindReduction went old new v r c =
    (ps : Pairs ℕ) → bind_reduction v (term_at old.terms r) (bindings old) ps ≡ (if went then goes (bindings new) ps c else clash c)

-- the pairs of two lists
abbrev pub zip : List ℕ → List ℕ → List (ℕ × ℕ)
zip (x ∷ xs) (y ∷ ys) = (x, y) ∷ zip xs ys
zip _ _ = []
