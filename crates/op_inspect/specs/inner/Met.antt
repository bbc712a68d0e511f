-- Variables as they are met: at nodes, from the last Ref back, and in terms, from the first on.
use Rattle.std.specs.Prelude.{ℕ, List, [], ◌∷◌}
use Rattle.op_logic.specs.Term.{Term}
use Rattle.op_term.specs.Head.{head}
use Rattle.op_term.specs.Places.{term_at}
use Rattle.op_term.specs.Variables.{with_number, add_variables}
use Rattle.op_term.specs.declared.node.Node.{Node}
use Rattle.op_term.specs.declared.node.Node.TheVariants.{Var, Int, Atom, Struct}
use Rattle.op_bind.specs.State.{State}

-- a node's variable joins those that were met
abbrev pub with_node : List ℕ → Node → List ℕ
with_node vs (Var v) = with_number vs v
with_node vs (Int i) = vs
with_node vs (Atom f) = vs
with_node vs (Struct f n) = vs

abbrev pub met_back : State → List ℕ → List ℕ → List ℕ
met_back s vs [] = vs
met_back s vs (r ∷ rs) = with_node (met_back s vs rs) (head (term_at s.terms r))

abbrev pub met_on : List ℕ → List (Term ℕ) → List ℕ
met_on vs [] = vs
met_on vs (t ∷ ts) = met_on (add_variables vs t) ts
