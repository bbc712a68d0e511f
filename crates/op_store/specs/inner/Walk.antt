-- How a body is converted part by part, under bindings: the parts that are still to be converted, and the nodes that were met, each
-- control construct before its parts.
use Rattle.std.specs.Prelude.{ℕ, suc, ◌+◌, List, [], ◌∷◌, map, reverse, Option, Some, None, option_map, option_and_then, codes}
use Rattle.op_logic.specs.Term.{Term}
use Rattle.op_logic.specs.Bind.{Bindings}
use Rattle.op_logic.specs.Laws.{rename_bindings}
use Rattle.op_logic.specs.Names.{name_at, named}
use Rattle.op_trace.specs.Body.{Body, goal, call, control, Division, divided}
use Rattle.op_store.specs.declared.bodies.body_node.BodyNode.{BodyNode}
use Rattle.op_store.specs.declared.bodies.body_node.BodyNode.TheVariants.{Goal, CallOf, And, Or, Then}

-- the bodies of some terms, or None where one was refused; and the steps
pub record Bodies : Type 0 where
  pub bodies : Option (List Body)
  pub steps : ℕ

abbrev pub with_first : Division → Bodies → Bodies
with_first d r =
    elim (d.tree) [
      | None ↦ record { bodies = None; steps = d.steps }
      | Some b ↦ record { bodies = option_map (λ bs. b ∷ bs) r.bodies; steps = d.steps + r.steps }
    ]

abbrev pub bodies_of : Bindings (List ℕ) → List (Term (List ℕ)) → Bodies
bodies_of σ [] = record { bodies = Some []; steps = 0 }
bodies_of σ (t ∷ ts) = with_first (divided σ t) (bodies_of σ ts)

-- a node in front of the bodies behind it, of which a control construct takes two
abbrev pub took : {P : Type 0} → (P → Term (List ℕ)) → BodyNode P → List Body → Option (List Body)
took text (Goal p) s = Some (goal (text p) ∷ s)
took text (CallOf p) s = Some (call (text p) ∷ s)
took text (And a b) (t ∷ u ∷ s) = Some (control (codes ",") t u ∷ s)
took text (Or a b) (t ∷ u ∷ s) = Some (control (codes ";") t u ∷ s)
took text (Then a b) (t ∷ u ∷ s) = Some (control (codes "->") t u ∷ s)
took text x s = None

abbrev pub read : {P : Type 0} → (P → Term (List ℕ)) → List (BodyNode P) → Option (List Body) → Option (List Body)
read text [] o = o
read text (x ∷ xs) o = option_and_then (took text x) (read text xs o)

-- what is left of a walk: what the nodes met and the parts to be met, the last of them first, come to; and the steps
pub record Left : Type 0 where
  pub bodies : Option (Option (List Body))
  pub steps : ℕ

abbrev pub left_of : {P : Type 0} → Bindings (List ℕ) → (P → Term (List ℕ)) → List (BodyNode P) → List P → Left
left_of σ text met todo =
    let c = bodies_of σ (map text (reverse todo)) in
    record { bodies = option_map (λ s. read text met (Some s)) c.bodies; steps = c.steps }

-- the same over the numbers of names
abbrev pub left_in : {P : Type 0} → List (List ℕ) → Bindings ℕ → (P → Term ℕ) → List (BodyNode P) → List P → Left
left_in names σ term met todo = left_of (rename_bindings (name_at names) σ) (λ p. named names (term p)) met todo

abbrev pub step_before : Left → Left
step_before l = record { bodies = l.bodies; steps = suc l.steps }

abbrev pub refused : Left
refused = record { bodies = None; steps = 1 }

-- how many parts a node takes
abbrev pub needs : {P : Type 0} → BodyNode P → ℕ
needs (Goal p) = 0
needs (CallOf p) = 0
needs x = 2

-- a node with the numbers of its parts, and the numbers that are left
abbrev pub linked_node : {P : Type 0} → BodyNode P → List ℕ → BodyNode P
linked_node (And c d) (a ∷ b ∷ s) = And a b
linked_node (Or c d) (a ∷ b ∷ s) = Or a b
linked_node (Then c d) (a ∷ b ∷ s) = Then a b
linked_node x s = x

abbrev pub unlinked : {P : Type 0} → BodyNode P → List ℕ → List ℕ
unlinked (And c d) (a ∷ b ∷ s) = s
unlinked (Or c d) (a ∷ b ∷ s) = s
unlinked (Then c d) (a ∷ b ∷ s) = s
unlinked x s = s
