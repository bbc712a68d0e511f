-- What the laws of terms, bindings and unification speak of.
use Rattle.std.specs.Prelude.{◌≡◌, ℕ, ◌-◌, nat_le, false, [], ◌∷◌, if◌then◌else◌, Option, Some, None}
use Rattle.op_logic.specs.Term.{Term, var, int, node, Args, no_args, arg, occurs, rename}
use Rattle.op_logic.specs.Bind.{Bindings, apply, lookup, Pairs, Reduction, clash, goes, Solved}

-- each binding in turn: its variable was not bound, and its term does not lead back to it
abbrev pub Acyclic : {N : Type 0} → Bindings N → Type 0
Acyclic [] = Unit {0}
Acyclic (p ∷ σ) = Acyclic σ × (lookup σ p.0 ≡ None) × (occurs p.0 (apply σ p.1) ≡ false)

-- both sides of each pair have one value
abbrev pub AreEqual : {N : Type 0} → Bindings N → Pairs N → Type 0
AreEqual σ [] = Unit {0}
AreEqual σ (p ∷ ps) = (apply σ p.0 ≡ apply σ p.1) × AreEqual σ ps

-- a term with a term for each variable
abbrev mutual
  pub instance_of : {N : Type 0} → (ℕ → Term N) → Term N → Term N
  instance_of θ (var v) = θ v
  instance_of θ (int i) = int i
  instance_of θ (node f ts) = node f (instances_of θ ts)

  pub instances_of : {N : Type 0} → (ℕ → Term N) → Args N → Args N
  instances_of θ no_args = no_args
  instances_of θ (arg t ts) = arg (instance_of θ t) (instances_of θ ts)

-- each bound variable has the instance of its term
abbrev pub Respects : {N : Type 0} → (ℕ → Term N) → Bindings N → Type 0
Respects θ [] = Unit {0}
Respects θ (p ∷ σ) = (θ p.0 ≡ instance_of θ p.1) × Respects θ σ

-- both sides of each pair have one instance
abbrev pub Unifies : {N : Type 0} → (ℕ → Term N) → Pairs N → Type 0
Unifies θ [] = Unit {0}
Unifies θ (p ∷ ps) = (instance_of θ p.0 ≡ instance_of θ p.1) × Unifies θ ps

-- the steps that a reduction counts
abbrev pub steps_of : {N : Type 0} → Reduction N → ℕ
steps_of (clash c) = c
steps_of (goes σ ps c) = c

-- what a reduction comes to, with so many steps left before it
abbrev pub pay : {N : Type 0} → ℕ → Reduction N → (ℕ → Bindings N → Pairs N → Option (Solved N)) → Option (Solved N)
pay left (clash c) rest = if nat_le c left then Some (None, left - c) else None
pay left (goes σ ps c) rest = if nat_le c left then rest (left - c) σ ps else None

-- other names in bindings, in pairs and in a result
abbrev pub rename_bindings : {N M : Type 0} → (N → M) → Bindings N → Bindings M
rename_bindings f [] = []
rename_bindings f (p ∷ σ) = (p.0, rename f p.1) ∷ rename_bindings f σ

abbrev pub rename_pairs : {N M : Type 0} → (N → M) → Pairs N → Pairs M
rename_pairs f [] = []
rename_pairs f (p ∷ ps) = (rename f p.0, rename f p.1) ∷ rename_pairs f ps

abbrev pub rename_found : {N M : Type 0} → (N → M) → Option (Bindings N) → Option (Bindings M)
rename_found f None = None
rename_found f (Some σ) = Some (rename_bindings f σ)

abbrev pub rename_solved : {N M : Type 0} → (N → M) → Option (Solved N) → Option (Solved M)
rename_solved f None = None
rename_solved f (Some r) = Some (rename_found f r.0, r.1)
