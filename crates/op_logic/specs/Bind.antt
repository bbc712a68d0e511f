-- Bindings, and the unifier of pairs of terms with the count of its steps (ISO/IEC 13211-1, 7.3; the occurs check is in
-- every binding, and the count of steps is this project's own).
use Rattle.std.specs.Prelude.{ℕ, zero, suc, ◌+◌, ◌==◌, nat_le, ◌-◌, Bool, false, ◌&&◌, List, [], ◌∷◌, if◌then◌else◌, Option, Some, None}
use Rattle.std.specs.Prelude.{max, min}
use Rattle.std.specs.Ordering.{int_eq}
use Rattle.op_logic.specs.Term.{Term, var, int, node, Args, arg, args_of, size, arity, occurs, replace}

-- pairs of a variable and a term, the newest first
abbrev pub Bindings : Type 0 → Type 0
Bindings N = List (ℕ × Term N)

-- replaces variables until none of the rest is bound
abbrev pub apply : {N : Type 0} → Bindings N → Term N → Term N
apply [] t = t
apply (p ∷ σ) t = replace p.0 (apply σ p.1) (apply σ t)

-- the term that a variable is bound to
abbrev pub lookup : {N : Type 0} → Bindings N → ℕ → Option (Term N)
lookup [] v = None
lookup (p ∷ σ) v = if p.0 == v then Some p.1 else lookup σ v

-- a bound variable is followed to an unbound one or to another node
abbrev pub follow_on : {N : Type 0} → ℕ → Term N → Term N → Term N
follow_on v s (var w) = if v == w then s else var w
follow_on v s (int i) = int i
follow_on v s (node f ts) = node f ts

abbrev pub follow : {N : Type 0} → Bindings N → Term N → Term N
follow [] t = t
follow (p ∷ σ) t = follow_on p.0 (follow σ p.1) (follow σ t)

abbrev pub Pairs : Type 0 → Type 0
Pairs N = List (Term N × Term N)

-- what one pair comes to, and the steps that it counts
pub data Reduction (N : Type 0) : Type 0 where
  clash : ℕ → Reduction N
  goes : Bindings N → Pairs N → ℕ → Reduction N

abbrev pub zip_args : {N : Type 0} → Args N → Args N → Pairs N → Pairs N
zip_args (arg t ts) (arg u us) ps = (t, u) ∷ zip_args ts us ps
zip_args _ _ ps = ps

-- a variable that is not bound, and another term
abbrev pub bind_reduction : {N : Type 0} → ℕ → Term N → Bindings N → Pairs N → Reduction N
bind_reduction v t σ ps =
    let s : Term _ = apply σ t in
    if occurs v s then clash (1 + size s) else goes ((v, t) ∷ σ) ps (1 + size s)

-- whether two nodes that are no variables agree
abbrev pub same_head : {N : Type 0} → (N → N → Bool) → Term N → Term N → Bool
same_head eq (int i) (int j) = int_eq i j
same_head eq (node f ts) (node g us) = eq f g && (arity ts == arity us)
same_head eq _ _ = false

-- two terms that were followed: of two variables the greater is bound to the lesser
abbrev pub meet : {N : Type 0} → (N → N → Bool) → Term N → Term N → Bindings N → Pairs N → Reduction N
meet eq (var v) (var w) σ ps = if v == w then goes σ ps 1 else bind_reduction (max v w) (var (min v w)) σ ps
meet eq (var v) u σ ps = bind_reduction v u σ ps
meet eq t (var w) σ ps = bind_reduction w t σ ps
meet eq t u σ ps = if same_head eq t u then goes σ (zip_args (args_of t) (args_of u) ps) 1 else clash 1

abbrev pub reduction : {N : Type 0} → (N → N → Bool) → Bindings N → Term N → Term N → Pairs N → Reduction N
reduction eq σ a b ps = meet eq (follow σ a) (follow σ b) σ ps

-- the unifier, or None where there is none, with the count
abbrev pub Solved : Type 0 → Type 0
Solved N = Option (Bindings N) × ℕ

abbrev pub add_steps : {N : Type 0} → ℕ → Option (Solved N) → Option (Solved N)
add_steps c None = None
add_steps c (Some r) = Some (r.0, c + r.1)

-- what a reduction leaves to solve
abbrev pub after : {N : Type 0} → Reduction N → (Bindings N → Pairs N → Option (Solved N)) → Option (Solved N)
after (clash c) rest = Some (None, c)
after (goes σ ps c) rest = add_steps c (rest σ ps)

-- with at most so many pairs taken; None where that is not enough
abbrev pub solve : {N : Type 0} → (N → N → Bool) → ℕ → Bindings N → Pairs N → Option (Solved N)
solve eq k σ [] = Some (Some σ, 0)
solve eq zero σ (p ∷ ps) = None
solve eq (suc k) σ (p ∷ ps) = after (reduction eq σ p.0 p.1 ps) (λ τ qs. solve eq k τ qs)

-- with so many steps left: the result and the steps that are left then, or None where they are spent
abbrev pub within : {A : Type 0} → ℕ → Option (A × ℕ) → Option (A × ℕ)
within left None = None
within left (Some r) = if nat_le r.1 left then Some (r.0, left - r.1) else None

abbrev pub unify : {N : Type 0} → (N → N → Bool) → ℕ → Bindings N → Pairs N → Option (Solved N)
unify eq left σ ps = within left (solve eq left σ ps)
