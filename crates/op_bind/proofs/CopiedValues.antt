-- The value of a copy is the copy: its variables are new, and none of them is bound.
use Rattle.std.proofs.Common.{◌≡◌, ℕ, ◌+◌, ◌<◌, ◌==◌, nat_eq, false, List, [], ◌∷◌, refl, ap, ◌∙◌, arith}
use Rattle.std.specs.List.{position_or_len}
use Rattle.std.proofs.lemmas.Bool.Decides.{nat_tests}
use Rattle.op_logic.specs.Term.{Term, var, int, node, Args, no_args, arg, occurs, occurs_args, replace}
use Rattle.op_logic.specs.Bind.{apply}
use Rattle.op_logic.specs.Laws.{instance_of, instances_of}
use Rattle.op_logic.proofs.Replacement.{replace-absent, or_none}
use Rattle.op_term.specs.Places.{term_at}
use Rattle.op_term.specs.Variables.{distinct_variables}
use Rattle.op_bind.specs.Copied.{copied}
use Rattle.op_bind.specs.State.{resolved}
use Rattle.op_bind.specs.inner.Sound.{AreBound}

module _ (v : ℕ) (θ : ℕ → Term ℕ) (free : (u : ℕ) → occurs v (θ u) ≡ false) where
  mutual
    pub instance-free : (t : Term ℕ) → occurs v (instance_of θ t) ≡ false
    instance-free (var u) = free u
    instance-free (int i) = refl
    instance-free (node f ts) = instances-free ts

    instances-free : (ts : Args ℕ) → occurs_args v (instances_of θ ts) ≡ false
    instances-free no_args = refl
    instances-free (arg t ts) =
        or_none (occurs v (instance_of θ t)) (occurs_args v (instances_of θ ts)) (instance-free t) (instances-free ts)

pub copied-free : (v first : ℕ) (t : Term ℕ) → v < first → occurs v (copied first t) ≡ false
copied-free v first t less =
    instance-free v (λ u. var (first + position_or_len (nat_eq u) (distinct_variables t)))
    (λ u. go (position_or_len (nat_eq u) (distinct_variables t))) t
  where
    go : (p : ℕ) → (v == first + p) ≡ false
    go p = grind (arith, nat_tests)

-- bindings of other variables leave a term as it is
pub apply-others : (n : ℕ) (ts : List (Term ℕ)) (ps : List (ℕ × ℕ)) (t : Term ℕ) → AreBound n ts ps
    → ((v : ℕ) → v < n → occurs v t ≡ false) → apply (resolved ts ps) t ≡ t
apply-others n ts [] t b h = refl
apply-others n ts (p ∷ ps) t b h =
    ap (replace p.0 (apply (resolved ts ps) (term_at ts p.1))) (apply-others n ts ps t b.0 h)
    ∙ replace-absent p.0 (apply (resolved ts ps) (term_at ts p.1)) t (h p.0 b.1)

pub copied-value : (n : ℕ) (ts : List (Term ℕ)) (ps : List (ℕ × ℕ)) (t : Term ℕ) → AreBound n ts ps
    → apply (resolved ts ps) (copied n t) ≡ copied n t
copied-value n ts ps t b = apply-others n ts ps (copied n t) b (λ v less. copied-free v n t less)
