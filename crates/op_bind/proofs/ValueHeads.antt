-- The outermost node of a value, and its arguments.
use Rattle.std.proofs.Common.{◌≡◌, ℕ, zero, suc, ◌<◌, sym, ◌∙◌, ap, refl, arith}
use Rattle.op_logic.specs.Term.{Term, var, int, node, Args, no_args, arg, args_of, nth_arg, arity, size, args_size, occurs, occurs_args}
use Rattle.op_logic.specs.Bind.{Bindings, apply, follow}
use Rattle.op_logic.specs.Laws.{Acyclic}
use Rattle.op_logic.proofs.AppliedBindings.{apply_args, apply-int, apply-node, apply_args-none, apply_args-arg, apply-free}
use Rattle.op_logic.proofs.FollowedTerms.{apply-follow, follow-free}
use Rattle.op_term.specs.Head.{head, head_named, sym as name_of}
use Rattle.op_term.specs.declared.node.Node.TheVariants as nodes

module _ (σ : Bindings ℕ) where
  pub arity-apply : (ts : Args ℕ) → arity (apply_args σ ts) ≡ arity ts
  arity-apply no_args = ap arity (apply_args-none σ)
  arity-apply (arg t ts) = ap arity (apply_args-arg σ t ts) ∙ ap suc (arity-apply ts)

  pub nth-apply : (ts : Args ℕ) (i : ℕ) → i < arity ts → nth_arg (apply_args σ ts) i ≡ apply σ (nth_arg ts i)
  nth-apply no_args i h = absurd (omega arith)
  nth-apply (arg t ts) zero h = ap (λ (us : Args ℕ). nth_arg us zero) (apply_args-arg σ t ts)
  nth-apply (arg t ts) (suc i) h = ap (λ (us : Args ℕ). nth_arg us (suc i)) (apply_args-arg σ t ts) ∙ nth-apply ts i (omega arith)

  head-named : (f : ℕ) (ts : Args ℕ) → head_named f ts ≡ head_named f (apply_args σ ts)
  head-named f no_args = sym (ap (head_named f) (apply_args-none σ))
  head-named f (arg t ts) =
      sym (ap (head_named f) (apply_args-arg σ t ts) ∙ ap (λ (n : ℕ). nodes.Struct (name_of f) (suc n)) (arity-apply ts))

  module _ (acyclic : Acyclic σ) (t : Term ℕ) where
    -- the value of a term that was followed
    value : (q : Term ℕ) → q ≡ follow σ t → apply σ t ≡ apply σ q
    value q e = sym (apply-follow σ t acyclic) ∙ ap (apply σ) (sym e)

    head-followed : (q : Term ℕ) → q ≡ follow σ t → head q ≡ head (apply σ t)
    head-followed (var v) e = sym (ap head (value (var v) e ∙ apply-free σ v (follow-free σ t v acyclic (sym e))))
    head-followed (int i) e = sym (ap head (value (int i) e ∙ apply-int σ i))
    head-followed (node f ts) e = head-named f ts ∙ sym (ap head (value (node f ts) e ∙ apply-node σ f ts))

    pub head-value : (q : Term ℕ) → q ≡ follow σ t → head q ≡ head (apply σ t)
    head-value q e = head-followed q e

    args-followed : (q : Term ℕ) → q ≡ follow σ t → args_of (apply σ t) ≡ apply_args σ (args_of q)
    args-followed (var v) e = ap args_of (value (var v) e ∙ apply-free σ v (follow-free σ t v acyclic (sym e))) ∙ sym (apply_args-none σ)
    args-followed (int i) e = ap args_of (value (int i) e ∙ apply-int σ i) ∙ sym (apply_args-none σ)
    args-followed (node f ts) e = ap args_of (value (node f ts) e ∙ apply-node σ f ts)

    pub args-value : (q : Term ℕ) → q ≡ follow σ t → args_of (apply σ t) ≡ apply_args σ (args_of q)
    args-value q e = args-followed q e

    pub arity-value : (q : Term ℕ) → q ≡ follow σ t → arity (args_of (apply σ t)) ≡ arity (args_of q)
    arity-value q e = ap arity (args-value q e) ∙ arity-apply (args_of q)

    pub nth-value : (q : Term ℕ) → q ≡ follow σ t → (i : ℕ) → i < arity (args_of q)
        → nth_arg (args_of (apply σ t)) i ≡ apply σ (nth_arg (args_of q) i)
    nth-value q e i h = ap (λ (us : Args ℕ). nth_arg us i) (args-value q e) ∙ nth-apply (args_of q) i h

    var-followed : (q : Term ℕ) → q ≡ follow σ t → (w : ℕ) → nodes.Var w ≡ head q → apply σ t ≡ var w
    var-followed (var v) e w h =
        let n : w ≡ v = cc in
        value (var v) e ∙ (apply-free σ v (follow-free σ t v acyclic (sym e)) ∙ ap var (sym n))
    var-followed (int i) e w h = cc
    var-followed (node f no_args) e w h = cc
    var-followed (node f (arg u us)) e w h = cc

    -- a variable is its own value
    pub value-var : (q : Term ℕ) → q ≡ follow σ t → (w : ℕ) → nodes.Var w ≡ head q → apply σ t ≡ var w
    value-var q e w h = var-followed q e w h

    size-followed : (q : Term ℕ) → q ≡ follow σ t → ((w : ℕ) → head q ≡ nodes.Var w → ⊥)
        → size (apply σ t) ≡ suc (args_size (apply_args σ (args_of q)))
    size-followed (var v) e h = absurd (h v refl)
    size-followed (int i) e h = ap size (value (int i) e ∙ apply-int σ i) ∙ sym (ap (λ us. suc (args_size us)) (apply_args-none σ))
    size-followed (node f ts) e h = ap size (value (node f ts) e ∙ apply-node σ f ts)

    -- another node has its arguments' values
    pub size-other : (q : Term ℕ) → q ≡ follow σ t → ((w : ℕ) → head q ≡ nodes.Var w → ⊥)
        → size (apply σ t) ≡ suc (args_size (apply_args σ (args_of q)))
    size-other q e h = size-followed q e h

    occurs-followed : (x : ℕ) (q : Term ℕ) → q ≡ follow σ t → ((w : ℕ) → head q ≡ nodes.Var w → ⊥)
        → occurs x (apply σ t) ≡ occurs_args x (apply_args σ (args_of q))
    occurs-followed x (var v) e h = absurd (h v refl)
    occurs-followed x (int i) e h = ap (occurs x) (value (int i) e ∙ apply-int σ i) ∙ sym (ap (occurs_args x) (apply_args-none σ))
    occurs-followed x (node f ts) e h = ap (occurs x) (value (node f ts) e ∙ apply-node σ f ts)

    pub occurs-other : (x : ℕ) (q : Term ℕ) → q ≡ follow σ t → ((w : ℕ) → head q ≡ nodes.Var w → ⊥)
        → occurs x (apply σ t) ≡ occurs_args x (apply_args σ (args_of q))
    occurs-other x q e h = occurs-followed x q e h
