-- What a term under bindings is divided into, by the term that it is followed to.
use Rattle.std.proofs.Common.{◌≡◌, ℕ, cond, List, Some, None, refl, sym, ap, ◌∙◌}
use Rattle.op_logic.specs.Term.{Term, var, int, node, Args, no_args, arg, args_of, rename}
use Rattle.op_logic.specs.Bind.{Bindings, apply, follow}
use Rattle.op_logic.specs.Laws.{Acyclic, rename_bindings}
use Rattle.op_logic.specs.Names.{name_at, named}
use Rattle.op_logic.proofs.AppliedBindings.{apply_args, apply-int, apply-node, apply_args-none, apply_args-arg, apply-free}
use Rattle.op_logic.proofs.FollowedTerms.{apply-follow, follow-free}
use Rattle.op_logic.proofs.RenamedUnification.{apply-rename, follow-rename}
use Rattle.op_trace.specs.Database.{Text}
use Rattle.op_trace.specs.Body.{goal, call, Division, one_step, has_parts, joined, compound, divided_by, divisions_by, divided}

-- a term is followed to another, which has its value, and which is unbound where it is a variable
pub record IsFollowed (σ : Bindings Text) (t u : Term Text) : Type 0 where
  pub term : follow σ t ≡ u
  pub value : apply σ t ≡ apply σ u
  pub free : (v : ℕ) → u ≡ var v → apply σ (var v) ≡ var v

-- over the numbers of names
module _ (names : List Text) (under : Bindings ℕ) where
  variable-named : (x : Term ℕ) (v : ℕ) → named names x ≡ var v → x ≡ var v
  variable-named (var w) v e = let n : w ≡ v = cc in ap var n
  variable-named (int i) v e = absurd cc
  variable-named (node f ts) v e = absurd cc

  pub followed-named : (t u : Term ℕ) → Acyclic under → u ≡ follow under t
      → IsFollowed (rename_bindings (name_at names) under) (named names t) (named names u)
  followed-named t u h e =
      let f : ℕ → Text = name_at names in
      record {
        term = follow-rename f under t ∙ ap (rename f) (sym e);
        value = apply-rename f under t
            ∙ (ap (rename f) (sym (apply-follow under t h) ∙ ap (apply under) (sym e)) ∙ sym (apply-rename f under u));
        free = λ v k.
            apply-rename f under (var v)
            ∙ ap (rename f) (apply-free under v (follow-free under t v h (sym e ∙ variable-named u v k)));
      }

-- what a term that was followed is divided into
abbrev pub parts_under : Bindings Text → Term Text → Division
parts_under σ (var v) = one_step (Some (call (var v)))
parts_under σ (int i) = one_step None
parts_under σ (node f (arg a (arg b no_args))) =
    cond (has_parts f) (joined f (divided σ a) (divided σ b)) (one_step (Some (goal (node f (arg a (arg b no_args))))))
parts_under σ (node f ts) = one_step (Some (goal (node f ts)))

module _ (σ : Bindings Text) where
  args-one : (a : Term Text) → apply_args σ (arg a no_args) ≡ arg (apply σ a) no_args
  args-one a = apply_args-arg σ a no_args ∙ ap (arg (apply σ a)) (apply_args-none σ)

  args-two : (a b : Term Text) → apply_args σ (arg a (arg b no_args)) ≡ arg (apply σ a) (arg (apply σ b) no_args)
  args-two a b = apply_args-arg σ a (arg b no_args) ∙ ap (arg (apply σ a)) (args-one b)

  args-more : (a b c : Term Text) (ts : Args Text)
      → apply_args σ (arg a (arg b (arg c ts))) ≡ arg (apply σ a) (arg (apply σ b) (arg (apply σ c) (apply_args σ ts)))
  args-more a b c ts =
      apply_args-arg σ a (arg b (arg c ts))
      ∙ ap (arg (apply σ a)) (apply_args-arg σ b (arg c ts) ∙ ap (arg (apply σ b)) (apply_args-arg σ c ts))

  by-shape : (t u s : Term Text) → IsFollowed σ t u → apply σ u ≡ s → divided σ t ≡ divided_by s σ t
  by-shape t u s h e = ap (λ (x : Term Text). divided_by x σ t) (h.value ∙ e)

  by-arguments : (t : Term Text) (f : Text) (ts ss : Args Text) → IsFollowed σ t (node f ts) → apply_args σ ts ≡ ss
      → divided σ t ≡ compound f (node f ts) (divisions_by ss σ ts)
  by-arguments t f ts ss h e =
      by-shape t (node f ts) (node f ss) h (apply-node σ f ts ∙ ap (node f) e)
      ∙ ap (λ (w : Term Text). compound f w (divisions_by ss σ (args_of w))) h.term

  pub followed-divided : (t u : Term Text) → IsFollowed σ t u → divided σ t ≡ parts_under σ u
  followed-divided t (var v) h =
      by-shape t (var v) (var v) h (h.free v refl) ∙ ap (λ (w : Term Text). one_step (Some (call w))) h.term
  followed-divided t (int i) h = by-shape t (int i) (int i) h (apply-int σ i)
  followed-divided t (node f no_args) h = by-arguments t f no_args no_args h (apply_args-none σ)
  followed-divided t (node f (arg a no_args)) h = by-arguments t f (arg a no_args) (arg (apply σ a) no_args) h (args-one a)
  followed-divided t (node f (arg a (arg b no_args))) h =
      by-arguments t f (arg a (arg b no_args)) (arg (apply σ a) (arg (apply σ b) no_args)) h (args-two a b)
  followed-divided t (node f (arg a (arg b (arg c ts)))) h =
      by-arguments t f (arg a (arg b (arg c ts))) (arg (apply σ a) (arg (apply σ b) (arg (apply σ c) (apply_args σ ts)))) h
      (args-more a b c ts)
