-- The body of a term under bindings, and that of the term with its bindings applied.
use Rattle.std.proofs.Common.{◌≡◌, ℕ, cond, Bool, true, false, List, [], ◌∷◌, map, Option, Some, None, refl, sym, ap, ◌∙◌}
use Rattle.op_logic.specs.Term.{Term, var, int, node, Args, no_args, arg, args_of}
use Rattle.op_logic.specs.Bind.{Bindings, apply, follow}
use Rattle.op_logic.specs.Laws.{Acyclic}
use Rattle.op_logic.proofs.AppliedBindings.{apply_args, apply-int, apply-node, apply_args-none, apply_args-arg, apply-free}
use Rattle.op_logic.proofs.FollowedTerms.{apply-follow, follow-free}
use Rattle.op_trace.specs.Database.{Text}
use Rattle.op_trace.specs.Body.{Body, goal, call, Division, one_step, has_parts, joined, compound, divided_by, divisions_by, divided}
use Rattle.op_trace.specs.Body.{division_under}

module _ (σ : Bindings Text) where
  joined-under : (f : Text) (a b : Option Body) (m n : ℕ)
      → joined f (division_under σ (record { tree = a; steps = m })) (division_under σ (record { tree = b; steps = n }))
      ≡ division_under σ (joined f (record { tree = a; steps = m }) (record { tree = b; steps = n }))
  joined-under f None b m n = refl
  joined-under f (Some t) None m n = refl
  joined-under f (Some t) (Some u) m n = refl

  either-under : (c : Bool) (f : Text) (u whole : Term Text) (a b : Division) → apply σ u ≡ whole
      → cond c (joined f (division_under σ a) (division_under σ b)) (one_step (Some (goal whole)))
      ≡ division_under σ (cond c (joined f a b) (one_step (Some (goal u))))
  either-under true f u whole a b h = joined-under f a.tree b.tree a.steps b.steps
  either-under false f u whole a b h = ap (λ (x : Term Text). one_step (Some (goal x))) (sym h)

  compound-under : (f : Text) (u whole : Term Text) (ds : List Division) → apply σ u ≡ whole
      → compound f whole (map (division_under σ) ds) ≡ division_under σ (compound f u ds)
  compound-under f u whole [] h = ap (λ (x : Term Text). one_step (Some (goal x))) (sym h)
  compound-under f u whole (a ∷ []) h = ap (λ (x : Term Text). one_step (Some (goal x))) (sym h)
  compound-under f u whole (a ∷ b ∷ []) h = either-under (has_parts f) f u whole a b h
  compound-under f u whole (a ∷ b ∷ c ∷ ds) h = ap (λ (x : Term Text). one_step (Some (goal x))) (sym h)

  -- what was followed to a compound has the arguments whose values are those of the compound
  args-followed : (t u : Term Text) (f : Text) (ss : Args Text) → Acyclic σ → follow σ t ≡ u → apply σ u ≡ node f ss
      → apply_args σ (args_of u) ≡ ss
  args-followed t (var v) f ss h q e = let n : var v ≡ node f ss = sym (apply-free σ v (follow-free σ t v h q)) ∙ e in absurd cc
  args-followed t (int i) f ss h q e = let n : int i ≡ node f ss = sym (apply-int σ i) ∙ e in absurd cc
  args-followed t (node g ts) f ss h q e = let n : node g (apply_args σ ts) ≡ node f ss = sym (apply-node σ g ts) ∙ e in cc

  mutual
    divided-under : Acyclic σ → (s t : Term Text) → apply σ t ≡ s → divided_by s [] s ≡ division_under σ (divided_by s σ t)
    divided-under h (var v) t e = ap (λ (x : Term Text). one_step (Some (call x))) (sym e ∙ sym (apply-follow σ t h))
    divided-under h (int i) t e = refl
    divided-under h (node f ss) t e =
        let u : Term Text = follow σ t in
        let k : apply σ u ≡ node f ss = apply-follow σ t h ∙ e in
        ap (compound f (node f ss)) (divisions-under h ss (args_of u) (args-followed t u f ss h refl k))
        ∙ compound-under f u (node f ss) (divisions_by ss σ (args_of u)) k

    divisions-under : Acyclic σ → (ss ts : Args Text) → apply_args σ ts ≡ ss
        → divisions_by ss [] ss ≡ map (division_under σ) (divisions_by ss σ ts)
    divisions-under h no_args ts e = refl
    divisions-under h (arg s ss) no_args e = let n : no_args ≡ arg s ss = sym (apply_args-none σ) ∙ e in absurd cc
    divisions-under h (arg s ss) (arg t ts) e =
        let n : arg (apply σ t) (apply_args σ ts) ≡ arg s ss = sym (apply_args-arg σ t ts) ∙ e in
        let first : apply σ t ≡ s = cc in
        let rest : apply_args σ ts ≡ ss = cc in
        ap (λ (d : Division). d ∷ divisions_by ss [] ss) (divided-under h s t first)
        ∙ ap (λ (ds : List Division). division_under σ (divided_by s σ t) ∷ ds) (divisions-under h ss ts rest)

pub followed-bodies : (σ : Bindings Text) (t : Term Text) → Acyclic σ → divided [] (apply σ t) ≡ division_under σ (divided σ t)
followed-bodies σ t h = divided-under σ h (apply σ t) t refl
