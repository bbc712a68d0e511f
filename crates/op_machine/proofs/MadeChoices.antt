-- A choice point of the present moment, which is pushed now, or after further bindings were made.
use Rattle.std.proofs.Common.{◌≡◌, ℕ, [], ◌∷◌, ◌++◌, length, reverse, sym, ap, ◌∙◌, subst}
use Rattle.std.proofs.lemmas.List.{reverse-append}
use Rattle.op_bind.specs.State.{mark_of, IsGoodMark}
use Rattle.op_machine.specs.declared.choice_points.Alternative.{Alternative}
use Rattle.op_machine.specs.declared.choice_points.ChoiceKind.{ChoiceKind}
use Rattle.op_machine.specs.declared.core_state.Core.{Core}
use Rattle.op_machine.specs.Meaning.{Frame, Level, level_in, level_at, choice_point_of, choice_point_by, choice_points_of, choice_points_in}
use Rattle.op_machine.specs.inner.Boxes.{IsTried}
use Rattle.op_machine.specs.inner.Invariant.{IsGood, IsFrame, IsKind, HasItems, HasGoal}
use Rattle.op_machine.proofs.InvariantLaws.{pushed-good}
use Rattle.op_machine.proofs.LevelLaws.{level-now}

-- it is of this moment
pub record IsMadeNow (c : Core) (q : ChoiceKind) (g n : ℕ) (f : Frame) : Type 0 where
  pub mark : f.mark ≡ mark_of c.bindings
  pub good : IsGoodMark c.bindings f.mark
  pub rest : f.rest ≡ n
  pub kept : f.kept ≡ record { goal = g; continuations = length c.continuations; calls = c.calls; kind = q }

-- above the others
abbrev pub with_choice : Core → Frame → Core
with_choice c f = record c { frames = record c.frames { choices = c.frames.choices ++ f ∷ [] } }

module _ (c : Core) (q : ChoiceKind) (g n : ℕ) (f : Frame) (now : IsMadeNow c q g n f) where
  level-made : level_at f (level_in c) ≡ level_in c
  level-made = level-now c.bindings c.continuations f now.mark (ap (λ (a : Alternative). a.continuations) now.kept)

  pub made-choice_points : choice_points_in (with_choice c f) ≡ choice_point_by c.store (level_in c) q g n ∷ choice_points_in c
  made-choice_points =
      ap (choice_points_of c.store (level_in c)) (reverse-append c.frames.choices (f ∷ []))
      ∙ (ap (λ (v : Level). choice_point_of c.store v f ∷ choice_points_of c.store v (reverse c.frames.choices)) level-made
      ∙ (ap (λ (a : Alternative). choice_point_by c.store (level_in c) a.kind a.goal f.rest ∷ choice_points_in c) now.kept
      ∙ ap (λ (m : ℕ). choice_point_by c.store (level_in c) q g m ∷ choice_points_in c) now.rest))

  pub made-good : IsGood c → HasItems c n → HasGoal c g → IsKind (length c.store.names) c.bindings.terms g q
      → IsTried c.frames.boxes c.calls c.continuations q g n → IsGood (with_choice c f)
  made-good good there goal kind tried =
      let continuations : f.kept.continuations ≡ length c.continuations = ap (λ (a : Alternative). a.continuations) now.kept in
      let calls : f.kept.calls ≡ c.calls = ap (λ (a : Alternative). a.calls) now.kept in
      let at : Alternative → ℕ → Type 0 = λ a m. IsTried c.frames.boxes a.calls c.continuations a.kind a.goal m in
      let frame : IsFrame c.store (level_in c) f = record {
        rest = subst (λ (m : ℕ). HasItems c m) (sym now.rest) there;
        goal = subst (λ (a : Alternative). HasGoal c a.goal) (sym now.kept) goal;
        kind = subst (λ (a : Alternative). IsKind (length c.store.names) c.bindings.terms a.goal a.kind) (sym now.kept) kind;
      } in
      pushed-good c f (c.frames.choices ++ f ∷ []) good now.mark now.good continuations calls frame
      (subst (λ (a : Alternative). at a f.rest) (sym now.kept)
      (subst (λ (m : ℕ). at (record { goal = g; continuations = length c.continuations; calls = c.calls; kind = q }) m) (sym now.rest)
      tried))
      (reverse-append c.frames.choices (f ∷ []))
