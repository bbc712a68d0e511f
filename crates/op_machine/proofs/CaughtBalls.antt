-- A ball comes to a box that may catch it: what its unification with the catcher leads to.
use Rattle.std.proofs.Common.{◌≡◌, ℕ, ◌-◌, ◌<◌, nat_eq, List, [], ◌∷◌, ◌++◌, length, reverse, Option, Some, None, refl, sym, ap, ◌∙◌}
use Rattle.std.proofs.Common.{subst, arith}
use Rattle.op_logic.specs.Term.{Term, shift, args_of, nth_arg, IsWithin}
use Rattle.op_logic.specs.Bind.{Bindings, Solved, unify}
use Rattle.op_logic.specs.Laws.{rename_solved}
use Rattle.op_logic.specs.Names.{name_at, IsTable, HasNames, HaveNames}
use Rattle.op_logic.proofs.ShiftedTerms.{shift-none}
use Rattle.op_term.specs.Places.{term_at}
use Rattle.op_bind.specs.Grown.{Grows}
use Rattle.op_bind.specs.State as bind
use Rattle.op_bind.specs.State.{Marked, bindings, undone, mark_of}
use Rattle.op_bind.specs.Unified.{unified}
use Rattle.op_bind.proofs.StateGrowth.{term-stays, undone-later}
use Rattle.op_trace.specs.Database.{Text, text_eq}
use Rattle.op_trace.specs.World as world
use Rattle.op_trace.specs.World.{World}
use Rattle.op_trace.specs.Visit as visit
use Rattle.op_trace.specs.Visit.{catcher_of}
use Rattle.op_machine.specs.declared.choice_points.ChoiceKind.TheVariants as kind
use Rattle.op_machine.specs.declared.core_state.Core.{Core}
use Rattle.op_machine.specs.declared.core_state.Mode.TheVariants as mode
use Rattle.op_machine.specs.declared.core_state.Outcome.TheVariants as outcome
use Rattle.op_machine.specs.declared.core_state.Step.{Step}
use Rattle.op_machine.specs.declared.core_state.Step.TheVariants as step
use Rattle.op_machine.specs.Program.{goal_named}
use Rattle.op_machine.specs.Meaning.{Frame, setup_of, world_in, level_in, level_of, items_now, goal_now, bindings_now, choice_points_in}
use Rattle.op_machine.specs.Meaning.{ball_text, open_in}
use Rattle.op_machine.specs.Resume.{Moved, ball_unified, executed_again}
use Rattle.op_machine.specs.inner.Invariant.{IsGood, IsBall, HasGoal, HasItems, HasCalled, HasRecovery}
use Rattle.op_machine.specs.inner.Leaving.{box_met, box_left}
use Rattle.op_machine.specs.inner.Moves.{Advances, recovery_moved}
use Rattle.op_machine.proofs.AdvanceLaws.{silent-advances, advances-from}
use Rattle.op_machine.proofs.FollowedArguments.{argument-renamed}
use Rattle.op_machine.proofs.GoalArguments.{argument-goal}
use Rattle.op_machine.proofs.HeadUnification.{bound_on, bound-good, bound-rises}
use Rattle.op_machine.proofs.LevelLaws.{choice_points-rise, term-rises, goal-rises, items_in-rise, recovery-rises}
use Rattle.op_machine.proofs.MadeChoices.{IsMadeNow, with_choice, made-good, made-choice_points}
use Rattle.op_machine.proofs.NamedTerms.{unified-named, found, nothing, found-names}

-- a ball that was brought in is unified as it stands
pub unified-loaded : (old loaded : bind.State) (ball : Term ℕ) (r catcher fuel : ℕ) → Grows old loaded → bindings loaded ≡ bindings old
    → term_at loaded.terms r ≡ shift 0 ball → catcher < length old.terms
    → unified fuel loaded (term_at loaded.terms r) (term_at loaded.terms catcher) ≡ unified fuel old ball (term_at old.terms catcher)
unified-loaded old loaded ball r catcher fuel grows same value there =
    ap (λ (t : Term ℕ). unified fuel loaded t (term_at loaded.terms catcher)) (value ∙ shift-none ball)
    ∙ (ap (unified fuel loaded ball) (term-stays old loaded grows catcher there)
    ∙ ap (λ (σ : Bindings ℕ). unify nat_eq fuel σ ((ball, term_at old.terms catcher) ∷ [])) same)

pub loaded-within : (n : ℕ) (ball : Term ℕ) → IsWithin n ball → IsWithin n (shift 0 ball)
loaded-within n ball h = subst (IsWithin n) (sym (shift-none ball)) h

-- what was bound since is undone
pub undone-same : (old new : bind.State) (m : Marked) → m ≡ mark_of old → Grows old new → new.count ≡ old.count → undone new m ≡ old
undone-same old new m is grows count =
    ap (undone new) is ∙ (undone-later old new grows ∙ ap (λ (n : ℕ). record old { count = n }) count)

module _ (c : Core) (ball : Term ℕ) (k g n outer a : ℕ) (thrown : c.ball ≡ Some ball)
    (value : term_at c.bindings.terms a ≡ nth_arg (args_of (term_at c.bindings.terms g)) 1)
    (there : a < length c.bindings.terms) (goal : HasGoal c g) (recovery : HasRecovery c.bindings.terms g) (good : IsGood c) where
  pub ball-known : HasNames (length c.store.names) ball × IsWithin c.bindings.count ball
  ball-known = subst (IsBall (length c.store.names) c.bindings.count) thrown good.ball

  -- what the ball and the catcher come to, over numbers
  abbrev pub numbered : Option (Solved ℕ)
  numbered = unified (c.budget - c.steps) c.bindings ball (term_at c.bindings.terms a)

  abbrev by_unifier : Option (Solved Text) → Moved
  by_unifier o = ball_unified (setup_of c) k (goal_now c g) (bindings_now c) (items_now c n) (choice_points_in c)
      (ball_text c.store c.ball) (open_in c.frames outer) (world_in c) o

  met-named : IsTable c.store.names → box_met c k g n outer ≡ by_unifier (rename_solved (name_at c.store.names) numbered)
  met-named table =
      let catcher : catcher_of (goal_now c g) ≡ goal_named c.store (term_at c.bindings.terms a) =
      argument-renamed (name_at c.store.names) (term_at c.bindings.terms g) 1 (omega (arith, recovery))
      ∙ ap (goal_named c.store) (sym value) in
      ap (λ (t : Term Text). by_unifier (unify text_eq (c.budget - c.steps) (bindings_now c) ((t, catcher_of (goal_now c g)) ∷ [])))
      (ap (ball_text c.store) thrown)
      ∙ (ap (λ (t : Term Text).
      by_unifier (unify text_eq (c.budget - c.steps) (bindings_now c) ((goal_named c.store ball, t) ∷ []))) catcher
      ∙ ap by_unifier (unified-named c.store (c.budget - c.steps) c.bindings ball (term_at c.bindings.terms a) table))

  -- they can't be unified: the box shows the ball
  pub differs-advances : (s : bind.State) (left : ℕ) (new : Core) (e : Step) → IsTable c.store.names → numbered ≡ Some (nothing left)
      → s ≡ c.bindings
      → Advances (bound_on c s (c.budget - left)) new (box_left (bound_on c s (c.budget - left)) k g n outer) e
      → Advances c new (box_met c k g n outer) e
  differs-advances s left new e table none kept h =
      let moved : box_met c k g n outer ≡ box_left (bound_on c c.bindings (c.budget - left)) k g n outer =
      met-named table ∙ ap (λ (o : Option (Solved ℕ)). by_unifier (rename_solved (name_at c.store.names) o)) none in
      advances-from c (bound_on c c.bindings (c.budget - left)) new (box_left (bound_on c c.bindings (c.budget - left)) k g n outer)
      (box_met c k g n outer) e refl refl refl refl (sym moved)
      (subst (λ (x : bind.State). Advances (bound_on c x (c.budget - left)) new (box_left (bound_on c x (c.budget - left)) k g n outer) e)
      kept h)

  -- the steps are not there
  pub unpaid-advances : (s : bind.State) (new : Core) → IsTable c.store.names → numbered ≡ None → s ≡ c.bindings
      → new ≡ record c { bindings = s; steps = c.budget; mode = mode.Over outcome.Spent }
      → Advances c new (box_met c k g n outer) step.Silent
  unpaid-advances s new table none still is =
      subst (λ (x : Core). Advances c x (box_met c k g n outer) step.Silent) (sym is)
      (subst (λ (b : bind.State). Advances c (record c { bindings = b; steps = c.budget; mode = mode.Over outcome.Spent })
      (box_met c k g n outer) step.Silent) (sym still)
      (silent-advances c c.budget (mode.Over outcome.Spent) (box_met c k g n outer) good tt
      (met-named table ∙ ap (λ (o : Option (Solved ℕ)). by_unifier (rename_solved (name_at c.store.names) o)) none)))

  -- they were unified, and then the box's own choice point was pushed, which was made before
  module _ (f : Frame) (made : IsMadeNow c (kind.Fail k) g n f) (s : bind.State) (left : ℕ) (grows : Grows c.bindings s)
      (count : s.count ≡ c.bindings.count) (found_them : numbered ≡ Some (found (bindings s) left))
      (items : HasItems c n) (called : HasCalled c k g n) where
    abbrev pub caught_on : Core
    caught_on = bound_on (with_choice c f) s (c.budget - left)

    pushed : IsGood (with_choice c f)
    pushed = made-good c (kind.Fail k) g n f made good items goal tt called.given

    caught-names : HaveNames (length c.store.names) (bindings s)
    caught-names =
        found-names (length c.store.names) (c.budget - c.steps) c.bindings ball (term_at c.bindings.terms a) (bindings s) left
        good.level.bound ball-known.0 (argument-goal c g 1 a goal there value).1 found_them

    pub caught-good : IsGood caught_on
    caught-good = bound-good (with_choice c f) s (c.budget - left) pushed grows caught-names

    pub caught-goal : HasGoal caught_on g
    caught-goal = goal-rises (length c.store.names) (level_in c) (level_of s c.continuations) g (bound-rises c s grows) goal

    pub caught-recovery : HasRecovery s.terms g
    caught-recovery = recovery-rises (level_in c) (level_of s c.continuations) g (bound-rises c s grows) goal.0 recovery

    caught-moved : IsTable c.store.names → box_met c k g n outer ≡ recovery_moved caught_on k g n
    caught-moved table =
        let goals : goal_now c g ≡ goal_now caught_on g =
        ap (goal_named c.store) (sym (term-rises (level_in c) (level_of s c.continuations) g (bound-rises c s grows) goal.0)) in
        let rest : items_now c n ≡ items_now caught_on n =
        sym (items_in-rise c.store c.floor.terms (level_in c) (level_of s c.continuations) n (bound-rises c s grows) good.level items) in
        let choices : visit.Fail k (goal_now c g) (bindings_now c) (items_now c n) ∷ choice_points_in c ≡ choice_points_in caught_on =
        sym (choice_points-rise c.store c.floor.terms (level_in c) (level_of s c.continuations)
        (reverse (c.frames.choices ++ f ∷ [])) (bound-rises c s grows) pushed.frames
        ∙ made-choice_points c (kind.Fail k) g n f made) in
        let again : Term Text → List world.Item → List visit.Choice → World → Moved = λ t J K w.
        executed_again (setup_of c) world.Recovery k t (bindings_now caught_on) J K w in
        let w : World = record (world_in c) { steps = c.budget - left } in
        met-named table
        ∙ (ap (λ (o : Option (Solved ℕ)). by_unifier (rename_solved (name_at c.store.names) o)) found_them
        ∙ (ap (λ (K : List visit.Choice). again (goal_now c g) (items_now c n) K w) choices
        ∙ (ap (λ (t : Term Text). again t (items_now c n) (choice_points_in caught_on) w) goals
        ∙ (ap (λ (J : List world.Item). again (goal_now caught_on g) J (choice_points_in caught_on) w) rest
        ∙ ap (λ (m : ℕ). again (goal_now caught_on g) (items_now caught_on n) (choice_points_in caught_on) (record w { variables = m }))
        (sym count)))))

    pub caught-advances : (new : Core) (e : Step) → IsTable c.store.names → Advances caught_on new (recovery_moved caught_on k g n) e
        → Advances c new (box_met c k g n outer) e
    caught-advances new e table h =
        advances-from c caught_on new (recovery_moved caught_on k g n) (box_met c k g n outer) e refl refl refl refl
        (sym (caught-moved table)) h
