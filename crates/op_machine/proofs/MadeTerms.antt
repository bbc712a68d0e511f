-- A machine in which a term was made means what it meant.
use Rattle.std.proofs.Common.{◌≡◌, ℕ, List, sym, ap, ◌∙◌, subst, reverse}
use Rattle.op_logic.specs.Term.{Term}
use Rattle.op_logic.specs.Bind.{Bindings}
use Rattle.op_logic.specs.Laws.{rename_bindings}
use Rattle.op_logic.specs.Names.{name_at, HaveNames}
use Rattle.op_bind.specs.State.{bindings}
use Rattle.op_trace.specs.Database.{Text}
use Rattle.op_trace.specs.World as world
use Rattle.op_trace.specs.World.{World}
use Rattle.op_trace.specs.Act.{Act, Setup}
use Rattle.op_trace.specs.Builtins.{throw}
use Rattle.op_trace.specs.Visit.{Choice}
use Rattle.op_machine.specs.declared.core_state.Core.{Core}
use Rattle.op_machine.specs.declared.core_state.Step.{Step}
use Rattle.op_machine.specs.Program.{goal_named}
use Rattle.op_machine.specs.Meaning.{setup_of, world_in, level_in, level_of, items_now}
use Rattle.op_machine.specs.Meaning.{goal_now, bindings_now, choice_points_in}
use Rattle.op_machine.specs.Resume.{performed, yielded}
use Rattle.op_machine.specs.inner.Invariant.{IsGood, HasGoal, HasItems}
use Rattle.op_machine.specs.inner.Moves.{Advances, Makes, act_moved, ball_thrown, steps_left}
use Rattle.op_machine.proofs.AdvanceLaws.{advances-from}
use Rattle.op_machine.proofs.HeadUnification.{bound-good, bound-rises}
use Rattle.op_machine.proofs.LevelLaws.{choice_points-rise, term-rises, items_in-rise}

module _ (c d : Core) (r : ℕ) (good : IsGood c) (m : Makes c d r) where
  pub makes-good : IsGood d
  makes-good =
      let names : HaveNames _ (bindings d.bindings) = subst (HaveNames _) (sym m.bindings) good.level.bound in
      subst IsGood (sym m.rest) (bound-good c d.bindings c.steps good m.grows names)

  pub makes-setup : setup_of d ≡ setup_of c
  makes-setup = ap setup_of m.rest

  pub makes-world : world_in d ≡ world_in c
  makes-world = ap world_in m.rest ∙ ap (λ (n : ℕ). record (world_in c) { variables = n }) m.count

  pub makes-steps : steps_left d ≡ steps_left c
  makes-steps = ap steps_left m.rest

  pub makes-bindings : bindings_now d ≡ bindings_now c
  makes-bindings = ap bindings_now m.rest ∙ ap (rename_bindings (name_at c.store.names)) m.bindings

  pub makes-goal : (g : ℕ) → HasGoal c g → goal_now d g ≡ goal_now c g
  makes-goal g there =
      ap (λ (x : Core). goal_now x g) m.rest
      ∙ ap (goal_named c.store) (term-rises (level_in c) (level_of d.bindings c.continuations) g (bound-rises c d.bindings m.grows) there.0)

  pub makes-items : (n : ℕ) → HasItems c n → items_now d n ≡ items_now c n
  makes-items n there =
      ap (λ (x : Core). items_now x n) m.rest
      ∙ items_in-rise c.store c.floor.terms (level_in c) (level_of d.bindings c.continuations) n (bound-rises c d.bindings m.grows)
      good.level there

  pub makes-choice_points : choice_points_in d ≡ choice_points_in c
  makes-choice_points =
      ap choice_points_in m.rest
      ∙ choice_points-rise c.store c.floor.terms (level_in c) (level_of d.bindings c.continuations) (reverse c.frames.choices)
      (bound-rises c d.bindings m.grows) good.frames

  -- what an act comes to is the same
  pub makes-act : (a : Act) (k g n : ℕ) → HasGoal c g → HasItems c n → act_moved d a k g n ≡ act_moved c a k g n
  makes-act a k g n goal there =
      ap (λ (s : Setup). performed s a (world_in d) (yielded k (goal_now d g) (items_now d n) (choice_points_in d) (bindings_now d)))
      makes-setup
      ∙ (ap (λ (w : World). performed (setup_of c) a w (yielded k (goal_now d g) (items_now d n) (choice_points_in d) (bindings_now d)))
      makes-world
      ∙ (ap (λ (t : Term Text). performed (setup_of c) a (world_in c) (yielded k t (items_now d n) (choice_points_in d) (bindings_now d)))
      (makes-goal g goal)
      ∙ (ap (λ (J : List world.Item). performed (setup_of c) a (world_in c) (yielded k (goal_now c g) J (choice_points_in d)
      (bindings_now d))) (makes-items n there)
      ∙ (ap (λ (K : List Choice). performed (setup_of c) a (world_in c) (yielded k (goal_now c g) (items_now c n) K (bindings_now d)))
      makes-choice_points
      ∙ ap (λ (σ : Bindings Text). performed (setup_of c) a (world_in c) (yielded k (goal_now c g) (items_now c n) (choice_points_in c) σ))
      makes-bindings))))

  pub makes-thrown : (t : Term Text) (k g n : ℕ) → HasGoal c g → HasItems c n → ball_thrown d t k g n ≡ ball_thrown c t k g n
  makes-thrown t k g n goal there =
      makes-act (throw (steps_left d) (bindings_now d) t (world_in d)) k g n goal there
      ∙ (ap (λ (l : ℕ). act_moved c (throw l (bindings_now d) t (world_in d)) k g n) makes-steps
      ∙ (ap (λ (σ : Bindings Text). act_moved c (throw (steps_left c) σ t (world_in d)) k g n) makes-bindings
      ∙ ap (λ (w : World). act_moved c (throw (steps_left c) (bindings_now c) t w) k g n) makes-world))

  -- a ball that was made and then thrown
  pub thrown-made : (new : Core) (t : Term Text) (k g n : ℕ) (s : Step) → HasGoal c g → HasItems c n → goal_now d r ≡ t
      → Advances d new (ball_thrown d (goal_now d r) k g n) s → Advances c new (ball_thrown c t k g n) s
  thrown-made new t k g n s goal there value a =
      advances-from c d new (ball_thrown d (goal_now d r) k g n) (ball_thrown c t k g n) s (ap (λ (x : Core). x.store) m.rest)
      (ap (λ (x : Core). x.names) m.rest) (ap (λ (x : Core). x.budget) m.rest) (ap (λ (x : Core). x.wanted) m.rest)
      (ap (λ (u : Term Text). ball_thrown d u k g n) value ∙ makes-thrown t k g n goal there) a
