-- A goal that is an argument is converted, and runs in the box of another.
use Rattle.std.proofs.Common.{◌≡◌, ℕ, ◌+◌, ◌-◌, ◌<◌, ◌≤◌, ◌∷◌, length, codes, Option, Some, None, option_map, Result, IfOk}
use Rattle.std.proofs.Common.{refl, sym, ap, ◌∙◌, subst, arith}
use Rattle.std.proofs.lemmas.Result.{IfOk-weaker}
use Rattle.op_logic.specs.Term.{Term}
use Rattle.op_logic.specs.Bind.{Bindings}
use Rattle.op_bind.specs.State.{State, bindings}
use Rattle.op_bind.specs.Grown.{Grows}
use Rattle.op_trace.specs.declared.barrier.Barrier.TheVariants.{Call}
use Rattle.op_trace.specs.World as world
use Rattle.op_trace.specs.World.{World}
use Rattle.op_trace.specs.Database.{Text}
use Rattle.op_trace.specs.Act.{Yield, Runs, Setup}
use Rattle.op_trace.specs.Body.{Body, Division, divided, term_of}
use Rattle.op_trace.specs.Builtins.{type_error, run_division}
use Rattle.op_trace.specs.Visit as visit
use Rattle.op_machine.specs.declared.builtin_kind.Around.{Around}
use Rattle.op_machine.specs.declared.core_state.Core.{Core}
use Rattle.op_machine.specs.declared.core_state.Mode.TheVariants as mode
use Rattle.op_machine.specs.declared.core_state.Outcome.TheVariants as outcome
use Rattle.op_machine.specs.declared.core_state.Step.{Step}
use Rattle.op_machine.specs.declared.core_state.Step.TheVariants as step
use Rattle.op_machine.specs.Meaning.{level_in, level_of, setup_of, world_in, items_now, goal_now, bindings_now, choice_points_in}
use Rattle.op_machine.specs.Resume.{Forward, Over, Moved, silent, performed, yielded}
use Rattle.op_machine.specs.inner.BuiltinKinds.{body_around}
use Rattle.op_machine.specs.inner.Invariant.{IsGood, HasGoal, HasItems}
use Rattle.op_machine.specs.inner.Moves.{Advances, Makes, steps_left, ball_thrown, goal_run, body_run}
use Rattle.op_machine.proofs.ActMoves.{performed-run, performed-refused, performed-run-spent}
use Rattle.op_machine.proofs.AdvanceLaws.{good-at, silent-advances, advances-from}
use Rattle.op_machine.proofs.HeadUnification.{bound_on, bound-rises}
use Rattle.op_machine.proofs.LevelLaws.{goal-rises}
use Rattle.op_machine.proofs.MadeTerms.{makes-good, makes-world, makes-bindings, makes-goal, makes-items, makes-choice_points, makes-thrown}

-- a goal that was converted to the body of a term
performed-converted : (s : Setup) (left : ℕ) (d : Division) (t : Term Text) (r : Term Text → Term Text) (g : Term Text) (σ : Bindings Text)
    (w : World) (h : Yield → World → Moved)
    → left ≡ s.budget - w.steps → w.steps ≤ s.budget → w.steps + d.steps ≤ s.budget → option_map term_of d.tree ≡ Some t
    → performed s (run_division d r g left σ w) w h ≡ h (Runs (r t)) (record w { steps = w.steps + d.steps })
performed-converted s left d t r g σ w h e below fits body = go d.tree body
  where
    go : (o : Option Body) → option_map term_of o ≡ Some t
        → performed s (run_division (record { tree = o; steps = d.steps }) r g left σ w) w h
        ≡ h (Runs (r t)) (record w { steps = w.steps + d.steps })
    go None f = absurd cc
    go (Some b) f =
        let same : term_of b ≡ t = cc in
        performed-run s left d.steps b r g σ w h e below fits
        ∙ ap (λ (x : Term Text). h (Runs (r x)) (record w { steps = w.steps + d.steps })) same

-- a body comes next in a box
abbrev body_next : Core → Term Text → ℕ → ℕ → ℕ → Moved
body_next c t k g n =
    silent (Forward (world.Goal t (Call k) ∷ world.Exit k (goal_now c g) ∷ items_now c n) (choice_points_in c) (bindings_now c)
    (world_in c))

-- also once a term was made
made-next : (c d : Core) (r : ℕ) (t : Term Text) (k g n : ℕ) → IsGood c → Makes c d r → HasGoal c g → HasItems c n → body_next d t k g n
    ≡ body_next c t k g n
made-next c d r t k g n good m goal there =
    let a : goal_now d g ≡ goal_now c g = makes-goal c d r good m g goal in
    let i : items_now d n ≡ items_now c n = makes-items c d r good m n there in
    let p : choice_points_in d ≡ choice_points_in c = makes-choice_points c d r good m in
    let b : bindings_now d ≡ bindings_now c = makes-bindings c d r good m in
    let w : world_in d ≡ world_in c = makes-world c d r good m in
    let e : Forward (world.Goal t (Call k) ∷ world.Exit k (goal_now d g) ∷ items_now d n) (choice_points_in d) (bindings_now d) (world_in d)
    ≡ Forward (world.Goal t (Call k) ∷ world.Exit k (goal_now c g) ∷ items_now c n) (choice_points_in c) (bindings_now c) (world_in c) =
    cc in
    ap silent e

-- a machine that has paid so many steps of a conversion, and has further terms
module _ (c : Core) (s : State) (steps : ℕ) (good : IsGood c) (grows : Grows c.bindings s) (same : bindings s ≡ bindings c.bindings)
    (count : s.count ≡ c.bindings.count) where
  pub paid-good : IsGood (record c { steps = steps })
  paid-good = good-at c steps c.mode good good.mode

  pub grown-makes : (r : ℕ) → HasGoal (bound_on c s steps) r → Makes (record c { steps = steps }) (bound_on c s steps) r
  grown-makes r there = record { rest = refl; grows = grows; bindings = same; count = count; there = there }

  pub grown-goal : (g : ℕ) → HasGoal c g → HasGoal (bound_on c s steps) g
  grown-goal g there =
      goal-rises (length c.store.names) (level_in c) (level_of s c.continuations) g (bound-rises c s grows) there

  pub grown-good : (r : ℕ) → HasGoal (bound_on c s steps) r → IsGood (bound_on c s steps)
  grown-good r there = makes-good (record c { steps = steps }) (bound_on c s steps) r paid-good (grown-makes r there)

-- the conversion that is run
abbrev pub conversion : Core → ℕ → Division
conversion c q = divided (bindings_now c) (goal_now c q)

-- what stands around the body was made, and then the body was run
pub converted-advances : (c d new : Core) (s : State) (a : Around) (b r q k g n left : ℕ) → IsGood c → c.steps ≤ c.budget
    → Grows c.bindings s → bindings s ≡ bindings c.bindings → s.count ≡ c.bindings.count → HasGoal (bound_on c s (c.budget - left)) b
    → HasGoal c g → HasItems c n → option_map term_of (conversion c q).tree ≡ Some (goal_now (bound_on c s (c.budget - left)) b)
    → c.budget - c.steps ≡ left + (conversion c q).steps
    → Makes (bound_on c s (c.budget - left)) d r → goal_now d r ≡ body_around a (goal_now (bound_on c s (c.budget - left)) b)
    → Advances d new (body_run d r k g n) step.Silent → Advances c new (goal_run c a q k g n) step.Silent
converted-advances c d new s a b r q k g n left good below grows same count there goal items body paid made value advances =
    let D : Division = conversion c q in
    let before : Core = record c { steps = c.budget - left } in
    let mid : Core = bound_on c s (c.budget - left) in
    let t : Term Text = body_around a (goal_now mid b) in
    let fits : c.steps + D.steps ≤ c.budget = omega arith in
    let steps : c.steps + D.steps ≡ c.budget - left = omega arith in
    let first : Makes before mid b = grown-makes c s (c.budget - left) good grows same count b there in
    let good_mid : IsGood mid = grown-good c s (c.budget - left) good grows same count b there in
    let moved : goal_run c a q k g n ≡ body_run d r k g n =
    performed-converted (setup_of c) (steps_left c) D (goal_now mid b) (body_around a) (goal_now c q) (bindings_now c) (world_in c)
    (yielded k (goal_now c g) (items_now c n) (choice_points_in c) (bindings_now c)) refl below fits body
    ∙ (ap (λ (x : ℕ). body_next (record c { steps = x }) t k g n) steps
    ∙ (sym (made-next before mid b t k g n (paid-good c s (c.budget - left) good grows same count) first goal items)
    ∙ (sym (made-next mid d r t k g n good_mid made (grown-goal c s (c.budget - left) good grows same count g goal) items)
    ∙ ap (λ (x : Term Text). body_next d x k g n) (sym value)))) in
    advances-from c d new _ _ step.Silent (ap (λ (x : Core). x.store) made.rest) (ap (λ (x : Core). x.names) made.rest)
    (ap (λ (x : Core). x.budget) made.rest) (ap (λ (x : Core). x.wanted) made.rest) (sym moved) advances

-- a term that is no body: its error is thrown, with the steps that are left
pub refused-answer : {E : Type 0} (c new : Core) (s : State) (a : Around) (q k g n left : ℕ) (name : Text) (o : Result Step E) → IsGood c
    → c.steps ≤ c.budget
    → Grows c.bindings s → bindings s ≡ bindings c.bindings → s.count ≡ c.bindings.count
    → HasGoal c q → HasGoal c g → HasItems c n → (conversion c q).tree ≡ None
    → c.budget - c.steps ≡ left + (conversion c q).steps → name ≡ codes "callable"
    → IfOk o (Advances (bound_on c s (c.budget - left)) new
    (ball_thrown (bound_on c s (c.budget - left)) (type_error name (goal_now (bound_on c s (c.budget - left)) q)) k g n))
    → IfOk o (Advances c new (goal_run c a q k g n))
refused-answer c new s a q k g n left name o good below grows same count whole goal items none paid callable answer =
    let D : Division = conversion c q in
    let before : Core = record c { steps = c.budget - left } in
    let mid : Core = bound_on c s (c.budget - left) in
    let fits : c.steps + D.steps ≤ c.budget = omega arith in
    let steps : c.steps + D.steps ≡ c.budget - left = omega arith in
    let there : HasGoal mid q = grown-goal c s (c.budget - left) good grows same count q whole in
    let made : Makes before mid q = grown-makes c s (c.budget - left) good grows same count q there in
    let good_before : IsGood before = paid-good c s (c.budget - left) good grows same count in
    let refused : goal_run c a q k g n ≡ ball_thrown (record c { steps = c.steps + D.steps }) (type_error (codes "callable") (goal_now c q))
    k g n =
    ap (λ (t : Option Body). performed (setup_of c) (run_division (record { tree = t; steps = D.steps }) (body_around a) (goal_now c q)
    (steps_left c) (bindings_now c) (world_in c)) (world_in c)
    (yielded k (goal_now c g) (items_now c n) (choice_points_in c) (bindings_now c))) none
    ∙ performed-refused (setup_of c) (steps_left c) D.steps (body_around a) (goal_now c q) (bindings_now c) (world_in c)
    (yielded k (goal_now c g) (items_now c n) (choice_points_in c) (bindings_now c)) refl below fits in
    let moved : goal_run c a q k g n ≡ ball_thrown mid (type_error name (goal_now mid q)) k g n =
    refused
    ∙ (ap (λ (x : ℕ). ball_thrown (record c { steps = x }) (type_error (codes "callable") (goal_now c q)) k g n) steps
    ∙ (sym (makes-thrown before mid q good_before made (type_error (codes "callable") (goal_now c q)) k g n goal items)
    ∙ (ap (λ (t : Term Text). ball_thrown mid (type_error (codes "callable") t) k g n)
    (sym (makes-goal before mid q good_before made q whole))
    ∙ ap (λ (f : Text). ball_thrown mid (type_error f (goal_now mid q)) k g n) (sym callable)))) in
    IfOk-weaker o (λ e. Advances mid new (ball_thrown mid (type_error name (goal_now mid q)) k g n) e)
    (λ e. Advances c new (goal_run c a q k g n) e)
    (λ e b. advances-from c mid new _ _ e refl refl refl refl (sym moved) b) answer

-- a conversion whose steps are not there
pub conversion-spent : (c : Core) (s : State) (a : Around) (q k g n : ℕ) (new : Core) → IsGood c → c.steps ≤ c.budget
    → Grows c.bindings s → bindings s ≡ bindings c.bindings → s.count ≡ c.bindings.count → HasGoal c q
    → c.budget - c.steps < (conversion c q).steps
    → new ≡ record c { bindings = s; steps = c.budget; mode = mode.Over outcome.Spent }
    → Advances c new (goal_run c a q k g n) step.Silent
conversion-spent c s a q k g n new good below grows same count whole short is =
    let D : Division = conversion c q in
    let mid : Core = bound_on c s c.steps in
    let there : HasGoal mid q = grown-goal c s c.steps good grows same count q whole in
    let over : c.budget < c.steps + D.steps = omega arith in
    let spent : goal_run c a q k g n ≡ silent (Over visit.Spent (record (world_in mid) { steps = c.budget })) =
    performed-run-spent (setup_of c) (steps_left c) D (body_around a) (goal_now c q) (bindings_now c) (world_in c)
    (yielded k (goal_now c g) (items_now c n) (choice_points_in c) (bindings_now c)) refl below over
    ∙ ap (λ (x : ℕ). silent (Over visit.Spent (record (world_in c) { steps = c.budget; variables = x }))) (sym count) in
    subst (λ (x : Core). Advances c x (goal_run c a q k g n) step.Silent) (sym is)
    (advances-from c mid (record mid { steps = mid.budget; mode = mode.Over outcome.Spent }) _ _ step.Silent refl refl refl refl (sym spent)
    (silent-advances mid mid.budget (mode.Over outcome.Spent) (silent (Over visit.Spent (record (world_in mid) { steps = c.budget })))
    (grown-good c s c.steps good grows same count q there) tt refl))
