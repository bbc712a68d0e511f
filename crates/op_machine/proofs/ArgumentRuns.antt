-- A run is halted, and the first argument of a goal runs in its box.
use Rattle.std.proofs.Common.{◌≡◌, ℕ, ℤ, ◌≤◌, refl, sym, ap, ◌∙◌, subst}
use Rattle.op_logic.specs.Term.{Term, Args, var, int, node, no_args, arg, args_of, nth_arg}
use Rattle.op_logic.specs.Bind.{Bindings, follow}
use Rattle.op_logic.specs.Names.{named}
use Rattle.op_term.specs.Head.{head}
use Rattle.op_term.specs.Places.{term_at}
use Rattle.op_term.specs.declared.node.Node.TheVariants.{Var}
use Rattle.op_trace.specs.Database.{Text}
use Rattle.op_trace.specs.World.{World}
use Rattle.op_trace.specs.Act.{Act, Halts, done}
use Rattle.op_trace.specs.Body.{divided}
use Rattle.op_trace.specs.Builtins.{added, alone, run_goal, run_division, instantiation_error}
use Rattle.op_machine.specs.declared.builtin_kind.Around.{Around}
use Rattle.op_machine.specs.declared.builtin_kind.Around.TheVariants.{Alone}
use Rattle.op_machine.specs.declared.core_state.Core.{Core}
use Rattle.op_machine.specs.declared.core_state.Mode.TheVariants as mode
use Rattle.op_machine.specs.declared.core_state.Outcome.TheVariants as outcome
use Rattle.op_machine.specs.declared.core_state.Step.{Step}
use Rattle.op_machine.specs.declared.core_state.Step.TheVariants as step
use Rattle.op_machine.specs.Meaning.{setup_of, world_in, items_now, goal_now, bindings_now, choice_points_in}
use Rattle.op_machine.specs.Resume.{Moved, yielded}
use Rattle.op_machine.specs.inner.BuiltinKinds.{body_around, first_argument, more_arguments, with_more_arguments}
use Rattle.op_machine.specs.inner.Invariant.{IsGood, HasGoal, HasItems, HasCalled}
use Rattle.op_machine.specs.inner.Moves.{Advances, Makes, act_moved, steps_left, ball_thrown, argument_run, part_run, goal_run}
use Rattle.op_machine.proofs.ActMoves.{performed-done}
use Rattle.op_machine.proofs.AdvanceLaws.{silent-advances, advances-from}
use Rattle.op_machine.proofs.MadeTerms.{makes-act, makes-bindings, makes-steps, makes-world}

pub halt-advances : (c : Core) (i : ℤ) (k g n : ℕ) → IsGood c → c.steps ≤ c.budget
    → Advances c (record c { mode = mode.Over (outcome.Halted i) }) (act_moved c (done (world_in c) (Halts i)) k g n) step.Silent
halt-advances c i k g n good below =
    silent-advances c c.steps (mode.Over (outcome.Halted i)) (act_moved c (done (world_in c) (Halts i)) k g n) good tt
    (performed-done (setup_of c) (world_in c) (Halts i)
    (yielded k (goal_now c g) (items_now c n) (choice_points_in c) (bindings_now c)) below)

-- what a machine has stays where a term is made
module _ (c d : Core) (r : ℕ) (m : Makes c d r) where
  pub made-steps : c.steps ≤ c.budget → d.steps ≤ d.budget
  made-steps h = subst (λ (x : Core). x.steps ≤ x.budget) (sym m.rest) h

  pub made-items : (n : ℕ) → HasItems c n → HasItems d n
  made-items n h = subst (λ (x : Core). HasItems x n) (sym m.rest) h

  pub made-called : (k g n : ℕ) → HasCalled c k g n → HasCalled d k g n
  made-called k g n h = subst (λ (x : Core). HasCalled x k g n) (sym m.rest) h

head-var : (t : Term ℕ) (v : ℕ) → head t ≡ Var v → t ≡ var v
head-var (var w) v e = let n : w ≡ v = cc in ap var n
head-var (int i) v e = absurd cc
head-var (node f no_args) v e = absurd cc
head-var (node f (arg t ts)) v e = absurd cc

named-var : (c : Core) (t : Term ℕ) (v : ℕ) → named c.store.names t ≡ var v → head t ≡ Var v
named-var c (var w) v e = let n : w ≡ v = cc in ap Var n
named-var c (int i) v e = absurd cc
named-var c (node f ts) v e = absurd cc

module _ (c : Core) (around : Around) (k g n a : ℕ) (value : goal_now c a ≡ follow (bindings_now c) (first_argument (goal_now c g))) where
  -- the argument is a variable
  pub unbound-thrown : (new : Core) (s : Step) (v : ℕ) → head (term_at c.bindings.terms a) ≡ Var v
      → Advances c new (ball_thrown c instantiation_error k g n) s → Advances c new (argument_run c around k g n) s
  unbound-thrown new s v e h =
      let is : follow (bindings_now c) (first_argument (goal_now c g)) ≡ var v =
      sym value ∙ ap (named c.store.names) (head-var (term_at c.bindings.terms a) v e) in
      let run : Term Text → Moved = λ t.
      act_moved c (run_goal (body_around around) t (more_arguments (goal_now c g)) (steps_left c) (bindings_now c) (world_in c)) k g n in
      advances-from c c new (ball_thrown c instantiation_error k g n) (argument_run c around k g n) s refl refl refl refl
      (sym (ap run is)) h

  -- the argument is none, and a goal was made of it
  bound-run : (t : Term Text) (us : Args Text) (left : ℕ) (σ : Bindings Text) (w : World) → ((v : ℕ) → t ≡ var v → ⊥)
      → run_division (divided σ (with_more_arguments t us)) (body_around around) (with_more_arguments t us) left σ w
      ≡ run_goal (body_around around) t us left σ w
  bound-run (var v) us left σ w h = absurd (h v refl)
  bound-run (int i) us left σ w h = refl
  bound-run (node f ts) us left σ w h = refl

  pub goal-runs : (mid new : Core) (q : ℕ) (s : Step) → IsGood c → HasGoal c g → HasItems c n → Makes c mid q
      → ((v : ℕ) → head (term_at c.bindings.terms a) ≡ Var v → ⊥)
      → goal_now mid q ≡ with_more_arguments (goal_now c a) (more_arguments (goal_now c g))
      → Advances mid new (goal_run mid around q k g n) s → Advances c new (argument_run c around k g n) s
  goal-runs mid new q s good goal there m bound made h =
      let us : Args Text = more_arguments (goal_now c g) in
      let run : Term Text → ℕ → Bindings Text → World → Act = λ t l σ w. run_division (divided σ t) (body_around around) t l σ w in
      let moved : Act → Moved = λ x. act_moved c x k g n in
      let now : goal_run mid around q k g n ≡ moved (run (goal_now mid q) (steps_left c) (bindings_now c) (world_in c)) =
      makes-act c mid q good m (run (goal_now mid q) (steps_left mid) (bindings_now mid) (world_in mid)) k g n goal there
      ∙ (ap (λ (l : ℕ). moved (run (goal_now mid q) l (bindings_now mid) (world_in mid))) (makes-steps c mid q good m)
      ∙ (ap (λ (σ : Bindings Text). moved (run (goal_now mid q) (steps_left c) σ (world_in mid))) (makes-bindings c mid q good m)
      ∙ ap (λ (w : World). moved (run (goal_now mid q) (steps_left c) (bindings_now c) w)) (makes-world c mid q good m))) in
      let of : Term Text → Moved = λ t.
      moved (run_goal (body_around around) t us (steps_left c) (bindings_now c) (world_in c)) in
      let is : goal_run mid around q k g n ≡ argument_run c around k g n =
      now
      ∙ (ap (λ (t : Term Text). moved (run t (steps_left c) (bindings_now c) (world_in c))) made
      ∙ (ap moved (bound-run (goal_now c a) us (steps_left c) (bindings_now c) (world_in c)
      (λ v e. bound v (named-var c (term_at c.bindings.terms a) v e)))
      ∙ ap of value)) in
      advances-from c mid new (goal_run mid around q k g n) (argument_run c around k g n) s (ap (λ (x : Core). x.store) m.rest)
      (ap (λ (x : Core). x.names) m.rest) (ap (λ (x : Core). x.budget) m.rest) (ap (λ (x : Core). x.wanted) m.rest) is h

-- a goal that is an argument, with no more arguments
added-none : (ts : Args Text) → added ts no_args ≡ ts
added-none no_args = refl
added-none (arg t ts) = ap (arg t) (added-none ts)

alone-run : (t : Term Text) (left : ℕ) (σ : Bindings Text) (w : World) → ((v : ℕ) → t ≡ var v → ⊥)
    → run_division (divided σ t) alone t left σ w ≡ run_goal alone t no_args left σ w
alone-run (var v) left σ w h = absurd (h v refl)
alone-run (int i) left σ w h = refl
alone-run (node f ts) left σ w h =
    ap (λ (us : Args Text). run_division (divided σ (node f us)) alone (node f us) left σ w) (sym (added-none ts))

module _ (c : Core) (i k g n a : ℕ) (value : goal_now c a ≡ follow (bindings_now c) (nth_arg (args_of (goal_now c g)) i)) where
  abbrev part_of : Term Text → Moved
  part_of t = act_moved c (run_goal alone t no_args (steps_left c) (bindings_now c) (world_in c)) k g n

  -- the argument is a variable
  pub unbound-part : (new : Core) (s : Step) (v : ℕ) → head (term_at c.bindings.terms a) ≡ Var v
      → Advances c new (ball_thrown c instantiation_error k g n) s → Advances c new (part_run c i k g n) s
  unbound-part new s v e h =
      let is : follow (bindings_now c) (nth_arg (args_of (goal_now c g)) i) ≡ var v =
      sym value ∙ ap (named c.store.names) (head-var (term_at c.bindings.terms a) v e) in
      advances-from c c new (ball_thrown c instantiation_error k g n) (part_run c i k g n) s refl refl refl refl (sym (ap part_of is)) h

  -- it is none
  pub part-runs : (new : Core) (s : Step) → ((v : ℕ) → head (term_at c.bindings.terms a) ≡ Var v → ⊥)
      → Advances c new (goal_run c Alone a k g n) s → Advances c new (part_run c i k g n) s
  part-runs new s bound h =
      advances-from c c new (goal_run c Alone a k g n) (part_run c i k g n) s refl refl refl refl
      (ap (λ (x : Act). act_moved c x k g n) (alone-run (goal_now c a) (steps_left c) (bindings_now c) (world_in c)
      (λ v e. bound v (named-var c (term_at c.bindings.terms a) v e))) ∙ ap part_of value) h
