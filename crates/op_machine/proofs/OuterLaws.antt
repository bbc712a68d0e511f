-- What lies outside a program that asks nothing of it goes through each move unchanged.
use Rattle.std.proofs.Common.{◌≡◌, ℕ, suc, ◌+◌, ◌-◌, ◌==◌, ◌&&◌, nat_le, pos, Bool, true, false, List}
use Rattle.std.proofs.Common.{[], ◌∷◌, Option, Some, None, codes, refl}
use Rattle.std.proofs.Common.{sym, ap, ◌≤◌, ◌∙◌, arith, if◌then◌else◌}
use Rattle.op_logic.specs.Term.{Term, var, int, node, Args, no_args, arg, args_of, nth_arg, size, arity, shift}
use Rattle.op_logic.specs.Bind.{Bindings, apply, follow, unify, Solved as Result}
use Rattle.op_trace.specs.declared.barrier.Barrier.{Barrier}
use Rattle.op_trace.specs.Database.{Text, text_eq, Clause}
use Rattle.op_trace.specs.World.{World, Execution, First, Repeated, Recovery, Item, Goal, Cut, Exit, Execute, Solved}
use Rattle.op_trace.specs.Outside.{Outside, at}
use Rattle.op_trace.specs.Act.{Yield, Fails, Succeeds, Succeeds_again, Runs, Throws, Halts, Act, done, Setup}
use Rattle.op_trace.specs.Act as act
use Rattle.op_trace.specs.Body.{Body, Division, divided}
use Rattle.op_trace.specs.Builtins.{instantiation_error, type_error, no_procedure, throw, unknown, run_division, added, run_goal, alone}
use Rattle.op_trace.specs.Builtins.{first_solution, no_solution, throw_argument, halt_with, act_of_goal}
use Rattle.op_machine.specs.Acts as acts
use Rattle.op_machine.specs.Acts.{act_or, act_of_program, setup_for}
use Rattle.op_trace.specs.Visit.{Inside, Clauses, WithoutProcedure, Protected, inside, last_choice, catcher_of, counted_as, is_open}
use Rattle.op_trace.specs.Visit.{around, Stopped, Control}
use Rattle.op_trace.specs.Visit.{TrueGoal, FailGoal, CutGoal, Conjunction, Disjunction}
use Rattle.op_trace.specs.Visit.{IfThenElse, BoxedGoal, control, with_event, with_turns, entered, Choice, Redo, Branch, More, Again, Fail}
use Rattle.op_trace.specs.Visit.{Catch, Condition}
use Rattle.op_trace.specs.declared.port.Port.TheVariants as port
use Rattle.op_machine.specs.Resume.{State, Forward, Backward, Throwing, Over, raised, ball_unified, ball_met, leaving, Moved, silent}
use Rattle.op_machine.specs.Resume.{showing}
use Rattle.op_machine.specs.Resume.{paid, entered_state, acted, yielded, chosen}
use Rattle.op_machine.specs.Resume.{head_unified, tried, branched, executed_again, move, owed, with_more, world_of}
use Rattle.op_machine.specs.inner.Barriers.{InStep}
use Rattle.op_machine.specs.Outer.{state_at, turns_at, moved_at}
use Rattle.op_machine.proofs.MoveLaws.{move-equation}
use Rattle.op_inspect.proofs.TermActs.{Inspects, nothing, something, inspects}

module _ (h : Outside) (o : List ℕ) where
  -- the steps of a state, and its barriers, are those of the state alone
  pub steps-outer : (t : State) → (world_of (state_at h o t)).steps ≡ (world_of t).steps
  steps-outer (Forward I K σ w) = refl
  steps-outer (Backward K w) = refl
  steps-outer (Throwing b p K w) = refl
  steps-outer (Over r w) = refl

  pub in_step-outer : (t : State) → InStep t → InStep (state_at h o t)
  in_step-outer (Forward I K σ w) s = s
  in_step-outer (Backward K w) s = s
  in_step-outer (Throwing b p K w) s = s
  in_step-outer (Over r w) s = s

  pub paid-outer : (t : Bool) (s : Setup) (n : ℕ) (w : World) (f g : World → Moved)
      → f (at h o (record w { steps = w.steps + n })) ≡ moved_at h o (g (record w { steps = w.steps + n }))
      → paid t s n (at h o w) f ≡ moved_at h o (paid t s n w g)
  paid-outer true s n w f g e = e
  paid-outer false s n w f g e = refl

  pub entered-outer : (i : Inside) (k : ℕ) (g : Term Text) (J : List Item) (K : List Choice) (σ : Bindings Text) (w : World)
      → entered_state i k g J K σ (at h o w) ≡ state_at h o (entered_state i k g J K σ w)
  entered-outer (Clauses cs) k g J K σ w = refl
  entered-outer WithoutProcedure k g J K σ w = refl
  entered-outer Protected k g J K σ w = refl

  pub invoked-outer : (i : Inside) (g : Term Text) (J : List Item) (K : List Choice) (σ : Bindings Text) (w : World)
      → showing port.Call (w.calls + 1) g σ J (at h o (record w { calls = w.calls + 1 }))
      (entered_state i (w.calls + 1) g J K σ (with_event (at h o (record w { calls = w.calls + 1 }))))
      ≡ moved_at h o (showing port.Call (w.calls + 1) g σ J (record w { calls = w.calls + 1 })
      (entered_state i (w.calls + 1) g J K σ (with_event (record w { calls = w.calls + 1 }))))
  invoked-outer (Clauses cs) g J K σ w = refl
  invoked-outer WithoutProcedure g J K σ w = refl
  invoked-outer Protected g J K σ w = refl

  pub chosen-outer : (q : Control) (t : Term Text) (m : Barrier) (J : List Item) (K : List Choice) (σ : Bindings Text) (w : World)
      → chosen q t m J K σ (at h o w) ≡ moved_at h o (chosen q t m J K σ w)
  chosen-outer TrueGoal t m J K σ w = refl
  chosen-outer FailGoal t m J K σ w = refl
  chosen-outer CutGoal t m J K σ w = refl
  chosen-outer (Conjunction a b) t m J K σ w = refl
  chosen-outer (Disjunction a b) t m J K σ w = refl
  chosen-outer (IfThenElse c a b) t m J K σ w = refl
  chosen-outer BoxedGoal t m J K σ w =
      let i : Inside = inside w.database t in
      invoked-outer i t J (last_choice i (w.calls + 1) t σ J ∷ K) σ w

  pub unified-outer : (s : Setup) (c : Clause) (k : ℕ) (g : Term Text) (J : List Item) (K : List Choice) (w : World)
      (r : Option (Result Text)) → head_unified s c k g J K (at h o w) r ≡ moved_at h o (head_unified s c k g J K w r)
  unified-outer s c k g J K w None = refl
  unified-outer s c k g J K w (Some (None, left)) = refl
  unified-outer s c k g J K w (Some (Some τ, left)) =
      paid-outer (nat_le (s.budget - left + c.variables) s.budget) s c.variables (record w { steps = s.budget - left })
      (λ u. silent (Forward (entered w.variables c k g J) K τ (record u { variables = u.variables + c.variables })))
      (λ u. silent (Forward (entered w.variables c k g J) K τ (record u { variables = u.variables + c.variables }))) refl

  pub tried-outer : (s : Setup) (c : Clause) (k : ℕ) (g : Term Text) (σ : Bindings Text) (J : List Item) (K : List Choice) (w : World)
      → tried s c k g σ J K (at h o w) ≡ moved_at h o (tried s c k g σ J K w)
  tried-outer s c k g σ J K w =
      paid-outer (nat_le (w.steps + 1) s.budget) s 1 w
      (λ u. head_unified s c k g J K u (unify text_eq (s.budget - u.steps) σ ((g, shift u.variables c.head) ∷ [])))
      (λ u. head_unified s c k g J K u (unify text_eq (s.budget - u.steps) σ ((g, shift u.variables c.head) ∷ [])))
      (unified-outer s c k g J K (record w { steps = w.steps + 1 })
      (unify text_eq (s.budget - (w.steps + 1)) σ ((g, shift w.variables c.head) ∷ [])))

  -- an act, with what lies outside
  abbrev pub act_at : Act → Act
  act_at a = record a { after = at h o a.after; interrupted = at h o a.interrupted }

  paid_act-outer : (t : Bool) (k left : ℕ) (w : World) (f g : ℕ → Act) → ((l : ℕ) → f l ≡ act_at (g l))
      → act.paid t k left (at h o w) f ≡ act_at (act.paid t k left w g)
  paid_act-outer true k left w f g e = ap (λ (a : Act). record a { cost = k + a.cost }) (e (left - k))
  paid_act-outer false k left w f g e = refl

  pay_act-outer : (k left : ℕ) (w : World) (f g : ℕ → Act) → ((l : ℕ) → f l ≡ act_at (g l))
      → act.pay k left (at h o w) f ≡ act_at (act.pay k left w g)
  pay_act-outer k left w f g e = paid_act-outer (nat_le k left) k left w f g e

  if-outer : (t : Bool) (a b c d : Act) → a ≡ act_at c → b ≡ act_at d → (if t then a else b) ≡ act_at (if t then c else d)
  if-outer true a b c d e f = e
  if-outer false a b c d e f = f

  throw-outer : (left : ℕ) (σ : Bindings Text) (t : Term Text) (w : World) → throw left σ t (at h o w) ≡ act_at (throw left σ t w)
  throw-outer left σ t w = pay_act-outer (size (apply σ t)) left w _ _ (λ l. refl)

  unknown-outer : (f : Text) (n left : ℕ) (σ : Bindings Text) (w : World) → unknown f n left σ (at h o w) ≡ act_at (unknown f n left σ w)
  unknown-outer f n left σ w =
      if-outer w.database.flags.unknown_fails (done (at h o w) Fails) (throw left σ (no_procedure f n) (at h o w)) (done w Fails)
      (throw left σ (no_procedure f n) w) refl (throw-outer left σ (no_procedure f n) w)

  run_division-outer : (d : Division) (r : Term Text → Term Text) (g : Term Text) (left : ℕ) (σ : Bindings Text) (w : World)
      → run_division d r g left σ (at h o w) ≡ act_at (run_division d r g left σ w)
  run_division-outer d r g left σ w = go d.tree
    where
      go : (t : Option Body) → run_division (record { tree = t; steps = d.steps }) r g left σ (at h o w)
          ≡ act_at (run_division (record { tree = t; steps = d.steps }) r g left σ w)
      go None = pay_act-outer d.steps left w _ _ (λ l. throw-outer l σ (type_error (codes "callable") g) w)
      go (Some b) = pay_act-outer d.steps left w _ _ (λ l. refl)

  run_goal-outer : (r : Term Text → Term Text) (t : Term Text) (us : Args Text) (left : ℕ) (σ : Bindings Text) (w : World)
      → run_goal r t us left σ (at h o w) ≡ act_at (run_goal r t us left σ w)
  run_goal-outer r (var v) us left σ w = throw-outer left σ instantiation_error w
  run_goal-outer r (int i) us left σ w = run_division-outer (divided σ (int i)) r (int i) left σ w
  run_goal-outer r (node f ts) us left σ w =
      run_division-outer (divided σ (node f (added ts us))) r (node f (added ts us)) left σ w

  throw_argument-outer : (t : Term Text) (left : ℕ) (σ : Bindings Text) (w : World)
      → throw_argument t left σ (at h o w) ≡ act_at (throw_argument t left σ w)
  throw_argument-outer (var v) left σ w = throw-outer left σ instantiation_error w
  throw_argument-outer (int i) left σ w = throw-outer left σ (int i) w
  throw_argument-outer (node f ts) left σ w = throw-outer left σ (node f ts) w

  halt_with-outer : (t : Term Text) (left : ℕ) (σ : Bindings Text) (w : World)
      → halt_with t left σ (at h o w) ≡ act_at (halt_with t left σ w)
  halt_with-outer (var v) left σ w = throw-outer left σ instantiation_error w
  halt_with-outer (int i) left σ w = refl
  halt_with-outer (node f ts) left σ w = throw-outer left σ (type_error (codes "integer") (node f ts)) w

  -- the builtins of control ask nothing of it
  pub goal-outer : (left : ℕ) (g : Term Text) (σ : Bindings Text) (w : World)
      → act_of_goal left g σ (at h o w) ≡ act_at (act_of_goal left g σ w)
  goal-outer left (var v) σ w = refl
  goal-outer left (int i) σ w = refl
  goal-outer left (node f no_args) σ w =
      if-outer (text_eq f (codes "halt")) (done (at h o w) (Halts (pos 0))) (unknown f 0 left σ (at h o w)) (done w (Halts (pos 0)))
      (unknown f 0 left σ w) refl (unknown-outer f 0 left σ w)
  goal-outer left (node f (arg a no_args)) σ w =
      let t : Term Text = follow σ a in
      if-outer (text_eq f (codes "call")) _ _ _ _ (run_goal-outer alone t no_args left σ w)
      (if-outer (text_eq f (codes "once")) _ _ _ _ (run_goal-outer first_solution t no_args left σ w)
      (if-outer (text_eq f (codes "\\+")) _ _ _ _ (run_goal-outer no_solution t no_args left σ w)
      (if-outer (text_eq f (codes "throw")) _ _ _ _ (throw_argument-outer t left σ w)
      (if-outer (text_eq f (codes "halt")) _ _ _ _ (halt_with-outer t left σ w) (unknown-outer f 1 left σ w)))))
  goal-outer left (node f (arg a (arg b us))) σ w =
      if-outer (text_eq f (codes "call") && nat_le (arity (arg b us)) 7) _ _ _ _ (run_goal-outer alone (follow σ a) (arg b us) left σ w)
      (if-outer (text_eq f (codes "catch") && (arity (arg b us) == 2)) _ _ _ _ (run_goal-outer alone (follow σ a) no_args left σ w)
      (unknown-outer f (suc (arity (arg b us))) left σ w))

  -- nor do the builtins on terms
  table-outer : (left : ℕ) (g : Term Text) (σ : Bindings Text) (w : World) → Inspects σ g
      → acts.act_of_goal left g σ (at h o w) ≡ act_at (acts.act_of_goal left g σ w)
  table-outer left g σ w (nothing e) =
      ap (λ (q : Option Act). act_or q (act_of_goal left g σ (at h o w))) (e left (at h o w))
      ∙ (goal-outer left g σ w ∙ ap (λ (q : Option Act). act_at (act_or q (act_of_goal left g σ w))) (sym (e left w)))
  table-outer left g σ w (something e t) =
      ap (λ (q : Option Act). act_or q (act_of_goal left g σ (at h o w))) (e left (at h o w))
      ∙ (t.world left (at h o w) w refl
      ∙ (ap act_at (sym (t.world left w w refl))
      ∙ ap (λ (q : Option Act). act_at (act_or q (act_of_goal left g σ w))) (sym (e left w))))

  pub program-outer : (left : ℕ) (t : Execution) (g : Term Text) (σ : Bindings Text) (w : World)
      → act_of_program left t g σ (at h o w) ≡ act_at (act_of_program left t g σ w)
  program-outer left First g σ w = table-outer left g σ w (inspects σ g)
  program-outer left Repeated g σ w = table-outer left g σ w (inspects σ g)
  program-outer left Recovery g σ w = run_goal-outer alone (follow σ (nth_arg (args_of g) 2)) no_args left σ w

  yielded-outer : (k : ℕ) (g : Term Text) (J : List Item) (K : List Choice) (σ : Bindings Text) (y : Yield) (w : World)
      → yielded k g J K σ y (at h o w) ≡ moved_at h o (yielded k g J K σ y w)
  yielded-outer k g J K σ Fails w = refl
  yielded-outer k g J K σ (Succeeds τ) w = refl
  yielded-outer k g J K σ (Succeeds_again τ t) w = refl
  yielded-outer k g J K σ (Runs b) w = refl
  yielded-outer k g J K σ (Throws b) w = refl
  yielded-outer k g J K σ (Halts i) w = refl

  pub acted-outer : (t : Bool) (s : Setup) (a : Act) (k : ℕ) (g : Term Text) (J : List Item) (K : List Choice) (σ : Bindings Text)
      (w : World)
      → acted t s (act_at a) (at h o w) (yielded k g J K σ) ≡ moved_at h o (acted t s a w (yielded k g J K σ))
  acted-outer true s a k g J K σ w = yielded-outer k g J K σ a.yield (record (counted_as w a.after) { steps = w.steps + a.cost })
  acted-outer false s a k g J K σ w = refl

  branched-outer : (s : Setup) (t : Term Text) (m : Barrier) (σ : Bindings Text) (J : List Item) (K : List Choice) (w : World)
      → branched s t m σ J K (at h o w) ≡ moved_at h o (branched s t m σ J K w)
  branched-outer s t m σ J K w =
      paid-outer (nat_le (w.steps + 1) s.budget) s 1 w (λ u. silent (Forward (Goal t m ∷ J) K σ u))
      (λ u. silent (Forward (Goal t m ∷ J) K σ u)) refl

  again-outer : (s : Setup) (t : Execution) (k : ℕ) (g : Term Text) (σ : Bindings Text) (J : List Item) (K : List Choice) (w : World)
      → executed_again s t k g σ J K (at h o w) ≡ moved_at h o (executed_again s t k g σ J K w)
  again-outer s t k g σ J K w =
      paid-outer (nat_le (w.steps + 1) s.budget) s 1 w (λ u. silent (Forward (Execute t k g ∷ J) K σ u))
      (λ u. silent (Forward (Execute t k g ∷ J) K σ u)) refl

  -- a ball that comes to a box which catches
  ball-outer : (s : Setup) (k : ℕ) (g : Term Text) (σ : Bindings Text) (J : List Item) (K : List Choice) (b : Term Text) (p : List ℕ)
      (w : World) (r : Option (Result Text))
      → ball_unified s k g σ J K b p (at h o w) r ≡ moved_at h o (ball_unified s k g σ J K b p w r)
  ball-outer s k g σ J K b p w None = refl
  ball-outer s k g σ J K b p w (Some (None, left)) = refl
  ball-outer s k g σ J K b p w (Some (Some τ, left)) =
      again-outer s Recovery k g τ J (Fail k g σ J ∷ K) (record w { steps = s.budget - left })

  -- a ball goes up
  pub leaving-outer : (s : Setup) (b : Term Text) (p : List ℕ) (K : List Choice) (w : World)
      → leaving s b p K (at h o w) ≡ moved_at h o (leaving s b p K w)
  leaving-outer s b p [] w = refl
  leaving-outer s b p (Redo k g σ J ∷ K) w = leaving-outer s b p K w
  leaving-outer s b p (Branch t m σ J ∷ K) w = leaving-outer s b p K w
  leaving-outer s b p (More cs k g σ J ∷ K) w = leaving-outer s b p K w
  leaving-outer s b p (Again t k g σ J ∷ K) w = leaving-outer s b p K w
  leaving-outer s b p (Condition n t m σ J ∷ K) w = leaving-outer s b p K w
  leaving-outer s b p (Fail k g σ J ∷ K) w = go (is_open k p) (leaving-outer s b p K w)
    where
      go : (t : Bool) → leaving s b p K (at h o w) ≡ moved_at h o (leaving s b p K w)
          → (if t then raised k g σ J K b (around k p) (at h o w) else leaving s b p K (at h o w))
          ≡ moved_at h o (if t then raised k g σ J K b (around k p) w else leaving s b p K w)
      go true e = refl
      go false e = e
  leaving-outer s b p (Catch k g σ J ∷ K) w = go (is_open k p) (leaving-outer s b p K w)
    where
      go : (t : Bool) → leaving s b p K (at h o w) ≡ moved_at h o (leaving s b p K w)
          → (if t then ball_met s k g σ J K b (around k p) (at h o w) else leaving s b p K (at h o w))
          ≡ moved_at h o (if t then ball_met s k g σ J K b (around k p) w else leaving s b p K w)
      go true e = ball-outer s k g σ J K b (around k p) w (unify text_eq (s.budget - w.steps) σ ((b, catcher_of g) ∷ []))
      go false e = e

  -- behind a solution
  behind-outer : (last : Bool) (K : List Choice) (w : World)
      → (if last then Over Stopped (at h o w) else Backward K (at h o w)) ≡ state_at h o (if last then Over Stopped w else Backward K w)
  behind-outer true K w = refl
  behind-outer false K w = refl

  pub move-outer : (b n : ℕ) (t : State) → move (setup_for b n) (state_at h o t) ≡ moved_at h o (move (setup_for b n) t)
  move-outer b n (Forward [] K σ w) =
      let u : World = record w { solutions = w.solutions + 1 } in
      ap (λ (t : State). record { turns = Solved σ (at h o u) ∷ []; state = t }) (behind-outer (w.solutions + 1 == n) K u)
  move-outer b n (Forward (Exit k g ∷ J) K σ w) = refl
  move-outer b n (Forward (Cut m ∷ J) K σ w) = refl
  move-outer b n (Forward (Execute t k g ∷ J) K σ w) =
      let a : Act = act_of_program (b - w.steps) t g σ w in
      ap (λ (x : Act). acted (nat_le (w.steps + x.cost) b) (setup_for b n) x (at h o w) (yielded k g J K σ))
      (program-outer (b - w.steps) t g σ w)
      ∙ acted-outer (nat_le (w.steps + a.cost) b) (setup_for b n) a k g J K σ w
  move-outer b n (Forward (Goal t m ∷ J) K σ w) =
      paid-outer (nat_le (w.steps + 1) b) (setup_for b n) 1 w (chosen (control t) t m J K σ) (chosen (control t) t m J K σ)
      (chosen-outer (control t) t m J K σ (record w { steps = w.steps + 1 }))
  move-outer b n (Backward [] w) = refl
  move-outer b n (Backward (Redo k g σ J ∷ K) w) = refl
  move-outer b n (Backward (Branch t m σ J ∷ K) w) = branched-outer (setup_for b n) t m σ J K w
  move-outer b n (Backward (Condition c t m σ J ∷ K) w) = branched-outer (setup_for b n) t m σ J K w
  move-outer b n (Backward (Again t k g σ J ∷ K) w) = again-outer (setup_for b n) t k g σ J K w
  move-outer b n (Backward (Fail k g σ J ∷ K) w) = refl
  move-outer b n (Backward (Catch k g σ J ∷ K) w) = refl
  move-outer b n (Backward (More [] k g σ J ∷ K) w) = refl
  move-outer b n (Backward (More (c ∷ cs) k g σ J ∷ K) w) = tried-outer (setup_for b n) c k g σ J (with_more cs k g σ J K) w
  move-outer b n (Throwing x p K w) = leaving-outer (setup_for b n) x p K w
  move-outer b n (Over r w) = refl

  -- what is owed before a move is the turn that it shows and what is owed after it, whatever lies outside
  pub move-equation-outer : (b n : ℕ) (t : State) → (world_of t).steps ≤ b → InStep t
      → owed (setup_for b n) (state_at h o t)
      ≡ with_turns (turns_at h o (move (setup_for b n) t).turns) (owed (setup_for b n) (state_at h o (move (setup_for b n) t).state))
  move-equation-outer b n t below s =
      let there : (world_of (state_at h o t)).steps ≤ b = omega (arith, steps-outer t, below) in
      move-equation (setup_for b n) (state_at h o t) there (in_step-outer t s)
      ∙ ap (λ (m : Moved). with_turns m.turns (owed (setup_for b n) m.state)) (move-outer b n t)
