-- The acts of a program take back nothing.
use Rattle.std.proofs.Common.{ℕ, suc, ◌+◌, ◌-◌, ◌==◌, ◌&&◌, nat_le, pos, Bool, true, false, cond, length, Option, Some, None, codes, refl}
use Rattle.op_logic.specs.Term.{Term, var, int, node, Args, no_args, arg, args_of, nth_arg, size, arity}
use Rattle.op_logic.specs.Bind.{Bindings, apply, follow}
use Rattle.op_trace.specs.Database.{Text, text_eq}
use Rattle.op_trace.specs.World.{World, Execution, First, Repeated, Recovery}
use Rattle.op_trace.specs.Act.{Act, Yield, Fails, Runs, Throws, Halts, done, pay, paid}
use Rattle.op_trace.specs.Body.{Body, Division, divided, term_of}
use Rattle.op_trace.specs.Copy.{variables_of, copied}
use Rattle.op_trace.specs.Builtins.{throw, unknown, no_procedure, run_division, run_goal, added, alone, first_solution, no_solution}
use Rattle.op_trace.specs.Builtins.{throw_argument, halt_with, act_of_goal, act_of_program, setup_for}
use Rattle.op_trace.specs.Builtins.{instantiation_error, type_error}
use Rattle.op_moves.specs.Places.{TakesNothingBack, ActsGoOn}
use Rattle.op_moves.proofs.WalkCourses.{goes-same, goes-kept}

-- an act leaves the bytes of the input and of the output as they were
done-keeps : (w : World) (y : Yield) → TakesNothingBack w (done w y)
done-keeps w y = record { after = goes-same w; interrupted = goes-same w }

by_if : (b : Bool) (w : World) (x y : Act) → TakesNothingBack w x → TakesNothingBack w y → TakesNothingBack w (cond b x y)
by_if true w x y p q = p
by_if false w x y p q = q

paid-keeps : (t : Bool) (n left : ℕ) (w : World) (rest : ℕ → Act) → ((l : ℕ) → TakesNothingBack w (rest l))
    → TakesNothingBack w (paid t n left w rest)
paid-keeps true n left w rest h = record { after = (h (left - n)).after; interrupted = (h (left - n)).interrupted }
paid-keeps false n left w rest h = record { after = goes-same w; interrupted = goes-same w }

pay-keeps : (n left : ℕ) (w : World) (rest : ℕ → Act) → ((l : ℕ) → TakesNothingBack w (rest l)) → TakesNothingBack w (pay n left w rest)
pay-keeps n left w rest h = paid-keeps (nat_le n left) n left w rest h

throw-keeps : (left : ℕ) (σ : Bindings Text) (t : Term Text) (w : World) → TakesNothingBack w (throw left σ t w)
throw-keeps left σ t w =
    let b : Term Text = apply σ t in
    let u : World = record w { variables = w.variables + length (variables_of b) } in
    pay-keeps (size b) left w (λ l. done u (Throws (copied w.variables b)))
    (λ l. record { after = goes-kept w u refl refl; interrupted = goes-kept w u refl refl })

unknown-keeps : (f : Text) (n left : ℕ) (σ : Bindings Text) (w : World) → TakesNothingBack w (unknown f n left σ w)
unknown-keeps f n left σ w =
    by_if w.database.flags.unknown_fails w _ _ (done-keeps w Fails) (throw-keeps left σ (no_procedure f n) w)

division-keeps : (d : Division) (r : Term Text → Term Text) (g : Term Text) (left : ℕ) (σ : Bindings Text) (w : World)
    → TakesNothingBack w (run_division d r g left σ w)
division-keeps d r g left σ w = go d.tree
  where
    go : (o : Option Body) → TakesNothingBack w (run_division (record { tree = o; steps = d.steps }) r g left σ w)
    go None = pay-keeps d.steps left w _ (λ l. throw-keeps l σ (type_error (codes "callable") g) w)
    go (Some b) = pay-keeps d.steps left w _ (λ l. done-keeps w (Runs (r (term_of b))))

goal-keeps : (r : Term Text → Term Text) (t : Term Text) (us : Args Text) (left : ℕ) (σ : Bindings Text) (w : World)
    → TakesNothingBack w (run_goal r t us left σ w)
goal-keeps r (var v) us left σ w = throw-keeps left σ instantiation_error w
goal-keeps r (int i) us left σ w = division-keeps (divided σ (int i)) r (int i) left σ w
goal-keeps r (node f ts) us left σ w = division-keeps (divided σ (node f (added ts us))) r (node f (added ts us)) left σ w

argument-keeps : (t : Term Text) (left : ℕ) (σ : Bindings Text) (w : World) → TakesNothingBack w (throw_argument t left σ w)
argument-keeps (var v) left σ w = throw-keeps left σ instantiation_error w
argument-keeps (int i) left σ w = throw-keeps left σ (int i) w
argument-keeps (node f ts) left σ w = throw-keeps left σ (node f ts) w

halt-keeps : (t : Term Text) (left : ℕ) (σ : Bindings Text) (w : World) → TakesNothingBack w (halt_with t left σ w)
halt-keeps (var v) left σ w = throw-keeps left σ instantiation_error w
halt-keeps (int i) left σ w = done-keeps w (Halts i)
halt-keeps (node f ts) left σ w = throw-keeps left σ (type_error (codes "integer") (node f ts)) w

builtin-keeps : (g : Term Text) (left : ℕ) (σ : Bindings Text) (w : World) → TakesNothingBack w (act_of_goal left g σ w)
builtin-keeps (var v) left σ w = done-keeps w Fails
builtin-keeps (int i) left σ w = done-keeps w Fails
builtin-keeps (node f no_args) left σ w =
    by_if (text_eq f (codes "halt")) w _ _ (done-keeps w (Halts (pos 0))) (unknown-keeps f 0 left σ w)
builtin-keeps (node f (arg a no_args)) left σ w =
    let t : Term Text = follow σ a in
    by_if (text_eq f (codes "call")) w _ _ (goal-keeps alone t no_args left σ w)
    (by_if (text_eq f (codes "once")) w _ _ (goal-keeps first_solution t no_args left σ w)
    (by_if (text_eq f (codes "\\+")) w _ _ (goal-keeps no_solution t no_args left σ w)
    (by_if (text_eq f (codes "throw")) w _ _ (argument-keeps t left σ w)
    (by_if (text_eq f (codes "halt")) w _ _ (halt-keeps t left σ w) (unknown-keeps f 1 left σ w)))))
builtin-keeps (node f (arg a (arg b us))) left σ w =
    by_if (text_eq f (codes "call") && nat_le (arity (arg b us)) 7) w _ _ (goal-keeps alone (follow σ a) (arg b us) left σ w)
    (by_if (text_eq f (codes "catch") && (arity (arg b us) == 2)) w _ _ (goal-keeps alone (follow σ a) no_args left σ w)
    (unknown-keeps f (suc (arity (arg b us))) left σ w))

execution-keeps : (t : Execution) (g : Term Text) (left : ℕ) (σ : Bindings Text) (w : World)
    → TakesNothingBack w (act_of_program left t g σ w)
execution-keeps First g left σ w = builtin-keeps g left σ w
execution-keeps Repeated g left σ w = builtin-keeps g left σ w
execution-keeps Recovery g left σ w = goal-keeps alone (follow σ (nth_arg (args_of g) 2)) no_args left σ w

pub program-acts-go-on : (budget wanted : ℕ) → ActsGoOn (setup_for budget wanted)
program-acts-go-on budget wanted left t g σ w = execution-keeps t g left σ w
