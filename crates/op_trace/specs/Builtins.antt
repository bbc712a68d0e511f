-- The builtins of control (ISO/IEC 13211-1, 7.8, 8.15 and 8.17): each execution as an act. Errors of an argument come first, without steps.
use Rattle.std.specs.Prelude.{ℕ, suc, ◌+◌, ◌==◌, ◌&&◌, nat_le, pos, length, Some, None, codes, if◌then◌else◌}
use Rattle.op_logic.specs.Term.{Term, var, int, node, Args, no_args, arg, args_of, nth_arg, atom, size, arity}
use Rattle.op_logic.specs.Bind.{Bindings, apply, follow}
use Rattle.op_trace.specs.Database.{Text, text_eq}
use Rattle.op_trace.specs.World.{World, Execution, First, Repeated, Recovery}
use Rattle.op_trace.specs.Act.{Act, Fails, Runs, Throws, Halts, done, pay, Setup}
use Rattle.op_trace.specs.Body.{Division, divided, term_of, pair}
use Rattle.op_trace.specs.Copy.{variables_of, copied}

-- the ball of an error (7.12.2)
abbrev pub error_of : Term Text → Term Text
error_of e = pair (codes "error") e (atom (codes "opium"))

abbrev pub instantiation_error : Term Text
instantiation_error = error_of (atom (codes "instantiation_error"))

abbrev pub type_error : Text → Term Text → Term Text
type_error type culprit = error_of (pair (codes "type_error") (atom type) culprit)

abbrev pub no_procedure : Text → ℕ → Term Text
no_procedure f n =
    error_of (pair (codes "existence_error") (atom (codes "procedure")) (pair (codes "/") (atom f) (int (pos n))))

-- a ball is a copy of a term under its bindings, with new variables, at a step for each node
abbrev pub throw : ℕ → Bindings Text → Term Text → World → Act
throw left σ t w =
    let b : Term Text = apply σ t in
    pay (size b) left w (λ l. done (record w { variables = w.variables + length (variables_of b) }) (Throws (copied w.variables b)))

-- a goal that has no procedure (7.7.7)
abbrev pub unknown : Text → ℕ → ℕ → Bindings Text → World → Act
unknown f n left σ w = if w.database.flags.unknown_fails then done w Fails else throw left σ (no_procedure f n) w

-- a goal is converted to a body before any of it runs (7.6.2), with what stands around it; where it is refused, the culprit is the whole
abbrev pub run_division : Division → (Term Text → Term Text) → Term Text → ℕ → Bindings Text → World → Act
run_division d around goal left σ w =
    elim (d.tree) [
      | None ↦ pay d.steps left w (λ l. throw l σ (type_error (codes "callable") goal) w)
      | Some b ↦ pay d.steps left w (λ l. done w (Runs (around (term_of b))))
    ]

abbrev pub added : Args Text → Args Text → Args Text
added no_args us = us
added (arg t ts) us = arg t (added ts us)

-- a goal that is an argument, once it was followed, with more arguments
abbrev pub run_goal : (Term Text → Term Text) → Term Text → Args Text → ℕ → Bindings Text → World → Act
run_goal around (var v) us left σ w = throw left σ instantiation_error w
run_goal around (int i) us left σ w = run_division (divided σ (int i)) around (int i) left σ w
run_goal around (node f ts) us left σ w =
    run_division (divided σ (node f (added ts us))) around (node f (added ts us)) left σ w

abbrev pub alone : Term Text → Term Text
alone body = body

abbrev pub first_solution : Term Text → Term Text
first_solution body = pair (codes "->") body (atom (codes "true"))

abbrev pub no_solution : Term Text → Term Text
no_solution body = pair (codes ";") (pair (codes "->") body (atom (codes "fail"))) (atom (codes "true"))

abbrev pub throw_argument : Term Text → ℕ → Bindings Text → World → Act
throw_argument (var v) left σ w = throw left σ instantiation_error w
throw_argument t left σ w = throw left σ t w

abbrev pub halt_with : Term Text → ℕ → Bindings Text → World → Act
halt_with (var v) left σ w = throw left σ instantiation_error w
halt_with (int i) left σ w = done w (Halts i)
halt_with t left σ w = throw left σ (type_error (codes "integer") t) w

-- call/1 to call/8, once/1, \+/1, catch/3, throw/1, halt/0, halt/1, and any other goal, which has no procedure
abbrev pub act_of_goal : ℕ → Term Text → Bindings Text → World → Act
act_of_goal left (node f no_args) σ w = if text_eq f (codes "halt") then done w (Halts (pos 0)) else unknown f 0 left σ w
act_of_goal left (node f (arg a no_args)) σ w =
    if text_eq f (codes "call") then run_goal alone (follow σ a) no_args left σ w else
    if text_eq f (codes "once") then run_goal first_solution (follow σ a) no_args left σ w else
    if text_eq f (codes "\\+") then run_goal no_solution (follow σ a) no_args left σ w else
    if text_eq f (codes "throw") then throw_argument (follow σ a) left σ w else
    if text_eq f (codes "halt") then halt_with (follow σ a) left σ w else
    unknown f 1 left σ w
act_of_goal left (node f (arg a us)) σ w =
    if text_eq f (codes "call") && nat_le (arity us) 7 then run_goal alone (follow σ a) us left σ w else
    if text_eq f (codes "catch") && (arity us == 2) then run_goal alone (follow σ a) no_args left σ w else
    unknown f (suc (arity us)) left σ w
act_of_goal left t σ w = done w Fails

-- the recovery of catch/3, its last argument, runs as a goal of call/1 does
abbrev pub act_of_recovery : ℕ → Term Text → Bindings Text → World → Act
act_of_recovery left g σ w = run_goal alone (follow σ (nth_arg (args_of g) 2)) no_args left σ w

abbrev pub act_of_program : ℕ → Execution → Term Text → Bindings Text → World → Act
act_of_program left First g σ w = act_of_goal left g σ w
act_of_program left Repeated g σ w = act_of_goal left g σ w
act_of_program left Recovery g σ w = act_of_recovery left g σ w

abbrev pub setup_for : ℕ → ℕ → Setup
setup_for budget wanted = record { budget = budget; wanted = wanted; act = act_of_program }
