-- What each execution of a program's goal does: the builtins on terms, those of control, and goals without a procedure.
use Rattle.std.specs.Prelude.{ℕ, Option, Some, None}
use Rattle.op_logic.specs.Term.{Term}
use Rattle.op_logic.specs.Bind.{Bindings}
use Rattle.op_trace.specs.Database.{Text}
use Rattle.op_trace.specs.World.{World, Execution, First, Repeated, Recovery}
use Rattle.op_trace.specs.Act.{Act, Setup}
use Rattle.op_trace.specs.Builtins as control
use Rattle.op_trace.specs.Builtins.{act_of_recovery}
use Rattle.op_inspect.specs.Inspected.{inspected}

-- this act, if there is one, else that
abbrev pub act_or : Option Act → Act → Act
act_or None a = a
act_or (Some b) a = b

-- a goal is one of the builtins on terms, or what the builtins of control say
abbrev pub act_of_goal : ℕ → Term Text → Bindings Text → World → Act
act_of_goal left g σ w = act_or (inspected left g σ w) (control.act_of_goal left g σ w)

abbrev pub act_of_program : ℕ → Execution → Term Text → Bindings Text → World → Act
act_of_program left First g σ w = act_of_goal left g σ w
act_of_program left Repeated g σ w = act_of_goal left g σ w
act_of_program left Recovery g σ w = act_of_recovery left g σ w

abbrev pub setup_for : ℕ → ℕ → Setup
setup_for budget wanted = record { budget = budget; wanted = wanted; act = act_of_program }
