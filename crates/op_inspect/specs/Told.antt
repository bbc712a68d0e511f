-- What an answer of the code tells of an expression whose names are texts.
use Rattle.std.specs.Prelude.{ℕ, ◌<◌, List, Option, Some, None}
use Rattle.op_logic.specs.Bind.{within}
use Rattle.op_logic.specs.Names.{name_at}
use Rattle.op_logic.specs.Term.{Term}
use Rattle.std.specs.Prelude.{ℤ, Result}
use Rattle.op_inspect.specs.Arithmetic.{Cause, instantiation, evaluable, evaluation, evaluated}
use Rattle.op_inspect.specs.declared.fault.EvaluationError.{EvaluationError}
use Rattle.op_inspect.specs.declared.fault.EvaluationError.TheVariants as errors
use Rattle.op_inspect.specs.declared.fault.EvalFault.{EvalFault}
use Rattle.op_inspect.specs.declared.fault.EvalFault.TheVariants.{Memory, Spent, Unbound, Evaluable, Overflow, ZeroDivisor, Undefined}

-- a step for each node: the value or the cause, and the steps that are left then, or None where they are spent
abbrev pub evaluated_within : ℕ → Term (List ℕ) → Option (Result ℤ Cause × ℕ)
evaluated_within left t = within left (Some (evaluated t))

-- the cause that a fault tells; out of memory and spent steps tell none
abbrev pub cause_of : List (List ℕ) → EvalFault → Option Cause
cause_of names Memory = None
cause_of names Spent = None
cause_of names Unbound = Some instantiation
cause_of names (Evaluable f n) = Some (evaluable (name_at names f.0) n)
cause_of names Overflow = Some (evaluation errors.Overflow)
cause_of names ZeroDivisor = Some (evaluation errors.ZeroDivisor)
cause_of names Undefined = Some (evaluation errors.Undefined)

-- the name of a fault is in the table
abbrev pub HasKnownName : ℕ → EvalFault → Type 0
HasKnownName count (Evaluable f n) = f.0 < count
HasKnownName count _ = Unit {0}

-- the fault of an error of a function
abbrev pub of_error : EvaluationError → EvalFault
of_error errors.Overflow = Overflow
of_error errors.ZeroDivisor = ZeroDivisor
of_error errors.Undefined = Undefined
