-- The balls of the errors of builtins on terms (ISO/IEC 13211-1, 7.12.2).
use Rattle.std.specs.Prelude.{ℕ, pos, codes}
use Rattle.op_logic.specs.Term.{Term, int, node, no_args, arg, atom}
use Rattle.op_trace.specs.Database.{Text}
use Rattle.op_trace.specs.Body.{pair}
use Rattle.op_trace.specs.Builtins.{error_of, instantiation_error, type_error}
use Rattle.op_inspect.specs.Arithmetic.{Cause, instantiation, evaluable, evaluation}
use Rattle.op_inspect.specs.declared.fault.EvaluationError.{EvaluationError}
use Rattle.op_inspect.specs.declared.fault.EvaluationError.TheVariants.{Overflow, ZeroDivisor, Undefined}

abbrev pub domain_error : Text → Term Text → Term Text
domain_error domain culprit = error_of (pair (codes "domain_error") (atom domain) culprit)

-- a name with a number of arguments, as a term
abbrev pub name_and_arity : Text → ℕ → Term Text
name_and_arity f n = pair (codes "/") (atom f) (int (pos n))

abbrev pub word_of : EvaluationError → Text
word_of Overflow = codes "int_overflow"
word_of ZeroDivisor = codes "zero_divisor"
word_of Undefined = codes "undefined"

-- why an expression has no value
abbrev pub error_of_cause : Cause → Term Text
error_of_cause instantiation = instantiation_error
error_of_cause (evaluable f n) = type_error (codes "evaluable") (name_and_arity f n)
error_of_cause (evaluation e) = error_of (node (codes "evaluation_error") (arg (atom (word_of e)) no_args))
