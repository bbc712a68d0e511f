use Rattle.std.proofs.Common.{sym, subst}
use Rattle.op_inspect.specs.Arithmetic.{Answer, answered}
use Rattle.op_inspect.specs.inner.Pending.{all_resumed, Ends}
use Rattle.op_inspect.specs.declared.fault.EvalFault.{EvalFault}
use Rattle.op_inspect.specs.Told.{of_error}
use Rattle.op_inspect.proofs.PendingFunctions.{error-ends}
use Rattle.op_inspect.proofs.arithmetic.finished.Goals as goal

pub returns-in-Err : goal.returns-in-Err
returns-in-Err c =
    λ names s all.
    subst (λ (f : EvalFault). Ends names (all_resumed names s c.args.pending.now (answered c.args.answer)) 0 f) (sym c.as_fault.ensures)
    (subst (λ (a : Answer). Ends names (all_resumed names s c.args.pending.now (answered a)) 0 (of_error c.in-Err.error)) (sym c.in-Err.is)
    (error-ends names s c.args.pending.now c.in-Err.error))
