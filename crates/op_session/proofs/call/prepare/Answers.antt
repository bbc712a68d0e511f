use Rattle.std.proofs.lemmas.Result.{err_from_is_err_and}
use Rattle.op_session.proofs.CallEnds.{leaves_memory, untouched_start}
use Rattle.op_session.proofs.call.prepare.Goals as goal

pub returns-in_err-store-clause-goes : goal.returns-in_err-store-clause-goes
returns-in_err-store-clause-goes g c =
    let p = err_from_is_err_and c.from_residual.result c.from_residual.ensures.1 in
    rw (p.1, p.2) (λ n. leaves_memory _ _ _ n (untouched_start _))

pub returns-in_err-goal-clause-goes : goal.returns-in_err-goal-clause-goes
returns-in_err-goal-clause-goes g c =
    let p = err_from_is_err_and c.from_residual-in_err-goal.result c.from_residual-in_err-goal.ensures.1 in
    rw (p.1, p.2) (λ n. c.in_err-goal.ensures.goes n)
