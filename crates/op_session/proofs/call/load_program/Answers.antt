use Rattle.std.proofs.lemmas.Result.{err_from_is_err_and}
use Rattle.op_store.specs.Load.{load_text, goal_of}
use Rattle.op_store.specs.Stored.{database_of}
use Rattle.op_session.specs.Call.{with_goal}
use Rattle.op_session.proofs.CallEnds.{leaves_memory, untouched_start}
use Rattle.op_session.proofs.CallOutcomes.{load-refused}
use Rattle.op_session.proofs.GoingOn.{goes_as, outcome_program}
use Rattle.op_session.proofs.call.load_program.Goals as goal

pub returns-in_ok-are_runnable-in-Ok-clause-goes : goal.returns-in_ok-are_runnable-in-Ok-clause-goes
returns-in_ok-are_runnable-in-Ok-clause-goes g c = λ asked.
    let old = c.args.store.now in
    let new = c.load.new.self in
    goes_as c.demand_runnable.result _ _ _ _ _
    (outcome_program c.args.name.now asked (load_text old.locked (database_of old) c.args.text.now)
    (database_of new) _ c.in-Ok.ensures.tells c.in_ok-are_runnable-in-Ok.ensures)
    (c.demand_runnable.ensures (with_goal (database_of new) (goal_of new.table new.flags.quotes asked)))

pub returns-in_err-are_runnable-in-Ok-clause-goes : goal.returns-in_err-are_runnable-in-Ok-clause-goes
returns-in_err-are_runnable-in-Ok-clause-goes g c = λ asked.
    let p = err_from_is_err_and c.from_residual.result c.from_residual.ensures.1 in
    rw (p.1, p.2) (λ n. leaves_memory _ _ _ n (untouched_start _))

pub returns-in-Err-clause-goes : goal.returns-in-Err-clause-goes
returns-in-Err-clause-goes g c = λ asked n.
    let old = c.args.store.now in
    load-refused c.args.name.now asked c.load.new.self
    (load_text old.locked (database_of old) c.args.text.now) c.in-Err.fault _ _ _ n c.in-Err.ensures.tells c.refuse.ensures
