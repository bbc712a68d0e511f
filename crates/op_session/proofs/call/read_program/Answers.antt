use Rattle.std.proofs.lemmas.Result.{err_from_is_err_and}
use Rattle.op_session.proofs.CallEnds.{leaves_unread, leaves_long, leaves_after, retell}
use Rattle.op_session.proofs.CallOutcomes.{outcome_file, outcome_long, outcome_missing}
use Rattle.op_session.proofs.call.read_program.Goals as goal

pub returns-in_err-text : goal.returns-in_err-text
returns-in_err-text g c = λ asked.
    let p = err_from_is_err_and c.from_residual.result c.from_residual.ensures.1 in
    let u = c.in_err-text.ensures in
    rw (p.1, p.2) (λ n. leaves_unread _ c.args.name.now _ _ _ n (λ t e. outcome_missing _ c.args.name.now asked (u.missing t e)) u)

pub returns-in-Some : goal.returns-in-Some
returns-in-Some g c = λ asked.
    let r = rw c.in-Some.is at c.in_ok-text.ensures in
    (r.untouched, outcome_file _ c.args.name.now asked c.in-Some.text r.file r.short)

pub returns-in-None : goal.returns-in-None
returns-in-None g c = λ asked n.
    let r = rw c.in-None.is at c.in_ok-text.ensures in
    rw c.ended_as.ensures
    (retell _ _ _ _ _ _ _ (outcome_long _ c.args.name.now asked r.long)
    (leaves_after _ _ _ _ _ _ _ r.untouched (leaves_long _ _ _ n c.say_name.result c.say_name.ensures)))
