use Rattle.std.proofs.lemmas.Result.{err_from_is_err_and}
use Rattle.op_session.proofs.session.answer_byte.Goals as goal
use Rattle.op_session.proofs.BetweenBytes.{goes_open, goes_text, breaks_take, breaks_push, stops_text}

pub returns-in_err-byte : goal.returns-in_err-byte
returns-in_err-byte g c = λ run a n before short h.
    let p = err_from_is_err_and c.from_residual.result c.from_residual.ensures.1 in
    rw (p.1, p.2) (breaks_take run _ a _ _ n before _ _ _ short h c.in_err-byte.ensures)

pub returns-in_err-push : goal.returns-in_err-push
returns-in_err-push g c = λ run a n before short h.
    let p = err_from_is_err_and c.from_residual-in_err-push.result c.from_residual-in_err-push.ensures.1 in
    let t = rw c.in-Some.is at c.in_ok-byte.ensures in
    rw (p.1, p.2) (breaks_push run a _ _ n before _ c.in-Some.byte _ _ short h t)

pub returns-in_err-give_answer : goal.returns-in_err-give_answer
returns-in_err-give_answer g c = λ run a n before short h.
    let p = err_from_is_err_and c.from_residual-in_err-give_answer.result c.from_residual-in_err-give_answer.ensures.1 in
    let t = rw c.in-Some.is at c.in_ok-byte.ensures in
    let f = c.in_ok-push.ensures.ended.0 c.if-branch.true in
    rw (p.1, p.2) (stops_text run _ a _ _ _ n before _ _ c.in-Some.byte _ _ _ _ _ short h t c.in_ok-push.ensures.taken f c.text.ensures
    (c.in_err-give_answer.ensures run _ h.feeds))

pub returns-in_ok-give_answer : goal.returns-in_ok-give_answer
returns-in_ok-give_answer g c = λ run a n before short h.
    let t = rw c.in-Some.is at c.in_ok-byte.ensures in
    let f = c.in_ok-push.ensures.ended.0 c.if-branch.true in
    goes_text run a _ _ _ n before _ _ c.in-Some.byte _ _ _ _ _ _ h t c.in_ok-push.ensures.taken f c.text.ensures
    c.restart.ensures.rest c.restart.ensures.ready (c.in_ok-give_answer.ensures run _ h.feeds)

pub returns-else-branch : goal.returns-else-branch
returns-else-branch g c = λ run a n before short h.
    let t = rw c.in-Some.is at c.in_ok-byte.ensures in
    goes_open run a _ _ n before _ c.in-Some.byte _ _ _ h t c.in_ok-push.ensures.taken (rw c.if-branch.false at c.in_ok-push.ensures.going)
