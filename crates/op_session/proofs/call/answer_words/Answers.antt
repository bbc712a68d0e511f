use Rattle.op_session.proofs.CallEnds.{leaves_after, retell}
use Rattle.op_session.proofs.call.answer_words.Goals as goal

pub returns-in-Ok : goal.returns-in-Ok
returns-in-Ok g c =
    let s = c.in-Ok.ensures.goes in leaves_after _ _ _ _ _ _ _ s.0 (retell _ _ _ _ _ _ _ s.1 c.session.ensures)

pub returns-in-Err : goal.returns-in-Err
returns-in-Err g c = c.in-Err.ensures.goes _
