use Rattle.op_session.proofs.CallEnds.{leaves_memory, untouched_start}
use Rattle.op_session.proofs.session.answer_run.Goals as goal

pub returns-in-Err : goal.returns-in-Err
returns-in-Err g c = leaves_memory _ _ _ _ (untouched_start _)
