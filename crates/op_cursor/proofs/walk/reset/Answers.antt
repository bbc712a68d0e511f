use Rattle.op_cursor.proofs.JoinedWalks.{walks-reset}
use Rattle.op_cursor.proofs.StoppedWalks.{stops-reset}
use Rattle.op_cursor.proofs.walk.reset.Goals as goal

pub returns-in-Ok-clause-walks : goal.returns-in-Ok-clause-walks
returns-in-Ok-clause-walks g c a n =
    walks-reset _ _ a n c.requires.none c.requires.sound c.in-Ok.ensures.resets c.place-place.ensures.sound

pub returns-in-Err-clause-stops : goal.returns-in-Err-clause-stops
returns-in-Err-clause-stops g c a n from to =
    stops-reset c.in-Err.fault _ _ a n from to c.requires.none c.requires.sound c.in-Err.ensures.broken c.in-Err.ensures.faults
    c.in-Err.ensures.ends
