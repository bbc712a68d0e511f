use Rattle.op_retrace.proofs.WaysOn.{advanced-known}
use Rattle.op_run_cases.proofs.feeds.go_on.Goals as goal

pub add_end-requires : goal.add_end-requires
add_end-requires g c =
    advanced-known _ _ _ _ _ _ _ _ (rw c.in-Ok-End.field-0-is at c.in-Ok-End.ensures.advances) c.place-place.ensures.sound
    c.in-Ok-End.ensures.ends.1
