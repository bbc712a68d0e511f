use Rattle.std.proofs.Common.{is_some, ap, ◌∙◌, subst}
use Rattle.op_retrace.specs.Sight.{sight, Counts}
use Rattle.op_cursor.proofs.StoppedWalks.{stops-at}
use Rattle.op_cursor.proofs.walk.step.Goals as goal

pub returns-in-Err-clause-stops : goal.returns-in-Err-clause-stops
returns-in-Err-clause-stops g c =
    let e = c.in-Err.ensures in
    let a = c.advance.ensures in
    stops-at c.in-Err.fault _ _ _ _ _ _ c.requires.none c.requires.sound (e.breaks (ap is_some c.requires.none)) a.apart
    (subst (λ r. Counts (sight g.D.Desk c.args.desk.now) (sight g.D.Desk c.advance.new.desk) r) c.in-Err.is a.counts) e.ends
    (λ h. a.too_long (c.in-Err.is ∙ h))
