use Rattle.op_desk.proofs.EntryLaws.{absent_more}
use Rattle.op_desk.proofs.shelf.place_of.Goals as goal

pub loop-i-preserved : goal.loop-i-preserved
loop-i-preserved c =
    absent_more c.args.entries.now c.args.name.now c.loop-i.i c.index-entries-i.result c.loop-i.invariant
    (rw (← c.index-entries-i.is, ← c.as_slice.ensures, ← c.eq.ensures) c.if-eq.false)
