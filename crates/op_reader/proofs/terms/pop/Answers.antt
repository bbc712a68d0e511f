use Rattle.op_reader.proofs.PendingRows.{popped_some}
use Rattle.op_reader.proofs.terms.pop.Goals as goal

pub returns-in-Some-clause-popped : goal.returns-in-Some-clause-popped
returns-in-Some-clause-popped c = popped_some c.args.pending.now _ c.in-Some.rows c.in-Some.ensures.items c.replace-innermost.ensures.after
