use Rattle.op_store.proofs.CommandReading.{goal-told}
use Rattle.op_store.proofs.goals.goal_text.goal_from.Goals as goal

pub returns-in-Ok-Term-clause-tells : goal.returns-in-Ok-Term-clause-tells
returns-in-Ok-Term-clause-tells c =
    let read = c.in-Ok-Term.read in
    goal-told c.args.ops.now c.args.flags.quotes c.args.bytes.now c.read_term.new.symbols c.goal_read.new.symbols read.term read.names
    read.used c.goal_read.result
    (rw c.in-Ok-Term.field-0-is at c.in-Ok-Term.ensures.tells) c.goal_read.ensures.kept
    (rw c.in-Ok-Term.field-0-is at c.in-Ok-Term.ensures.known) c.goal_read.ensures.tells
