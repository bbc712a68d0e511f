use Rattle.op_store.proofs.CommandReading.{command-told}
use Rattle.op_store.proofs.goals.command.read_command.Goals as goal

pub returns-in-Ok-Term-clause-tells : goal.returns-in-Ok-Term-clause-tells
returns-in-Ok-Term-clause-tells c =
    let read = c.in-Ok-Term.read in
    command-told c.args.ops.now c.args.flags.quotes c.args.text.now c.read_term.new.symbols c.convert_command.new.symbols read.term
    read.names read.used c.convert_command.result
    (rw c.in-Ok-Term.field-0-is at c.in-Ok-Term.ensures.tells) c.convert_command.ensures.kept
    (rw c.in-Ok-Term.field-0-is at c.in-Ok-Term.ensures.known) c.convert_command.ensures.tells
