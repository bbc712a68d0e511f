use Rattle.op_logic.proofs.NameTables.{names-same}
use Rattle.op_logic.proofs.laws.names_differ.Goals as goal

pub returns : goal.returns
returns c = names-same
