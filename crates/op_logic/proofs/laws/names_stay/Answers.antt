use Rattle.op_logic.proofs.NameTables.{named-more}
use Rattle.op_logic.proofs.laws.names_stay.Goals as goal

pub returns : goal.returns
returns c = named-more
