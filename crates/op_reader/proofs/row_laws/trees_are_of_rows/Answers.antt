use Rattle.op_reader.proofs.RefusedRows.{trees_of_rows}
use Rattle.op_reader.proofs.row_laws.trees_are_of_rows.Goals as goal

pub returns : goal.returns
returns c = trees_of_rows
