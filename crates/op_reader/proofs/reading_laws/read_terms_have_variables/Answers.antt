use Rattle.op_reader.proofs.ReadVariables.{read_terms}
use Rattle.op_reader.proofs.reading_laws.read_terms_have_variables.Goals as goal

pub returns : goal.returns
returns c = read_terms
