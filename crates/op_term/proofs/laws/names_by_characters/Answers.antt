use Rattle.op_term.proofs.CharacterOrder.{bytes-by-characters}
use Rattle.op_term.proofs.laws.names_by_characters.Goals as goal

pub returns : goal.returns
returns c = bytes-by-characters
