use Rattle.op_token.proofs.Utf8Characters.{char_read, char_reads}
use Rattle.op_token.proofs.laws.characters.Goals as goal

pub returns : goal.returns
returns c = record { read = char_read; every = char_reads }
