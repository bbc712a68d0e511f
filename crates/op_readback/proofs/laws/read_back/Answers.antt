use Rattle.op_readback.proofs.ReadBackLaw.{quoted-is-read-back, canonical-is-read-back}
use Rattle.op_readback.proofs.laws.read_back.Goals as goal

pub returns : goal.returns
returns c = record { quoted = quoted-is-read-back; canonical = canonical-is-read-back }
