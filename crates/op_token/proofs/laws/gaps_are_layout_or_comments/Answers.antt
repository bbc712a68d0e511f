use Rattle.std.proofs.Common.{refl}
use Rattle.op_token.proofs.SpellingEnds.{gap_ends}
use Rattle.op_token.proofs.FaultSoundness.{gap_found}
use Rattle.op_token.proofs.laws.gaps_are_layout_or_comments.Goals as goal

pub returns : goal.returns
returns c = record { nothing = λ at minus. refl; within = gap_ends; spelled = gap_found }
