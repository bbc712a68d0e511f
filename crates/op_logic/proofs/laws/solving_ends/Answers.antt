use Rattle.op_logic.proofs.Termination.{solve-ends}
use Rattle.std.proofs.Common.{nat_eq}
use Rattle.std.proofs.lemmas.Bool.Decides.{Decides-eqb}
use Rattle.op_logic.proofs.laws.solving_ends.Goals as goal

pub returns : goal.returns
returns c = solve-ends nat_eq Decides-eqb
