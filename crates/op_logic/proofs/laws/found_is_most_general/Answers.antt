use Rattle.std.proofs.Common.{nat_eq}
use Rattle.std.proofs.lemmas.Bool.Decides.{Decides-eqb}
use Rattle.op_logic.proofs.BudgetedUnifiers.{solved-best}
use Rattle.op_logic.proofs.laws.found_is_most_general.Goals as goal

pub returns : goal.returns
returns c = solved-best nat_eq Decides-eqb
