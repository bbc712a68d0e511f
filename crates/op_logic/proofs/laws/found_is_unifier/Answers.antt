use Rattle.std.proofs.Common.{nat_eq}
use Rattle.std.proofs.lemmas.Bool.Decides.{Decides-eqb}
use Rattle.op_logic.proofs.BudgetedUnifiers.{solved-equal}
use Rattle.op_logic.proofs.laws.found_is_unifier.Goals as goal

pub returns : goal.returns
returns c = solved-equal nat_eq Decides-eqb
