use Rattle.std.proofs.Common.{nat_eq}
use Rattle.std.proofs.lemmas.Bool.Decides.{Decides-eqb}
use Rattle.op_logic.proofs.BudgetedUnifiers.{solved-none}
use Rattle.op_logic.proofs.laws.none_is_none.Goals as goal

pub returns : goal.returns
returns c = solved-none nat_eq Decides-eqb
