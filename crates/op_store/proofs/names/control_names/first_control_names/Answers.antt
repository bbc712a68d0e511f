use Rattle.std.proofs.Common.{refl}
use Rattle.op_store.proofs.FirstNames.{first-control}
use Rattle.op_store.proofs.names.control_names.first_control_names.Goals as goal

pub returns : goal.returns
returns c = λ names b. first-control names _ b refl refl refl refl
