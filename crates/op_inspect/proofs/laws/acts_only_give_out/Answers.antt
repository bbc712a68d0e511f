use Rattle.op_inspect.proofs.TermActs.{gives-after, gives-interrupted, still-interrupted}
use Rattle.op_inspect.proofs.laws.acts_only_give_out.Goals as goal

pub returns-clause-after : goal.returns-clause-after
returns-clause-after c = λ left g σ w. gives-after left g σ w

pub returns-clause-interrupted : goal.returns-clause-interrupted
returns-clause-interrupted c = λ left g σ w. gives-interrupted left g σ w

pub returns-clause-still : goal.returns-clause-still
returns-clause-still c = λ left g σ w short. still-interrupted left g σ w short
