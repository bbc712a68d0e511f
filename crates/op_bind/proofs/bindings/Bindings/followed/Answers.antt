use Rattle.std.proofs.Common.{subst}
use Rattle.op_logic.specs.Laws.{Acyclic}
use Rattle.op_bind.specs.State.{State, bindings}
use Rattle.op_bind.proofs.BindingsInvariant
use Rattle.op_bind.proofs.bindings.Bindings.followed.Goals as goal

pub returns-clause-acyclic : goal.returns-clause-acyclic
returns-clause-acyclic c =
    subst (λ (x : State). Acyclic (bindings x)) c.self.view_is (BindingsInvariant.acyclic _ _ _ c.self.invariant.are_bound)
