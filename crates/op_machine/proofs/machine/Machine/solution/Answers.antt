use Rattle.std.proofs.Common.{ℕ, List, sym, subst}
use Rattle.op_machine.specs.inner.Invariant.{AreValues}
use Rattle.op_machine.proofs.NamedVariables.{values-all}
use Rattle.op_machine.proofs.machine.Machine.solution.Goals as goal

pub new-requires-clause-known : goal.new-requires-clause-known
new-requires-clause-known c =
    let core = c.self.inside.core in
    let sound = c.self.invariant c.if-self.false in
    subst (λ (rs : List ℕ). AreValues core.bindings.terms rs core.names) (sym c.deref.ensures.value)
    (values-all core.bindings.terms core.floor.terms core.values.items core.names sound.0.good.level.floor_there sound.0.good.values)
