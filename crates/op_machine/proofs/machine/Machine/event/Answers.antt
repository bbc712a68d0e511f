use Rattle.std.proofs.Common.{rules, ◌≡◌, List, ℕ, length, sym, subst}
use Rattle.op_logic.specs.Names.{HasNames}
use Rattle.op_logic.proofs.UnifierNames.{apply-names}
use Rattle.op_bind.specs.State.{value_of}
use Rattle.op_machine.specs.declared.turn.Last.{Last}
use Rattle.op_machine.specs.declared.turn.Last.TheVariants as last
use Rattle.op_machine.specs.inner.Invariant.{IsSeen}
use Rattle.op_machine.specs.Machine.{CanLook}
use Rattle.op_machine.proofs.machine.Machine.event.Goals as goal

pub new-requires-clause-names : goal.new-requires-clause-names
new-requires-clause-names c =
    let core = c.self.inside.core in
    let facts = c.self.invariant c.if-self.false in
    let event : c.self.inside.last ≡ last.Event = search rules in
    let seen : IsSeen core = subst (λ (l : Last). CanLook l core) event facts.1 in
    subst (λ (names : List (List ℕ)). HasNames (length names) (value_of core.bindings core.seen.goal)) (sym c.symbols.ensures.names)
    (apply-names _ _ _ facts.0.good.level.bound seen.1)
