use Rattle.std.proofs.Common.{◌≡◌, ◌<◌, length, reverse}
use Rattle.op_logic.specs.Bind.{follow}
use Rattle.op_term.specs.Places.{term_at}
use Rattle.op_bind.specs.State.{resolved}
use Rattle.op_bind.proofs.BindingsInvariant
use Rattle.op_bind.proofs.bindings.Bindings.follow.Given as goal

abbrev pub decreases-chain : goal.decreases-chain
decreases-chain l = BindingsInvariant.rank (term_at l.self-inside.nodes l.at)

abbrev pub invariant-chain : goal.invariant-chain
invariant-chain l =
    (l.at < length l.self-inside.nodes)
    × (follow (resolved l.self-inside.nodes (reverse l.self-inside.trail.items)) (term_at l.self-inside.nodes l.at)
    ≡ follow (resolved l.self-inside.nodes (reverse l.self-inside.trail.items)) (term_at l.self-inside.nodes l.r))
