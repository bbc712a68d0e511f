use Rattle.std.proofs.Common.{ℕ, ◌-◌, ◌≤◌, List, ◌++◌, length, reverse, Option, None, ◌∙◌, ap, arith, vec_len}
use Rattle.std.proofs.Math.ListN.{replicate}
use Rattle.op_bind.proofs.BindingsInvariant
use Rattle.op_bind.proofs.bindings.Bindings.fresh.Goals as goal

pub invariant_of-self-2 : goal.invariant_of-self-2
invariant_of-self-2 c =
    let table : List (Option ℕ) = c.self.inside.table.items in
    let n : ℕ = c.in-Some.end - vec_len c.self.inside.table in
    let over : length table ≤ c.in-Some.end = omega (arith, c.in-Some.ensures, c.self.inside.table.ok.0) in
    BindingsInvariant.sound-fresh c.self.inside.nodes (reverse c.self.inside.trail.items) table c.resize.new.self.items n c.self.invariant
    (c.in_ok-resize.ensures.items ∙ ap (λ (t : List (Option ℕ)). t ++ replicate n None)
    (BindingsInvariant.take-over c.in-Some.end table over))
