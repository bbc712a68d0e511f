use Rattle.std.proofs.Common.{◌≡◌, length, reverse, subst, arith}
use Rattle.std.proofs.lemmas.List.{length-reverse}
use Rattle.op_bind.specs.State.{Marked, State, IsGoodMark}
use Rattle.op_bind.proofs.BindingsInvariant
use Rattle.op_bind.proofs.bindings.Bindings.mark.Goals as goal

pub returns-clause-good : goal.returns-clause-good
returns-clause-good c =
    let bound = reverse c.self.inside.trail.items in
    let l : c.len-2.result ≡ length bound = omega (arith, c.self.inside.trail.ok.0, length-reverse c.self.inside.trail.items) in
    let s : State = record { terms = c.self.inside.nodes; bound = bound; count = length c.self.inside.table.items } in
    let r = BindingsInvariant.refs-there (length c.self.inside.table.items) c.self.inside.nodes bound c.self.invariant.are_bound in
    let m : Marked = record { terms = c.len.result; bound = c.len-2.result } in
    subst (λ (x : State). IsGoodMark x m) c.self.view_is (BindingsInvariant.mark-good s m c.len.ensures l r)
