use Rattle.std.proofs.Common.{ℕ, ◌<◌, ◌≤◌, List, length, reverse, All, sym, subst}
use Rattle.op_logic.specs.Term.{Term}
use Rattle.op_bind.specs.State.{State}
use Rattle.op_bind.specs.inner.Sound.{IsSound}
use Rattle.op_bind.proofs.BindingsInvariant
use Rattle.op_bind.proofs.bindings.Bindings.cut.Goals as goal

pub invariant_of-self : goal.invariant_of-self
invariant_of-self c =
    let n = c.args.n in
    let l = subst (λ (s : State). n ≤ length s.terms) (sym c.self.view_is) c.requires.there in
    let b = subst (λ (s : State). All (λ p. p.1 < n) s.bound) (sym c.self.view_is) c.requires.below in
    subst (λ (ts : List (Term ℕ)). IsSound ts (reverse c.self.inside.trail.items) c.self.inside.table.items) (sym c.cut.ensures)
    (BindingsInvariant.sound-cut c.self.inside.nodes (reverse c.self.inside.trail.items) c.self.inside.table.items n c.self.invariant l b)
