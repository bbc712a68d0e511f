use Rattle.std.proofs.Common.{◌≡◌, ℕ, List, ◌∷◌, reverse, ◌∙◌, ap, subst, refl}
use Rattle.op_bind.specs.inner.Sound.{IsSound}
use Rattle.op_bind.proofs.BindingsInvariant
use Rattle.op_bind.proofs.bindings.Bindings.unbind.Goals as goal

pub invariant_of-self : goal.invariant_of-self
invariant_of-self c =
    let rest = reverse c.pop.new.self.items in
    let p : ℕ × ℕ = (c.in-Some.v, c.in-Some.field-0-1) in
    let e : reverse c.self.inside.trail.items ≡ p ∷ rest = ap reverse c.in-Some.ensures.items
    ∙ BindingsInvariant.reverse-push c.pop.new.self.items p in
    BindingsInvariant.sound-unbind c.self.inside.nodes p rest c.self.inside.table.items _
    (subst (λ (ps : List (ℕ × ℕ)). IsSound c.self.inside.nodes ps c.self.inside.table.items) e c.self.invariant) refl
