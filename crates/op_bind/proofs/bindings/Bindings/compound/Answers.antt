use Rattle.std.proofs.Common.{◌≡◌, ℕ, ◌<◌, List, [], ◌∷◌, length, take, reverse, All, sym, ◌∙◌, ap, subst, arith}
use Rattle.op_logic.specs.Term.{Term, node}
use Rattle.op_term.specs.Places.{args_at}
use Rattle.op_bind.specs.State.{State, bindings}
use Rattle.op_bind.specs.inner.Sound.{IsSound}
use Rattle.op_bind.proofs.BindingsInvariant
use Rattle.op_bind.proofs.bindings.Bindings.compound.Goals as goal

pub invariant_of-self-2 : goal.invariant_of-self-2
invariant_of-self-2 c =
    let ts = c.self.inside.nodes in
    let n = length c.self.inside.table.items in
    let args = c.args.args.now in
    let kept : c.loop-r.parts.items ≡ take c.loop-r.r-index args = c.loop-r.invariant in
    let same : c.deref.result.now ≡ args = c.deref.ensures.value
    ∙ (kept ∙ BindingsInvariant.take-over c.loop-r.r-index args (omega arith)) in
    let there = subst (λ (s : State). All (λ r. r < length s.terms) args) (sym c.self.view_is) c.requires.there in
    let here = subst (λ (q : List ℕ). All (λ r. r < length ts) q) (sym same) there in
    subst (λ (us : List (Term ℕ)). IsSound us (reverse c.self.inside.trail.items) c.self.inside.table.items) (sym c.in_ok-at.ensures.ok)
    (BindingsInvariant.sound-append ts (node c.args.name.0 (args_at ts c.deref.result.now) ∷ [])
    (reverse c.self.inside.trail.items) c.self.inside.table.items c.self.invariant
    (BindingsInvariant.args-within n ts c.self.invariant.within c.deref.result.now here, tt))

pub returns-clause-bindings : goal.returns-clause-bindings
returns-clause-bindings c =
    BindingsInvariant.bindings-kept (length c.self.inside.table.items) c.self.inside.nodes _ c.compound.new.self
    (reverse c.self.inside.trail.items) c.self.invariant.are_bound c.in_ok-at.ensures.ok
    ∙ ap bindings c.self.view_is
