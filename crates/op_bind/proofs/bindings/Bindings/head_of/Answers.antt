use Rattle.std.proofs.Common.{ℕ, ◌∙◌, ap, subst}
use Rattle.op_logic.specs.Bind.{follow}
use Rattle.op_term.specs.Places.{term_at}
use Rattle.op_bind.specs.State.{State, bindings}
use Rattle.op_logic.specs.Laws.{Acyclic}
use Rattle.op_bind.proofs.BindingsInvariant
use Rattle.op_bind.proofs.ValueHeads
use Rattle.op_bind.proofs.bindings.Bindings.head_of.Goals as goal

pub returns : goal.returns
returns c =
    let s = c.args.self.now in
    let y : Acyclic (bindings s) = subst (λ (x : State). Acyclic (bindings x)) c.self.view_is
    (BindingsInvariant.acyclic _ _ _ c.self.invariant.are_bound) in
    c.node_at.ensures ∙ ValueHeads.head-value (bindings s) y (term_at s.terms c.args.r.now) (term_at s.terms c.follow.result)
    (c.follow.ensures.value ∙ ap (λ (k : ℕ). follow (bindings s) (term_at s.terms k)) c.r.view_is)
