use Rattle.std.proofs.Common.{◌≡◌, ◌<◌, length, reverse, sym, ◌∙◌, subst, arith}
use Rattle.op_logic.specs.Bind.{follow}
use Rattle.op_term.specs.Places.{term_at}
use Rattle.op_bind.specs.State.{State, bindings}
use Rattle.op_bind.proofs.BindingsInvariant
use Rattle.op_bind.proofs.bindings.Bindings.follow.Goals as goal

pub returns-in_default : goal.returns-in_default
returns-in_default c =
    let e = BindingsInvariant.chain-other c.self.inside.nodes (reverse c.self.inside.trail.items) c.self.inside.table.items
    c.self.invariant c.chain.at c.chain.invariant.0 c.node.result c.node.ensures c.in_default.not-Var in
    record {
      there = subst (λ (s : State). c.chain.at < length s.terms) c.self.view_is c.chain.invariant.0;
      value = subst (λ (s : State). term_at s.terms c.chain.at ≡ follow (bindings s) (term_at s.terms c.args.r)) c.self.view_is
          (e ∙ c.chain.invariant.1);
    }

pub index-requires : goal.index-requires
index-requires c =
    let l = BindingsInvariant.chain-index c.self.inside.nodes (reverse c.self.inside.trail.items) c.self.inside.table.items
    c.self.invariant c.chain.at c.chain.invariant.0 c.in-Var.v c.in-Var.ensures in
    omega (arith, c.self.inside.table.ok.0)

pub returns-in_default-index-clause-value : goal.returns-in_default-index-clause-value
returns-in_default-index-clause-value c =
    let e = BindingsInvariant.chain-free c.self.inside.nodes (reverse c.self.inside.trail.items) c.self.inside.table.items
    c.self.invariant c.chain.at c.chain.invariant.0 c.in-Var.v c.index.result.now c.in-Var.ensures (sym c.in_default-index.is
    ∙ c.index.ensures) in
    subst (λ (s : State). term_at s.terms c.chain.at ≡ follow (bindings s) (term_at s.terms c.args.r)) c.self.view_is
    (e ∙ c.chain.invariant.1)

pub chain-smaller : goal.chain-smaller
chain-smaller c =
    let n = BindingsInvariant.chain-next c.self.inside.nodes (reverse c.self.inside.trail.items) c.self.inside.table.items
    c.self.invariant c.chain.at c.chain.invariant.0 c.in-Var.v c.in-Some.next c.index.result.now c.in-Var.ensures
    (sym c.in-Some.is ∙ c.index.ensures) in
    n.falls

pub chain-preserved : goal.chain-preserved
chain-preserved c =
    let n = BindingsInvariant.chain-next c.self.inside.nodes (reverse c.self.inside.trail.items) c.self.inside.table.items
    c.self.invariant c.chain.at c.chain.invariant.0 c.in-Var.v c.in-Some.next c.index.result.now c.in-Var.ensures
    (sym c.in-Some.is ∙ c.index.ensures) in
    (n.within, n.same ∙ c.chain.invariant.1)
