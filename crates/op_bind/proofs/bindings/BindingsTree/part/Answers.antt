use Rattle.std.proofs.Common.{◌≡◌, ℕ, ◌<◌, sym, ◌∙◌, ap, subst, arith}
use Rattle.op_logic.specs.Term.{args_of, nth_arg, arity}
use Rattle.op_logic.specs.Bind.{follow, apply}
use Rattle.op_term.specs.Places.{term_at}
use Rattle.op_bind.specs.State.{State, bindings}
use Rattle.op_logic.specs.Laws.{Acyclic}
use Rattle.op_bind.proofs.BindingsInvariant
use Rattle.op_bind.proofs.ValueHeads
use Rattle.op_bind.proofs.bindings.BindingsTree.part.Goals as goal

pub part-requires-clause-there : goal.part-requires-clause-there
part-requires-clause-there c =
    let s = c.args.self.now in
    let y : Acyclic (bindings s) = subst (λ (x : State). Acyclic (bindings x)) c.self.view_is
    (BindingsInvariant.acyclic _ _ _ c.self.invariant.are_bound) in
    let f = c.follow-node.ensures.value ∙ ap (λ (k : ℕ). follow (bindings s) (term_at s.terms k)) c.at.view_is in
    let a = ValueHeads.arity-value (bindings s) y (term_at s.terms c.args.at.now) (term_at s.terms c.follow-node.result) f in
    let l : c.args.i < arity (args_of (term_at s.terms c.follow-node.result)) = omega (arith, c.requires.there) in
    subst (λ (x : State). c.args.i < arity (args_of (term_at x.terms c.follow-node.result))) (sym c.self.view_is) l

pub returns-clause-value : goal.returns-clause-value
returns-clause-value c =
    let s = c.args.self.now in
    let y : Acyclic (bindings s) = subst (λ (x : State). Acyclic (bindings x)) c.self.view_is
    (BindingsInvariant.acyclic _ _ _ c.self.invariant.are_bound) in
    let f = c.follow-node.ensures.value ∙ ap (λ (k : ℕ). follow (bindings s) (term_at s.terms k)) c.at.view_is in
    let a = ValueHeads.arity-value (bindings s) y (term_at s.terms c.args.at.now) (term_at s.terms c.follow-node.result) f in
    let l : c.args.i < arity (args_of (term_at s.terms c.follow-node.result)) = omega (arith, c.requires.there) in
    let n = ValueHeads.nth-value (bindings s) y (term_at s.terms c.args.at.now) (term_at s.terms c.follow-node.result) f c.args.i l in
    let p = subst (λ (x : State). term_at x.terms c.part.result ≡ nth_arg (args_of (term_at x.terms c.follow-node.result)) c.args.i)
    c.self.view_is c.part.ensures.value in
    ap (apply (bindings s)) p ∙ sym n
