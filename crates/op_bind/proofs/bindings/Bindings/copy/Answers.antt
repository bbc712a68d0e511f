use Rattle.std.proofs.Common.{◌≡◌, ℕ, ◌∙◌, ap, subst, length, arith}
use Rattle.op_logic.specs.Bind.{Bindings, apply}
use Rattle.op_term.specs.Places.{term_at}
use Rattle.op_bind.specs.State.{State, bindings, value_of}
use Rattle.op_bind.specs.inner.Sound.{AreBound}
use Rattle.op_bind.proofs.CopiedValues.{copied-value}
use Rattle.op_bind.proofs.TermCopies.{visit-size}
use Rattle.op_bind.proofs.bindings.Bindings.copy.Goals as goal

pub add_renewed-requires : goal.add_renewed-requires
add_renewed-requires c =
    (value_of c.args.self.now c.args.r.now, c.deref.ensures.value ∙ c.in_ok-nodes.ensures.nodes)

pub returns-in-Ok-clause-added : goal.returns-in-Ok-clause-added
returns-in-Ok-clause-added c =
    omega (
      arith,
      c.in-Ok.ensures.added,
      ap length (c.deref.ensures.value ∙ c.in_ok-nodes.ensures.nodes),
      visit-size (value_of c.args.self.now c.args.r.now),
    )

pub returns-in-Ok-clause-free : goal.returns-in-Ok-clause-free
returns-in-Ok-clause-free c =
    let old : State = c.args.self.now in
    let value = c.in-Ok.ensures.value (value_of old c.args.r.now) (c.deref.ensures.value ∙ c.in_ok-nodes.ensures.nodes) in
    ap (λ (σ : Bindings ℕ). apply σ (term_at c.add_renewed.new.self.terms c.in-Ok.at)) c.in-Ok.ensures.bindings
    ∙ (ap (apply (bindings old)) value
    ∙ copied-value old.count old.terms old.bound (value_of old c.args.r.now)
    (subst (λ (x : State). AreBound x.count x.terms x.bound) c.self.view_is c.self.invariant.are_bound))
