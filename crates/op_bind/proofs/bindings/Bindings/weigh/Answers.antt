use Rattle.std.proofs.Common.{◌≡◌, ℕ, List, sym, ◌∙◌, subst, refl, arith, Bool}
use Rattle.op_logic.specs.Term.{args_of}
use Rattle.op_term.specs.Places.{term_at, args_at}
use Rattle.op_bind.specs.State.{State, bindings}
use Rattle.op_logic.specs.Laws.{Acyclic}
use Rattle.op_bind.proofs.BindingsInvariant
use Rattle.op_bind.proofs.OccursCheck
use Rattle.op_bind.proofs.bindings.Bindings.weigh.Goals as goal

pub returns-in_err-spend-clause-spent : goal.returns-in_err-spend-clause-spent
returns-in_err-spend-clause-spent c = λ _.
    let s = c.args.self.now in
    let w = subst (λ (xs : List ℕ). OccursCheck.IsWeighing s c.args.v c.args.r c.args.fuel.now c.walk.fuel c.walk.found xs)
    c.in-Some.ensures.items c.walk.invariant.0 in
    OccursCheck.weighing-spent s c.args.v c.args.r c.args.fuel.now c.walk.fuel c.walk.found c.pop.new.self.items c.in-Some.next w
    (c.in_err-spend.ensures.spent.0 refl)

pub follow-at-requires : goal.follow-at-requires
follow-at-requires c =
    let s = c.args.self.now in
    let w = subst (λ (xs : List ℕ). OccursCheck.IsWeighing s c.args.v c.args.r c.args.fuel.now c.walk.fuel c.walk.found xs)
    c.in-Some.ensures.items c.walk.invariant.0 in
    OccursCheck.weighing-next s c.args.v c.args.r c.args.fuel.now c.walk.fuel c.walk.found c.pop.new.self.items c.in-Some.next w

pub walk-preserved-then-found : goal.walk-preserved-then-found
walk-preserved-then-found c =
    let s = c.args.self.now in
    let w = subst (λ (xs : List ℕ). OccursCheck.IsWeighing s c.args.v c.args.r c.args.fuel.now c.walk.fuel c.walk.found xs)
    c.in-Some.ensures.items c.walk.invariant.0 in
    let y : Acyclic (bindings s) = subst (λ (x : State). Acyclic (bindings x)) c.self.view_is
    (BindingsInvariant.acyclic _ _ _ c.self.invariant.are_bound) in
    let n = OccursCheck.weighing-var s c.args.v c.args.r c.args.fuel.now c.walk.fuel c.walk.found c.pop.new.self.items c.in-Some.next w y
    c.follow-at.result c.spend.new.self c.follow-at.ensures.value c.in_ok-spend.ensures.ok c.in-Var.w c.in-Var.ensures in (
      subst (λ (b : Bool). OccursCheck.IsWeighing s c.args.v c.args.r c.args.fuel.now c.spend.new.self b c.pop.new.self.items)
          (OccursCheck.or-then _ _ c.if-found.true) n,
      omega (arith, c.walk.invariant.1, c.in_ok-spend.ensures.ok),
    )

pub walk-preserved-else-found : goal.walk-preserved-else-found
walk-preserved-else-found c =
    let s = c.args.self.now in
    let w = subst (λ (xs : List ℕ). OccursCheck.IsWeighing s c.args.v c.args.r c.args.fuel.now c.walk.fuel c.walk.found xs)
    c.in-Some.ensures.items c.walk.invariant.0 in
    let y : Acyclic (bindings s) = subst (λ (x : State). Acyclic (bindings x)) c.self.view_is
    (BindingsInvariant.acyclic _ _ _ c.self.invariant.are_bound) in
    let n = OccursCheck.weighing-var s c.args.v c.args.r c.args.fuel.now c.walk.fuel c.walk.found c.pop.new.self.items c.in-Some.next w y
    c.follow-at.result c.spend.new.self c.follow-at.ensures.value c.in_ok-spend.ensures.ok c.in-Var.w c.in-Var.ensures in (
      subst (λ (b : Bool). OccursCheck.IsWeighing s c.args.v c.args.r c.args.fuel.now c.spend.new.self b c.pop.new.self.items)
          (OccursCheck.or-else _ _ c.if-found.false) n,
      omega (arith, c.walk.invariant.1, c.in_ok-spend.ensures.ok),
    )

pub walk-preserved : goal.walk-preserved
walk-preserved c =
    let s = c.args.self.now in
    let w = subst (λ (xs : List ℕ). OccursCheck.IsWeighing s c.args.v c.args.r c.args.fuel.now c.walk.fuel c.walk.found xs)
    c.in-Some.ensures.items c.walk.invariant.0 in
    let y : Acyclic (bindings s) = subst (λ (x : State). Acyclic (bindings x)) c.self.view_is
    (BindingsInvariant.acyclic _ _ _ c.self.invariant.are_bound) in
    let args = subst (λ (x : State). args_at x.terms c.parts.result.now ≡ args_of (term_at x.terms c.follow-at.result))
    c.self.view_is c.parts.ensures.value in
    let n = OccursCheck.weighing-other s c.args.v c.args.r c.args.fuel.now c.walk.fuel c.walk.found c.pop.new.self.items c.in-Some.next w
    y c.follow-at.result c.spend.new.self c.follow-at.ensures.value c.in_ok-spend.ensures.ok
    (λ x h. c.in_default-node_at.not-Var x (c.node_at.ensures ∙ h)) c.follow-at.ensures.there c.parts.result.now
    c.parts.ensures.below args in (
      subst (λ (xs : List ℕ). OccursCheck.IsWeighing s c.args.v c.args.r c.args.fuel.now c.spend.new.self c.walk.found xs)
          (sym c.in_ok-extend_from_slice.ensures.items) n,
      omega (arith, c.walk.invariant.1, c.in_ok-spend.ensures.ok),
    )
