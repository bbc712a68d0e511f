use Rattle.std.proofs.Common.{◌≡◌, ℕ, ◌-◌, List, [], subst, arith, Bool}
use Rattle.op_term.specs.Places.{term_at}
use Rattle.op_bind.specs.State.{State, bindings}
use Rattle.op_logic.specs.Laws.{Acyclic}
use Rattle.op_bind.proofs.BindingsInvariant
use Rattle.op_bind.proofs.UnificationLoop
use Rattle.op_bind.specs.inner.Pairs.{reduction_of, reduced}
use Rattle.op_bind.proofs.bindings.Bindings.unify.Goals as goal

pub pairs-preserved : goal.pairs-preserved
pairs-preserved c =
    let s = c.args.self.now in
    let t = term_at s.terms c.args.a.now in
    let u = term_at s.terms c.args.b.now in
    let now = c.pairs.self in
    let next = c.take_pair.new.self in
    let rest = c.pop.new.self.items in
    let more = c.take_pair.new.todo.items in
    let w = subst (λ (xs : List (ℕ × ℕ)). UnificationLoop.IsUnifying s now t u c.args.fuel.now c.pairs.fuel xs)
    c.in-Some.ensures.items c.pairs.invariant in
    let reduction = subst (λ (b : Bool). reduction_of now rest c.in-Some.x c.in-Some.y ≡ reduced b next more
    (c.pairs.fuel - c.take_pair.new.fuel)) c.if-not-branch.false c.in_ok-take_pair.ensures.reduction in
    UnificationLoop.unifying-goes s now t u c.args.fuel.now c.pairs.fuel rest c.in-Some.x c.in-Some.y w next more c.take_pair.new.fuel
    c.in_ok-take_pair.ensures.paid reduction
    c.in_ok-take_pair.ensures.later c.in_ok-take_pair.ensures.todo_there

pub returns-then-not-branch-clause-none : goal.returns-then-not-branch-clause-none
returns-then-not-branch-clause-none c = λ _ θ respects same.
    let s = c.args.self.now in
    let t = term_at s.terms c.args.a.now in
    let u = term_at s.terms c.args.b.now in
    let now = c.pairs.self in
    let next = c.take_pair.new.self in
    let rest = c.pop.new.self.items in
    let more = c.take_pair.new.todo.items in
    let y : Acyclic (bindings s) = subst (λ (x : State). Acyclic (bindings x)) c.self.view_is
    (BindingsInvariant.acyclic _ _ _ c.self.invariant.are_bound) in
    let w = subst (λ (xs : List (ℕ × ℕ)). UnificationLoop.IsUnifying s now t u c.args.fuel.now c.pairs.fuel xs)
    c.in-Some.ensures.items c.pairs.invariant in
    let reduction = subst (λ (b : Bool). reduction_of now rest c.in-Some.x c.in-Some.y ≡ reduced b next more
    (c.pairs.fuel - c.take_pair.new.fuel)) c.if-not-branch.true c.in_ok-take_pair.ensures.reduction in
    let end = UnificationLoop.unifying-clashes s now t u c.args.fuel.now c.pairs.fuel rest c.in-Some.x c.in-Some.y w next more
    c.take_pair.new.fuel c.in_ok-take_pair.ensures.paid reduction in
    UnificationLoop.unified-none s t u c.args.fuel.now c.take_pair.new.fuel y end θ respects same

pub returns-clause-equal : goal.returns-clause-equal
returns-clause-equal c = λ _.
    let s = c.args.self.now in
    let t = term_at s.terms c.args.a.now in
    let u = term_at s.terms c.args.b.now in
    let now = c.pairs.self in
    let y : Acyclic (bindings s) = subst (λ (x : State). Acyclic (bindings x)) c.self.view_is
    (BindingsInvariant.acyclic _ _ _ c.self.invariant.are_bound) in
    let empty : c.pairs.todo.items ≡ [] = UnificationLoop.none-left c.pairs.todo.items
    (omega (arith, c.in_default.ensures.cases.0, c.pairs.todo.ok.0)) in
    let w = subst (λ (xs : List (ℕ × ℕ)). UnificationLoop.IsUnifying s now t u c.args.fuel.now c.pairs.fuel xs) empty c.pairs.invariant in
    UnificationLoop.unified-equal s now c.args.a.now c.args.b.now c.args.fuel.now c.pairs.fuel y w.later
    (UnificationLoop.unifying-ends s now t u c.args.fuel.now c.pairs.fuel w)
