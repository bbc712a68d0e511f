use Rattle.std.proofs.Common.{◌≡◌, ℕ, ◌-◌, List, length, Option, ◌∙◌, ap, subst, refl, arith}
use Rattle.op_logic.specs.Term.{args_of}
use Rattle.op_term.specs.Places.{term_at, args_at}
use Rattle.op_term.specs.Head.{head}
use Rattle.op_bind.specs.State.{State}
use Rattle.op_bind.specs.inner.Sound.{IsSound}
use Rattle.op_bind.proofs.ReductionLaws
use Rattle.op_bind.specs.inner.Pairs.{step_of}
use Rattle.op_bind.proofs.bindings.Bindings.take_pair.Goals as goal

pub bind_checked-requires-clause-given_out : goal.bind_checked-requires-clause-given_out
bind_checked-requires-clause-given_out c =
    let s = c.args.self.now in
    let table : List (Option ℕ) = c.self.inside.table.items in
    let sound = subst (λ (z : State). IsSound z.terms z.bound table) c.self.view_is c.self.invariant in
    let count = subst (λ (z : State). z.count ≡ length table) c.self.view_is refl in
    let is = c.in-Bind.ensures ∙ (ap (λ n. step_of n c.node_at-2.result c.follow-x.result c.follow-y.result) c.node_at.ensures
    ∙ ap (λ n. step_of (head (term_at s.terms c.follow-x.result)) n c.follow-x.result c.follow-y.result) c.node_at-2.ensures) in
    (ReductionLaws.bind-allowed s table sound count c.args.a c.args.b c.follow-x.result c.follow-y.result c.follow-x.ensures.there
    c.follow-y.ensures.there c.follow-x.ensures.value c.follow-y.ensures.value c.in-Bind.v c.in-Bind.r is).0

pub bind_checked-requires-clause-free : goal.bind_checked-requires-clause-free
bind_checked-requires-clause-free c =
    let s = c.args.self.now in
    let table : List (Option ℕ) = c.self.inside.table.items in
    let sound = subst (λ (z : State). IsSound z.terms z.bound table) c.self.view_is c.self.invariant in
    let count = subst (λ (z : State). z.count ≡ length table) c.self.view_is refl in
    let is = c.in-Bind.ensures ∙ (ap (λ n. step_of n c.node_at-2.result c.follow-x.result c.follow-y.result) c.node_at.ensures
    ∙ ap (λ n. step_of (head (term_at s.terms c.follow-x.result)) n c.follow-x.result c.follow-y.result) c.node_at-2.ensures) in
    (ReductionLaws.bind-allowed s table sound count c.args.a c.args.b c.follow-x.result c.follow-y.result c.follow-x.ensures.there
    c.follow-y.ensures.there c.follow-x.ensures.value c.follow-y.ensures.value c.in-Bind.v c.in-Bind.r is).1

pub push_pairs-requires : goal.push_pairs-requires
push_pairs-requires c =
    let s = c.args.self.now in
    let is = c.in-Parts.ensures ∙ (ap (λ n. step_of n c.node_at-2.result c.follow-x.result c.follow-y.result) c.node_at.ensures
    ∙ ap (λ n. step_of (head (term_at s.terms c.follow-x.result)) n c.follow-x.result c.follow-y.result) c.node_at-2.ensures) in
    let args_x = subst (λ (z : State). args_at z.terms c.parts.result.now ≡ args_of (term_at z.terms c.follow-x.result))
    c.self.view_is c.parts.ensures.value in
    let args_y = subst (λ (z : State). args_at z.terms c.parts-in-Parts.result.now ≡ args_of (term_at z.terms c.follow-y.result))
    c.self.view_is c.parts-in-Parts.ensures.value in
    ReductionLaws.parts-alike s c.args.a c.args.b c.follow-x.result c.follow-y.result c.follow-x.ensures.value c.follow-y.ensures.value is
    c.parts.result.now c.parts-in-Parts.result.now args_x args_y

pub returns-in-Parts-clause-reduction : goal.returns-in-Parts-clause-reduction
returns-in-Parts-clause-reduction c =
    let s = c.args.self.now in
    let is = c.in-Parts.ensures ∙ (ap (λ n. step_of n c.node_at-2.result c.follow-x.result c.follow-y.result) c.node_at.ensures
    ∙ ap (λ n. step_of (head (term_at s.terms c.follow-x.result)) n c.follow-x.result c.follow-y.result) c.node_at-2.ensures) in
    let args_x = subst (λ (z : State). args_at z.terms c.parts.result.now ≡ args_of (term_at z.terms c.follow-x.result))
    c.self.view_is c.parts.ensures.value in
    let args_y = subst (λ (z : State). args_at z.terms c.parts-in-Parts.result.now ≡ args_of (term_at z.terms c.follow-y.result))
    c.self.view_is c.parts-in-Parts.ensures.value in
    let one : c.args.fuel.now - c.spend.new.self ≡ 1 = omega (arith, c.in_ok-spend.ensures.ok) in
    ReductionLaws.parts-reduction s c.args.a c.args.b c.follow-x.result c.follow-y.result c.follow-x.ensures.value
    c.follow-y.ensures.value is c.parts.result.now c.parts-in-Parts.result.now args_x args_y
    c.args.todo.now.items c.push_pairs.new.todo.items (c.args.fuel.now - c.spend.new.self) c.in_ok-push_pairs-in-Parts.ensures.ok one

pub returns-in-Parts-clause-todo_there : goal.returns-in-Parts-clause-todo_there
returns-in-Parts-clause-todo_there c =
    let s = c.args.self.now in
    ReductionLaws.parts-there (length s.terms) c.follow-x.result c.follow-y.result c.follow-x.ensures.there c.follow-y.ensures.there
    c.parts.result.now c.parts-in-Parts.result.now c.parts.ensures.below c.parts-in-Parts.ensures.below
    c.args.todo.now.items c.push_pairs.new.todo.items c.requires.todo_there c.in_ok-push_pairs-in-Parts.ensures.ok
