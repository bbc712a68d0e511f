use Rattle.std.proofs.Common.{◌≡◌, ◌+◌, ℕ, List, sym, ap, ◌∙◌, subst, arith}
use Rattle.op_logic.specs.Term.{IsWithin, shift}
use Rattle.op_logic.proofs.ShiftedTerms.{shift-none}
use Rattle.op_bind.specs.State.{State}
use Rattle.op_store.specs.declared.goals.goal.Goal.{Goal}
use Rattle.op_machine.specs.inner.Invariant.{AreValues}
use Rattle.op_machine.proofs.StartLaws.{parts-made}
use Rattle.op_machine.proofs.start.parts_of.Goals as goal

pub load-requires : goal.load-requires
load-requires c =
    let q : Goal = c.args.goal.now in
    let first : c.in_ok-first.first ≡ 0 = c.in_ok-first.ensures.number ∙ ap (λ (s : State). s.count) c.new-bindings.ensures in
    let count : c.load_atom.new.bindings.count ≡ q.vars =
    c.in_ok-failure.ensures.count ∙ (c.in_ok-values.ensures.count
    ∙ (ap (λ (s : State). s.count) c.in_ok-first.ensures.ok
    ∙ (ap (λ (s : State). s.count + q.vars) c.new-bindings.ensures ∙ omega arith))) in
    subst (λ (n : ℕ). IsWithin n (shift c.in_ok-first.first q.body)) (sym count)
    (subst (λ (k : ℕ). IsWithin q.vars (shift k q.body)) (sym first) (subst (IsWithin q.vars) (sym (shift-none q.body)) c.requires.within))

pub returns : goal.returns
returns c =
    parts-made _ c.args.goal.now c.in_ok-first.first c.new-bindings.result c.fresh.new.self c.load_values.new.bindings
    c.load_atom.new.bindings c.new-continuations.result
    c.new-bindings.ensures c.in_ok-first.ensures.number c.in_ok-first.ensures.ok c.in_ok-values.ensures.bound c.in_ok-values.ensures.count
    (subst (λ (ns : List (List ℕ × ℕ)). AreValues c.load_values.new.bindings.terms c.in_ok-values.values.items ns)
    c.in_ok-names.ensures c.in_ok-values.ensures.values)
    c.in_ok-failure.ensures.bound c.in_ok-failure.ensures.count c.in_ok-failure.ensures.grows c.in_ok-failure.ensures.there
    c.in_ok-failure.ensures.value
    c.mark-floor.ensures.mark c.in_ok-body.ensures.there c.in_ok-body.ensures.value c.in_ok-body.ensures.bound c.in_ok-body.ensures.count
    c.in_ok-body.ensures.grows
    c.new-continuations.ensures c.in_ok-items.ensures.number c.in_ok-items.ensures.ok c.in_ok-names.ensures
