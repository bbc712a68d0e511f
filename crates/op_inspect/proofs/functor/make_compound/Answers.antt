use Rattle.std.proofs.Common.{◌≡◌, ℕ, ◌+◌, ap, ◌∙◌, arith}
use Rattle.op_logic.specs.Term.{node, shift}
use Rattle.op_term.specs.Places.{term_at}
use Rattle.op_bind.specs.State.{State}
use Rattle.op_bind.proofs.StateGrowth.{grows-grows}
use Rattle.op_inspect.specs.Construction.{variables_from}
use Rattle.op_inspect.proofs.MakingFunctors.{skeleton-shift, skeleton-within}
use Rattle.op_inspect.proofs.MakingTerms.{ok-then}
use Rattle.op_inspect.proofs.functor.make_compound.Goals as goal

pub load-requires : goal.load-requires
load-requires c =
    let s = c.args.bindings.now in
    let t = c.fresh.new.self in
    let count : t.count ≡ s.count + c.args.count = ap (λ (x : State). x.count) c.in_ok-first.ensures.ok in
    skeleton-within c.in_ok-first.first c.args.name.0 c.args.count t.count c.in_ok-term.term c.in_ok-term.ensures
    (omega (arith, count, c.in_ok-first.ensures.number))

pub returns-clause-value : goal.returns-clause-value
returns-clause-value c =
    let s = c.args.bindings.now in
    let u = c.load.new.self in
    let name = c.args.name.0 in
    let first = c.in_ok-first.first in
    ok-then c.load.result (λ r. term_at u.terms r ≡ shift first c.in_ok-term.term)
    (λ r. term_at u.terms r ≡ node name (variables_from s.count c.args.count)) c.load.ensures.value
    (λ r e. e ∙ (skeleton-shift first name c.args.count c.in_ok-term.term c.in_ok-term.ensures
    ∙ ap (λ (k : ℕ). node name (variables_from k c.args.count)) c.in_ok-first.ensures.number))

pub returns-clause-grows : goal.returns-clause-grows
returns-clause-grows c =
    grows-grows c.args.bindings.now c.fresh.new.self c.load.new.self c.in_ok-first.ensures.grows c.load.ensures.grows
