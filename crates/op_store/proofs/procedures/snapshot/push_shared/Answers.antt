use Rattle.std.proofs.Common.{ap, ◌∙◌}
use Rattle.op_store.proofs.SharedClauses.{values, same-values, push-values, on-err}
use Rattle.op_store.proofs.procedures.snapshot.push_shared.Goals as goal

pub returns-clause-ok : goal.returns-clause-ok
returns-clause-ok c =
    let e = c.make_mut.follows.holds c.push.new.self (rw c.in_ok-own.was) in
    ap (λ (v : _). values v.items) e
    ∙ push-values c.args.list.now.value c.in_ok-own.own.now c.push.new.self c.args.clause _ c.in_ok-own.ensures.value
    c.in_ok-push.ensures.items

pub returns-in_err-own-clause-err : goal.returns-in_err-own-clause-err
returns-in_err-own-clause-err c =
    let h = rw c.in_err-own.was at c.make_mut.follows.holds-at-none in
    on-err c.from_residual.result (same-values c.args.list.now.value c.make_mut.follows.lender-at-none.value _ h)

pub returns-in_err-push-clause-err : goal.returns-in_err-push-clause-err
returns-in_err-push-clause-err c =
    let e = c.make_mut.follows.holds c.push.new.self (rw c.in_ok-own.was) in
    on-err c.from_residual-in_err-push.result
    (ap (λ (v : _). values v.items) e ∙ (ap values c.in_err-push.ensures.items
    ∙ same-values c.args.list.now.value c.in_ok-own.own.now _ c.in_ok-own.ensures.value))
