use Rattle.std.proofs.Common.{ap, ◌∙◌, Ok, Err, rules}
use Rattle.std.proofs.lemmas.Int.{to_z-of_z}
use Rattle.std.specs.Prelude.{ℤ, FitsSigned}
use Rattle.std.specs.Ordering.{int_cmp}
use Rattle.std.specs.Int.{w64}
use mir.Val.{to_z, of_z}
use Rattle.op_inspect.specs.Answering.{decided}
use Rattle.op_inspect.specs.Comparison.{holds}
use Rattle.op_inspect.specs.Evaluation.{compared_with}
use Rattle.op_inspect.specs.Outcomes.{text_at, texts_of, outcome_of}
use Rattle.op_inspect.proofs.Acting.{paid-answers, decided-outcome}
use Rattle.op_inspect.proofs.Evaluating.{met, value-paid, value-goes, fault-ends}
use Rattle.op_inspect.proofs.Values.{value-known}
use Rattle.std.proofs.Common.{refl}
use Rattle.op_inspect.proofs.evaluation.compare_with.Goals as goal

pub evaluate-requires-clause-names : goal.evaluate-requires-clause-names
evaluate-requires-clause-names c =
    value-known c.args.symbols.now c.args.bindings.now c.args.expression.now c.requires.setting c.requires.expression

pub returns-in-Ok : goal.returns-in-Ok
returns-in-Ok c =
    let names = c.args.symbols.now in
    let s = c.args.bindings.now in
    let e = c.args.expression.now in
    let left = c.args.fuel.now in
    let after = c.evaluate.new.fuel in
    let y = c.in-Ok.y in
    let fits : FitsSigned w64 y = search rules in
    let b = holds c.args.relation (int_cmp c.args.x y) in
    paid-answers (compared_with c.args.relation c.args.x (text_at names s e) left (texts_of names s)) (met names s e left after).1
    (λ l. decided b (texts_of names s)) names names s s left after after (Ok c.decided.result)
    (λ w. value-goes names s e left after y c.in-Ok.ensures.ok w (λ z l. decided (holds c.args.relation (int_cmp c.args.x z))
    (texts_of names s) w))
    (value-paid names s e left after y c.in-Ok.ensures.ok)
    (decided-outcome b c.decided.result names s after
    (c.decided.ensures ∙ ap outcome_of (c.holds.ensures ∙ ap (holds c.args.relation) (c.cmp.ensures
    ∙ (ap (λ (z : ℤ). int_cmp z (to_z w64 (of_z w64 y))) (to_z-of_z w64 c.args.x c.ranges.x) ∙ ap (λ (z : ℤ). int_cmp c.args.x z)
    (to_z-of_z w64 y fits)))))
    c.requires.setting)

pub returns-in-Err : goal.returns-in-Err
returns-in-Err c =
    let names = c.args.symbols.now in
    let s = c.args.bindings.now in
    let e = c.args.expression.now in
    let left = c.args.fuel.now in
    fault-ends names s e left c.evaluate.new.fuel
    (compared_with c.args.relation c.args.x (text_at names s e) left (texts_of names s))
    (λ w z l. decided (holds c.args.relation (int_cmp c.args.x z)) (texts_of names s) w) c.refuse_fault.new.symbols
    c.refuse_fault.new.bindings
    c.refuse_fault.new.fuel c.refuse_fault.result (λ w. refl) c.in-Err.ensures.falls c.in-Err.fault c.in-Err.ensures.err
    (λ h. c.in-Err.ensures.spent (ap Err h)) c.refuse_fault.ensures
