use Rattle.std.proofs.Common.{ap, Err, rules, refl, subst}
use Rattle.std.proofs.lemmas.Int.{to_z-of_z}
use Rattle.std.specs.Prelude.{ℤ, FitsSigned}
use Rattle.std.specs.Int.{w64}
use Rattle.op_inspect.specs.Evaluation.{arithmetic_act, compared_with}
use Rattle.op_inspect.specs.Outcomes.{text_at, texts_of, Answers}
use Rattle.op_inspect.proofs.Acting.{paid-answers}
use Rattle.op_inspect.proofs.Evaluating.{met, value-paid, value-goes, fault-ends}
use Rattle.op_inspect.proofs.Values.{value-known}
use Rattle.op_inspect.proofs.evaluation.compare_values.Goals as goal

pub evaluate-requires-clause-names : goal.evaluate-requires-clause-names
evaluate-requires-clause-names c = value-known c.args.symbols.now c.args.bindings.now c.args.a.now c.requires.setting c.requires.a

pub returns-in-Ok : goal.returns-in-Ok
returns-in-Ok c =
    let names = c.args.symbols.now in
    let s = c.args.bindings.now in
    let e = c.args.a.now in
    let u = text_at names s c.args.b.now in
    let left = c.args.fuel.now in
    let after = c.evaluate.new.fuel in
    let x = c.in-Ok.x in
    let r = c.args.relation in
    let fits : FitsSigned w64 x = search rules in
    paid-answers (arithmetic_act r (text_at names s e) u left (texts_of names s)) (met names s e left after).1
    (λ l. compared_with r x u l (texts_of names s)) names c.compare_with.new.symbols s c.compare_with.new.bindings left after
    c.compare_with.new.fuel c.compare_with.result
    (λ w. value-goes names s e left after x c.in-Ok.ensures.ok w (λ z l. compared_with r z u l (texts_of names s) w))
    (value-paid names s e left after x c.in-Ok.ensures.ok)
    (subst (λ (z : ℤ). Answers (compared_with r z u after (texts_of names s)) names s after c.compare_with.result c.compare_with.new.symbols
    c.compare_with.new.bindings c.compare_with.new.fuel) (to_z-of_z w64 x fits) c.compare_with.ensures)

pub returns-in-Err : goal.returns-in-Err
returns-in-Err c =
    let names = c.args.symbols.now in
    let s = c.args.bindings.now in
    let e = c.args.a.now in
    let u = text_at names s c.args.b.now in
    let left = c.args.fuel.now in
    fault-ends names s e left c.evaluate.new.fuel (arithmetic_act c.args.relation (text_at names s e) u left (texts_of names s))
    (λ w z l. compared_with c.args.relation z u l (texts_of names s) w) c.refuse_fault.new.symbols c.refuse_fault.new.bindings
    c.refuse_fault.new.fuel c.refuse_fault.result (λ w. refl) c.in-Err.ensures.falls c.in-Err.fault c.in-Err.ensures.err
    (λ h. c.in-Err.ensures.spent (ap Err h)) c.refuse_fault.ensures
