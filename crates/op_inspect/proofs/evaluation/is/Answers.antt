use Rattle.std.proofs.Common.{ap, Err, rules, refl, subst}
use Rattle.std.proofs.lemmas.Int.{to_z-of_z}
use Rattle.std.specs.Prelude.{ℤ, FitsSigned}
use Rattle.std.specs.Int.{w64}
use Rattle.op_logic.specs.Term.{Term, int}
use Rattle.op_trace.specs.Database.{Text}
use Rattle.op_inspect.specs.Answering.{unify_terms}
use Rattle.op_inspect.specs.Evaluation.{is_act}
use Rattle.op_inspect.specs.Outcomes.{text_at, texts_of}
use Rattle.op_inspect.specs.inner.Settings.{Makes}
use Rattle.op_inspect.proofs.Evaluating.{met, value-paid, value-goes, fault-ends}
use Rattle.op_inspect.proofs.Values.{value-known, made-unified}
use Rattle.op_inspect.proofs.evaluation.is.Goals as goal

pub evaluate-requires-clause-names : goal.evaluate-requires-clause-names
evaluate-requires-clause-names c =
    value-known c.args.symbols.now c.args.bindings.now c.args.expression.now c.requires.setting c.requires.expression

pub returns-in_ok-value-in-Ok : goal.returns-in_ok-value-in-Ok
returns-in_ok-value-in-Ok c =
    let names = c.args.symbols.now in
    let s = c.args.bindings.now in
    let t = c.make_integer.new.bindings in
    let e = c.args.expression.now in
    let left = c.args.fuel.now in
    let after = c.evaluate.new.fuel in
    let x = c.in-Ok.x in
    let r = c.in_ok-value-in-Ok.value in
    let fits : FitsSigned w64 x = search rules in
    let X : Term Text = int x in
    made-unified (is_act (text_at names s c.args.term.now) (text_at names s e) left (texts_of names s)) (met names s e left after).1 X
    names names names s t c.unify_terms.new.bindings c.args.term.now r left after c.unify_terms.new.fuel c.unify_terms.result
    (subst (λ (z : ℤ). Makes names s names t r (int z)) (to_z-of_z w64 x fits) c.in_ok-value-in-Ok.ensures.made)
    c.in_ok-value-in-Ok.ensures.stays c.requires.setting c.requires.term
    (λ w. value-goes names s e left after x c.in-Ok.ensures.ok w
    (λ z l. unify_terms (text_at names s c.args.term.now) (int z) l (texts_of names s) w w))
    (value-paid names s e left after x c.in-Ok.ensures.ok) c.unify_terms.ensures

pub returns-in-Err : goal.returns-in-Err
returns-in-Err c =
    let names = c.args.symbols.now in
    let s = c.args.bindings.now in
    let e = c.args.expression.now in
    let left = c.args.fuel.now in
    fault-ends names s e left c.evaluate.new.fuel (is_act (text_at names s c.args.term.now) (text_at names s e) left (texts_of names s))
    (λ w z l. unify_terms (text_at names s c.args.term.now) (int z) l (texts_of names s) w w) c.refuse_fault.new.symbols
    c.refuse_fault.new.bindings c.refuse_fault.new.fuel c.refuse_fault.result (λ w. refl) c.in-Err.ensures.falls c.in-Err.fault
    c.in-Err.ensures.err (λ h. c.in-Err.ensures.spent (ap Err h)) c.refuse_fault.ensures
