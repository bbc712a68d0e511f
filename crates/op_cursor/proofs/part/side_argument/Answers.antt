use Rattle.std.proofs.Common.{◌<◌, [], sym, ◌∙◌, ap, subst, arith}
use Rattle.op_logic.specs.Term.{args_of, arity, nth_arg}
use Rattle.op_logic.specs.Names.{named, HasNames}
use Rattle.op_term.specs.Places.{term_at}
use Rattle.op_cursor.specs.declared.part.Side.{Side}
use Rattle.op_cursor.specs.inner.Parts.{side_term, HasOwnNames}
use Rattle.op_cursor.proofs.EventParts.{arity-named, nth-named, part-names}
use Rattle.op_cursor.proofs.part.side_argument.Goals as goal

pub part-requires-clause-there : goal.part-requires-clause-there
part-requires-clause-there c =
    let ts = c.args.whole.now.terms in
    let h = subst (λ (s : Side). c.args.i < arity (args_of (side_term ts [] c.args.view.now s))) c.in-Pattern.is (c.requires.there []) in
    omega (arith, h, arity-named [] (term_at ts c.in-Pattern.at))

pub argument-requires-clause-there : goal.argument-requires-clause-there
argument-requires-clause-there c =
    subst (λ (s : Side). c.args.i < arity (args_of (side_term c.args.whole.now.terms [] c.args.view.now s))) c.in-Event.is
    (c.requires.there [])

pub returns-in-Pattern-clause-names : goal.returns-in-Pattern-clause-names
returns-in-Pattern-clause-names c = λ own h.
    let ts = c.args.whole.now.terms in
    subst (HasNames own) (sym c.part.ensures.value)
    (part-names own (term_at ts c.in-Pattern.at) c.args.i (subst (HasOwnNames own ts) c.in-Pattern.is h))

pub returns-in-Pattern-clause-value : goal.returns-in-Pattern-clause-value
returns-in-Pattern-clause-value c = λ own.
    let ts = c.args.whole.now.terms in
    let v = c.args.view.now in
    let h = subst (λ (s : Side). c.args.i < arity (args_of (side_term ts own v s))) c.in-Pattern.is (c.requires.there own) in
    let l : c.args.i < arity (args_of (term_at ts c.in-Pattern.at)) = omega (arith, h, arity-named own (term_at ts c.in-Pattern.at)) in
    ap (named own) c.part.ensures.value ∙ (sym (nth-named own (term_at ts c.in-Pattern.at) c.args.i l)
    ∙ ap (λ (s : Side). nth_arg (args_of (side_term ts own v s)) c.args.i) (sym c.in-Pattern.is))
