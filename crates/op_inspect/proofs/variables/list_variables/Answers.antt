use Rattle.std.proofs.Common.{ap, Err}
use Rattle.op_logic.specs.Term.{size}
use Rattle.op_term.specs.Variables.{distinct_variables}
use Rattle.op_bind.specs.State.{value_of}
use Rattle.op_inspect.specs.Answering.{unify_terms}
use Rattle.op_inspect.specs.Copies.{variables_as, variables_listed}
use Rattle.op_inspect.specs.Lists.{list_of}
use Rattle.op_inspect.specs.Outcomes.{text_at, texts_of}
use Rattle.op_inspect.proofs.Acting.{paid-answers, paid-fault}
use Rattle.op_inspect.proofs.TextsLater.{stays-self}
use Rattle.op_inspect.proofs.Values.{variables-value}
use Rattle.op_inspect.proofs.variables.list_variables.Goals as goal

pub returns-in-Ok : goal.returns-in-Ok
returns-in-Ok c =
    let names = c.args.symbols.now in
    let s = c.args.bindings.now in
    let v = value_of s c.args.term.now in
    let l = text_at names s c.args.list.now in
    paid-answers (variables_listed (text_at names s c.args.term.now) l c.args.fuel.now (texts_of names s)) (size v)
    (λ k w. unify_terms l (list_of (variables_as (distinct_variables v))) k (texts_of names s) w w) names c.unify_variables.new.symbols s
    c.unify_variables.new.bindings c.args.fuel.now c.size.new.fuel c.unify_variables.new.fuel c.unify_variables.result
    (λ w. variables-value names s c.args.term.now c.args.fuel.now l w) c.in-Ok.ensures.paid c.unify_variables.ensures

pub returns-in-Err : goal.returns-in-Err
returns-in-Err c =
    let names = c.args.symbols.now in
    let s = c.args.bindings.now in
    let v = value_of s c.args.term.now in
    let l = text_at names s c.args.list.now in
    paid-fault (variables_listed (text_at names s c.args.term.now) l c.args.fuel.now (texts_of names s)) (size v)
    (λ k w. unify_terms l (list_of (variables_as (distinct_variables v))) k (texts_of names s) w w) names names s s
    c.args.fuel.now c.size.new.fuel c.in-Err.fault (λ w. variables-value names s c.args.term.now c.args.fuel.now l w)
    (stays-self names s) c.in-Err.ensures.falls (λ e. c.in-Err.ensures.spent (ap Err e))
