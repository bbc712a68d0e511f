use Rattle.std.proofs.Common.{ap, ◌∙◌, Ok, Err}
use Rattle.op_logic.specs.Names.{named}
use Rattle.op_term.specs.Order.{standard_order, pairs_compared}
use Rattle.op_bind.specs.State.{value_of}
use Rattle.op_inspect.specs.Answering.{decided}
use Rattle.op_inspect.specs.Comparison.{holds, order_act}
use Rattle.op_inspect.specs.Outcomes.{text_at, texts_of, outcome_of}
use Rattle.op_inspect.proofs.Acting.{paid-answers, paid-fault, decided-outcome}
use Rattle.op_inspect.proofs.TextsLater.{stays-self}
use Rattle.op_inspect.proofs.Values.{value-known, compared-value}
use Rattle.op_inspect.proofs.comparison.order.Goals as goal

pub compare-requires-clause-a_named : goal.compare-requires-clause-a_named
compare-requires-clause-a_named c = value-known c.args.symbols.now c.args.bindings.now c.args.a.now c.requires.setting c.requires.a

pub compare-requires-clause-b_named : goal.compare-requires-clause-b_named
compare-requires-clause-b_named c = value-known c.args.symbols.now c.args.bindings.now c.args.b.now c.requires.setting c.requires.b

pub returns-in-Ok : goal.returns-in-Ok
returns-in-Ok c =
    let names = c.args.symbols.now in
    let s = c.args.bindings.now in
    let x = named names (value_of s c.args.a.now) in
    let y = named names (value_of s c.args.b.now) in
    let r = c.args.relation in
    paid-answers (order_act r (text_at names s c.args.a.now) (text_at names s c.args.b.now) c.args.fuel.now (texts_of names s))
    (pairs_compared x y) (λ l. decided (holds r (standard_order x y)) (texts_of names s)) names names s s c.args.fuel.now c.compare.new.fuel
    c.compare.new.fuel (Ok c.decided.result)
    (λ w. compared-value names s c.args.a.now c.args.b.now c.args.fuel.now w (λ o l. decided (holds r o) (texts_of names s) w))
    c.in-Ok.ensures.paid
    (decided-outcome (holds r (standard_order x y)) c.decided.result names s c.compare.new.fuel
    (c.decided.ensures ∙ ap outcome_of (c.holds.ensures ∙ ap (holds r) c.in-Ok.ensures.value)) c.requires.setting)

pub returns-in-Err : goal.returns-in-Err
returns-in-Err c =
    let names = c.args.symbols.now in
    let s = c.args.bindings.now in
    let x = named names (value_of s c.args.a.now) in
    let y = named names (value_of s c.args.b.now) in
    let r = c.args.relation in
    paid-fault (order_act r (text_at names s c.args.a.now) (text_at names s c.args.b.now) c.args.fuel.now (texts_of names s))
    (pairs_compared x y) (λ l. decided (holds r (standard_order x y)) (texts_of names s)) names names s s c.args.fuel.now c.compare.new.fuel
    c.in-Err.fault
    (λ w. compared-value names s c.args.a.now c.args.b.now c.args.fuel.now w (λ o l. decided (holds r o) (texts_of names s) w))
    (stays-self names s) c.in-Err.ensures.falls (λ e. c.in-Err.ensures.spent (ap Err e))
