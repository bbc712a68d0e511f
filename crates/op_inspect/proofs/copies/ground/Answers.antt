use Rattle.std.proofs.Common.{ap, ◌∙◌, Ok, Err}
use Rattle.op_logic.specs.Term.{size}
use Rattle.op_term.specs.Variables.{has_no_variable}
use Rattle.op_bind.specs.State.{value_of}
use Rattle.op_inspect.specs.Answering.{decided}
use Rattle.op_inspect.specs.TypeTests.{ground_act}
use Rattle.op_inspect.specs.Outcomes.{text_at, texts_of, outcome_of}
use Rattle.op_inspect.proofs.Acting.{paid-answers, paid-fault, decided-outcome}
use Rattle.op_inspect.proofs.TextsLater.{stays-self}
use Rattle.op_inspect.proofs.Values.{ground-value}
use Rattle.op_inspect.proofs.copies.ground.Goals as goal

pub returns-in-Ok : goal.returns-in-Ok
returns-in-Ok c =
    let names = c.args.symbols.now in
    let s = c.args.bindings.now in
    let v = value_of s c.args.term.now in
    paid-answers (ground_act (text_at names s c.args.term.now) c.args.fuel.now (texts_of names s))
    (size v) (λ l. decided (has_no_variable v) (texts_of names s)) names names s s c.args.fuel.now c.is_ground.new.fuel
    c.is_ground.new.fuel (Ok c.decided.result) (λ w. ground-value names s c.args.term.now c.args.fuel.now w) c.in-Ok.ensures.paid
    (decided-outcome (has_no_variable v) c.decided.result names s c.is_ground.new.fuel
    (c.decided.ensures ∙ ap outcome_of c.in-Ok.ensures.value) c.requires.setting)

pub returns-in-Err : goal.returns-in-Err
returns-in-Err c =
    let names = c.args.symbols.now in
    let s = c.args.bindings.now in
    let v = value_of s c.args.term.now in
    paid-fault (ground_act (text_at names s c.args.term.now) c.args.fuel.now (texts_of names s))
    (size v) (λ l. decided (has_no_variable v) (texts_of names s)) names names s s c.args.fuel.now c.is_ground.new.fuel c.in-Err.fault
    (λ w. ground-value names s c.args.term.now c.args.fuel.now w) (stays-self names s) c.in-Err.ensures.falls
    (λ e. c.in-Err.ensures.spent (ap Err e))
