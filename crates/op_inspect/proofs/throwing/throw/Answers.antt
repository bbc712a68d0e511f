use Rattle.std.proofs.Common.{◌+◌, ap, ◌∙◌, Err, length}
use Rattle.op_logic.specs.Term.{size}
use Rattle.op_logic.specs.Names.{named}
use Rattle.op_term.specs.Variables.{distinct_variables}
use Rattle.op_bind.specs.State.{value_of}
use Rattle.op_bind.specs.Copied as copies
use Rattle.op_trace.specs.Act.{Throws, done}
use Rattle.op_trace.specs.Builtins.{throw as the_throw}
use Rattle.op_inspect.specs.Outcomes.{text_at, texts_of}
use Rattle.op_inspect.proofs.Acting.{paid-fault}
use Rattle.op_inspect.proofs.TextsLater.{stays-self}
use Rattle.op_inspect.proofs.Values.{thrown-answers, throw-value}
use Rattle.op_inspect.proofs.throwing.throw.Goals as goal

pub returns-in_ok-resolve-in-Ok : goal.returns-in_ok-resolve-in-Ok
returns-in_ok-resolve-in-Ok c =
    thrown-answers c.args.symbols.now c.args.bindings.now c.args.ball.now c.copy.new.self c.args.fuel.now c.copy.new.fuel
    c.in_ok-resolve-in-Ok.field-0 c.requires.setting c.requires.ball c.in-Ok.ensures.grows c.in-Ok.ensures.count
    (c.in_ok-resolve-in-Ok.ensures ∙ c.in-Ok.ensures.free) c.in-Ok.ensures.paid

pub returns-in-Err : goal.returns-in-Err
returns-in-Err c =
    let names = c.args.symbols.now in
    let s = c.args.bindings.now in
    let v = value_of s c.args.ball.now in
    paid-fault (the_throw c.args.fuel.now (texts_of names s) (text_at names s c.args.ball.now)) (size v)
    (λ l w. done (record w { variables = w.variables + length (distinct_variables v) })
    (Throws (named names (copies.copied w.variables v)))) names names s c.copy.new.self c.args.fuel.now c.copy.new.fuel c.in-Err.fault
    (λ w. throw-value names s c.args.ball.now c.args.fuel.now w)
    (record { kept = (stays-self names s).kept; grows = c.in-Err.ensures.grows }) c.in-Err.ensures.falls
    (λ e. c.in-Err.ensures.spent (ap Err e))
