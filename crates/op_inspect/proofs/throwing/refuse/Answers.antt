use Rattle.std.proofs.Common.{ap, ◌∙◌, sym}
use Rattle.op_logic.specs.Bind.{Bindings}
use Rattle.op_logic.specs.Term.{Term}
use Rattle.op_trace.specs.Database.{Text}
use Rattle.op_trace.specs.Builtins.{throw as the_throw}
use Rattle.op_inspect.specs.Outcomes.{text_at, texts_of}
use Rattle.op_inspect.specs.inner.Problems.{problem_text}
use Rattle.op_inspect.proofs.Acting.{made-answers}
use Rattle.op_inspect.proofs.TextsLater.{setting-later, texts-later}
use Rattle.op_inspect.proofs.throwing.refuse.Goals as goal

pub throw-requires-clause-setting : goal.throw-requires-clause-setting
throw-requires-clause-setting c =
    setting-later c.args.symbols.now c.make_ball.new.symbols c.args.bindings.now c.make_ball.new.bindings c.in_ok-ball.ensures.stays
    c.in_ok-ball.ensures.made.bound c.requires.setting

pub returns : goal.returns
returns c =
    let a = c.args.symbols.now in
    let s = c.args.bindings.now in
    let b = c.make_ball.new.symbols in
    let t = c.make_ball.new.bindings in
    let left = c.args.fuel.now in
    let p = problem_text a s c.args.problem in
    let made = c.in_ok-ball.ensures.made in
    made-answers (the_throw left (texts_of a s) p) (the_throw left (texts_of b t)
    (text_at b t c.in_ok-ball.ball)) a b b s t c.throw.new.bindings
    left c.throw.new.fuel c.throw.result c.in_ok-ball.ensures.stays made.count
    (λ w. ap (λ (σ : Bindings Text). the_throw left σ p w) (sym (texts-later a b s t c.in_ok-ball.ensures.stays made.bound
    c.requires.setting))
    ∙ ap (λ (x : Term Text). the_throw left (texts_of b t) x w) (sym made.text))
    c.throw.ensures
