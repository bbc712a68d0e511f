use Rattle.std.proofs.Common.{Ok, sym, subst}
use Rattle.op_inspect.specs.Inspected.{act_of_one}
use Rattle.op_inspect.specs.Outcomes.{text_at, texts_of, Answers}
use Rattle.op_inspect.specs.declared.builtin.OfOne.{OfOne}
use Rattle.op_inspect.proofs.inspection.inspect_one.Goals as goal

pub returns-in-Test : goal.returns-in-Test
returns-in-Test c =
    let names = c.args.symbols.now in
    let s = c.args.bindings.now in
    let left = c.args.fuel.now in
    subst (λ (b : OfOne). Answers (act_of_one b (text_at names s c.args.a.now) left (texts_of names s)) names s left (Ok c.test.result)
    names s left) (sym c.in-Test.is) (c.test.ensures names left c.requires.setting)
