use Rattle.std.proofs.Common.{◌≡◌, Bool, Ok, ap, sym, ◌∙◌, subst}
use Rattle.op_inspect.specs.Outcomes.{Answers, outcome_of, text_at, texts_of}
use Rattle.op_inspect.specs.TypeTests.{passes, test_act}
use Rattle.op_inspect.specs.Answering.{decided}
use Rattle.op_inspect.specs.declared.outcome.Outcome.{Outcome}
use Rattle.op_inspect.specs.inner.Nodes.{node_passes}
use Rattle.op_inspect.proofs.Acting.{decided-answers, answers-same}
use Rattle.op_inspect.proofs.TextsLater.{followed-text}
use Rattle.op_inspect.proofs.Tests.{passes-node, passes-named}
use Rattle.op_term.specs.Places.{term_at}
use Rattle.op_inspect.proofs.type_test.test.Goals as goal

pub returns : goal.returns
returns c = λ names left setting.
    let s = c.args.bindings.now in
    let test = c.args.test in
    let at = term_at s.terms c.followed.result in
    let same : c.passes.result ≡ passes test (text_at names s c.followed.result) =
    c.passes.ensures ∙ (ap (node_passes test) c.outline.ensures ∙ (passes-node test at ∙ sym (passes-named names test at))) in
    subst (λ (o : Outcome). Answers (test_act test (text_at names s c.args.term.now) (texts_of names s)) names s left (Ok o) names s left)
    (sym c.decided.ensures)
    (answers-same (test_act test (text_at names s c.args.term.now) (texts_of names s)) (decided c.passes.result
    (texts_of names s)) names names s s
    left left (Ok (outcome_of c.passes.result))
    (λ w e. ap (λ (b : Bool). decided b (texts_of names s) w)
    (ap (passes test) (sym (followed-text names s c.args.term.now c.followed.result c.followed.ensures.value)) ∙ sym same))
    (decided-answers c.passes.result names s left setting))
