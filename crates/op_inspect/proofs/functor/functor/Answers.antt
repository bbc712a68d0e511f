use Rattle.std.proofs.Common.{◌≡◌, true, false, ap, sym, ◌∙◌}
use Rattle.op_logic.specs.Term.{Term}
use Rattle.op_term.specs.Head.{head}
use Rattle.op_term.specs.Places.{term_at}
use Rattle.op_trace.specs.Database.{Text}
use Rattle.op_inspect.specs.Construction.{functor_act, functor_by, functor_built, functor_taken}
use Rattle.op_inspect.specs.Outcomes.{text_at, texts_of}
use Rattle.op_inspect.specs.inner.Nodes.{node_passes}
use Rattle.op_inspect.specs.declared.type_test.TypeTest.TheVariants as tests
use Rattle.op_inspect.proofs.Acting.{answers-same}
use Rattle.op_inspect.proofs.Constructing.{functor-variable, functor-other, bound-node}
use Rattle.op_inspect.proofs.TextsLater.{followed-known, followed-text}
use Rattle.op_inspect.proofs.functor.functor.Goals as goal

pub build_functor-requires-clause-at : goal.build_functor-requires-clause-at
build_functor-requires-clause-at c =
    followed-known c.args.symbols.now c.args.bindings.now c.args.term.now c.followed-at.result c.followed-at.ensures.there
    c.followed-at.ensures.value c.requires.setting c.requires.term

pub take_functor-requires-clause-at : goal.take_functor-requires-clause-at
take_functor-requires-clause-at c =
    followed-known c.args.symbols.now c.args.bindings.now c.args.term.now c.followed-at.result c.followed-at.ensures.there
    c.followed-at.ensures.value c.requires.setting c.requires.term

pub take_functor-requires-clause-bound : goal.take_functor-requires-clause-bound
take_functor-requires-clause-bound c =
    bound-node (term_at c.args.bindings.now.terms c.followed-at.result)
    (ap (node_passes tests.Variable) (sym c.outline.ensures) ∙ (sym c.is_variable.ensures ∙ c.if-is_variable.false))

pub returns-then-is_variable : goal.returns-then-is_variable
returns-then-is_variable c =
    let names = c.args.symbols.now in
    let s = c.args.bindings.now in
    let at = c.followed-at.result in
    let left = c.args.fuel.now in
    let σ = texts_of names s in
    let f = text_at names s c.args.name.now in
    let n = text_at names s c.args.count.now in
    let test : node_passes tests.Variable (head (term_at s.terms at)) ≡ true =
    ap (node_passes tests.Variable) (sym c.outline.ensures) ∙ (sym c.is_variable.ensures ∙ c.if-is_variable.true) in
    answers-same (functor_act (text_at names s c.args.term.now) f n left σ) (functor_built (text_at names s at) f n left σ) names
    c.build_functor.new.symbols s c.build_functor.new.bindings left c.build_functor.new.fuel c.build_functor.result
    (λ w _. ap (λ (x : Term Text). functor_by x f n left σ w) (sym (followed-text names s c.args.term.now at c.followed-at.ensures.value))
    ∙ functor-variable names left σ w (term_at s.terms at) f n test)
    c.build_functor.ensures

pub returns-else-is_variable : goal.returns-else-is_variable
returns-else-is_variable c =
    let names = c.args.symbols.now in
    let s = c.args.bindings.now in
    let at = c.followed-at.result in
    let left = c.args.fuel.now in
    let σ = texts_of names s in
    let f = text_at names s c.args.name.now in
    let n = text_at names s c.args.count.now in
    let test : node_passes tests.Variable (head (term_at s.terms at)) ≡ false =
    ap (node_passes tests.Variable) (sym c.outline.ensures) ∙ (sym c.is_variable.ensures ∙ c.if-is_variable.false) in
    answers-same (functor_act (text_at names s c.args.term.now) f n left σ) (functor_taken (text_at names s at) f n left σ) names
    c.take_functor.new.symbols s c.take_functor.new.bindings left c.take_functor.new.fuel c.take_functor.result
    (λ w _. ap (λ (x : Term Text). functor_by x f n left σ w) (sym (followed-text names s c.args.term.now at c.followed-at.ensures.value))
    ∙ functor-other names left σ w (term_at s.terms at) f n test)
    c.take_functor.ensures
