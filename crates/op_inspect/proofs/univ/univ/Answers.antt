use Rattle.std.proofs.Common.{◌≡◌, true, false, ap, sym, ◌∙◌}
use Rattle.op_logic.specs.Term.{Term}
use Rattle.op_term.specs.Head.{head}
use Rattle.op_term.specs.Places.{term_at}
use Rattle.op_trace.specs.Database.{Text}
use Rattle.op_inspect.specs.Construction.{univ_act, univ_by, univ_built, univ_taken}
use Rattle.op_inspect.specs.Outcomes.{text_at, texts_of}
use Rattle.op_inspect.specs.inner.Nodes.{node_passes}
use Rattle.op_inspect.specs.declared.type_test.TypeTest.TheVariants as tests
use Rattle.op_inspect.proofs.Acting.{answers-same}
use Rattle.op_inspect.proofs.Constructing.{univ-variable, univ-other}
use Rattle.op_inspect.proofs.TextsLater.{followed-known, followed-text}
use Rattle.op_inspect.proofs.univ.univ.Goals as goal

pub build_univ-requires-clause-at : goal.build_univ-requires-clause-at
build_univ-requires-clause-at c =
    followed-known c.args.symbols.now c.args.bindings.now c.args.term.now c.followed-at.result c.followed-at.ensures.there
    c.followed-at.ensures.value c.requires.setting c.requires.term

pub take_univ-requires-clause-at : goal.take_univ-requires-clause-at
take_univ-requires-clause-at c =
    followed-known c.args.symbols.now c.args.bindings.now c.args.term.now c.followed-at.result c.followed-at.ensures.there
    c.followed-at.ensures.value c.requires.setting c.requires.term

pub returns-then-is_variable : goal.returns-then-is_variable
returns-then-is_variable c =
    let names = c.args.symbols.now in
    let s = c.args.bindings.now in
    let at = c.followed-at.result in
    let left = c.args.fuel.now in
    let σ = texts_of names s in
    let l = text_at names s c.args.list.now in
    let test : node_passes tests.Variable (head (term_at s.terms at)) ≡ true =
    ap (node_passes tests.Variable) (sym c.outline.ensures) ∙ (sym c.is_variable.ensures ∙ c.if-is_variable.true) in
    answers-same (univ_act (text_at names s c.args.term.now) l left σ) (univ_built (text_at names s at) l left σ) names
    c.build_univ.new.symbols s c.build_univ.new.bindings left c.build_univ.new.fuel c.build_univ.result
    (λ w _. ap (λ (x : Term Text). univ_by x l left σ w) (sym (followed-text names s c.args.term.now at c.followed-at.ensures.value))
    ∙ univ-variable names left σ w (term_at s.terms at) l test)
    c.build_univ.ensures

pub returns-else-is_variable : goal.returns-else-is_variable
returns-else-is_variable c =
    let names = c.args.symbols.now in
    let s = c.args.bindings.now in
    let at = c.followed-at.result in
    let left = c.args.fuel.now in
    let σ = texts_of names s in
    let l = text_at names s c.args.list.now in
    let test : node_passes tests.Variable (head (term_at s.terms at)) ≡ false =
    ap (node_passes tests.Variable) (sym c.outline.ensures) ∙ (sym c.is_variable.ensures ∙ c.if-is_variable.false) in
    answers-same (univ_act (text_at names s c.args.term.now) l left σ) (univ_taken (text_at names s at) l left σ) names
    c.take_univ.new.symbols s c.take_univ.new.bindings left c.take_univ.new.fuel c.take_univ.result
    (λ w _. ap (λ (x : Term Text). univ_by x l left σ w) (sym (followed-text names s c.args.term.now at c.followed-at.ensures.value))
    ∙ univ-other names left σ w (term_at s.terms at) l test)
    c.take_univ.ensures
