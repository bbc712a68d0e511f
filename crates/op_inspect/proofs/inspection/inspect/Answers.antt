use Rattle.std.proofs.Common.{◌≡◌, length, Some, sym, ap, ◌∙◌}
use Rattle.op_logic.specs.Term.{node}
use Rattle.op_logic.specs.Names.{name_at, named}
use Rattle.op_term.specs.Places.{args_at}
use Rattle.op_inspect.specs.Inspected.{of_one, of_two, of_three, act_on_terms, act_of_one, act_of_two, act_of_three}
use Rattle.op_inspect.specs.Outcomes.{text_at, texts_of}
use Rattle.op_inspect.proofs.Acting.{answers-same}
use Rattle.op_inspect.proofs.Inspecting.{one-argument, two-arguments, three-arguments, is-three, one-act, two-act, three-act}
use Rattle.op_inspect.proofs.inspection.inspect.Goals as goal

pub returns-then-args-eq1 : goal.returns-then-args-eq1
returns-then-args-eq1 c =
    let names = c.args.symbols.now in
    let s = c.args.bindings.now in
    let f = c.args.name.0 in
    let left = c.args.fuel.now in
    let xs = c.args.args.now in
    let a = c.index-args-0.result in
    let k = c.unwrap-builtin.result in
    let found : of_one (name_at names f) ≡ Some k =
    sym (ap of_one c.name_of-text.ensures) ∙ (sym c.of_one.ensures ∙ c.unwrap-builtin.ensures) in
    answers-same (act_on_terms left (named names (node f (args_at s.terms xs))) (texts_of names s))
    (act_of_one k (text_at names s a) left (texts_of names s)) names names s s left c.inspect_one.new.fuel c.inspect_one.result
    (λ w _. one-act names s f left xs w a k (one-argument xs a c.if-args-eq1.true c.index-args-0.is) found) c.inspect_one.ensures

pub returns-then-args-eq2 : goal.returns-then-args-eq2
returns-then-args-eq2 c =
    let names = c.args.symbols.now in
    let s = c.args.bindings.now in
    let f = c.args.name.0 in
    let left = c.args.fuel.now in
    let xs = c.args.args.now in
    let a = c.index-args-0-then-args-eq2.result in
    let b = c.index-args-1.result in
    let k = c.unwrap-builtin-then-args-eq2.result in
    let found : of_two (name_at names f) ≡ Some k =
    sym (ap of_two c.name_of-text.ensures) ∙ (sym c.of_two.ensures ∙ c.unwrap-builtin-then-args-eq2.ensures) in
    answers-same (act_on_terms left (named names (node f (args_at s.terms xs))) (texts_of names s))
    (act_of_two k (text_at names s a) (text_at names s b) left (texts_of names s)) names c.inspect_two.new.symbols s
    c.inspect_two.new.bindings left c.inspect_two.new.fuel c.inspect_two.result
    (λ w _. two-act names s f left xs w a b k
    (two-arguments xs a b c.if-args-eq2.true c.index-args-0-then-args-eq2.is c.index-args-1.is) found) c.inspect_two.ensures

pub returns-else-args-eq2 : goal.returns-else-args-eq2
returns-else-args-eq2 c =
    let names = c.args.symbols.now in
    let s = c.args.bindings.now in
    let f = c.args.name.0 in
    let left = c.args.fuel.now in
    let xs = c.args.args.now in
    let a = c.index-args-0-else-args-eq2.result in
    let b = c.index-args-1-else-args-eq2.result in
    let d = c.index-args-2.result in
    let k = c.unwrap-builtin-else-args-eq2.result in
    let three : length xs ≡ 3 =
    is-three (name_at names f) (length xs) c.requires.builtin c.if-args-eq1.false c.if-args-eq2.false in
    let found : of_three (name_at names f) ≡ Some k =
    sym (ap of_three c.name_of-text.ensures) ∙ (sym c.of_three.ensures ∙ c.unwrap-builtin-else-args-eq2.ensures) in
    answers-same (act_on_terms left (named names (node f (args_at s.terms xs))) (texts_of names s))
    (act_of_three k (text_at names s a) (text_at names s b) (text_at names s d) left (texts_of names s)) names
    c.inspect_three.new.symbols s c.inspect_three.new.bindings left c.inspect_three.new.fuel c.inspect_three.result
    (λ w _. three-act names s f left xs w a b d k
    (three-arguments xs a b d three c.index-args-0-else-args-eq2.is c.index-args-1-else-args-eq2.is c.index-args-2.is) found)
    c.inspect_three.ensures
