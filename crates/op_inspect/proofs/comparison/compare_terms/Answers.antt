use Rattle.std.proofs.Common.{◌≡◌, ap, sym, ◌∙◌, subst, refl, length, Some, None}
use Rattle.op_term.specs.Head.{head}
use Rattle.op_term.specs.Places.{term_at}
use Rattle.op_term.specs.declared.node.Node.{Node}
use Rattle.op_trace.specs.Builtins.{throw}
use Rattle.op_inspect.specs.Comparison.{compare_act, compare_error, order_told}
use Rattle.op_inspect.specs.Outcomes.{text_at, texts_of}
use Rattle.op_inspect.specs.inner.Nodes.{HasItsName, compare_problem}
use Rattle.op_inspect.specs.inner.Problems.{problem_text}
use Rattle.op_inspect.proofs.Acting.{answers-same}
use Rattle.op_inspect.proofs.Refusals.{head-known, compare-known, FoundIsKnown, compare-refused, ball_of, refused-some, refused-none}
use Rattle.op_inspect.proofs.TextsLater.{followed-known, followed-text}
use Rattle.op_inspect.proofs.comparison.compare_terms.Goals as goal

pub compare_problem-requires : goal.compare_problem-requires
compare_problem-requires c =
    let names = c.args.symbols.now in
    let s = c.args.bindings.now in
    let known = followed-known names s c.args.order.now c.followed-at.result c.followed-at.ensures.there c.followed-at.ensures.value
    c.requires.setting c.requires.order in
    subst (HasItsName (length names)) (sym c.outline.ensures) (head-known (length names) (term_at s.terms c.followed-at.result) known.1)

pub refuse-requires-clause-problem : goal.refuse-requires-clause-problem
refuse-requires-clause-problem c =
    let names = c.args.symbols.now in
    let s = c.args.bindings.now in
    let known = followed-known names s c.args.order.now c.followed-at.result c.followed-at.ensures.there c.followed-at.ensures.value
    c.requires.setting c.requires.order in
    subst (FoundIsKnown names s) (sym c.compare_problem.ensures ∙ c.in-Some.is)
    (compare-known names s c.outline.result c.followed-at.result known)

pub returns-in-Some : goal.returns-in-Some
returns-in-Some c =
    let names = c.args.symbols.now in
    let s = c.args.bindings.now in
    let at = c.followed-at.result in
    let t = term_at s.terms at in
    let left = c.args.fuel.now in
    let o = text_at names s c.args.order.now in
    let x = text_at names s c.args.a.now in
    let y = text_at names s c.args.b.now in
    let p = c.in-Some.problem in
    let found : compare_problem names (head t) at ≡ Some p =
    ap (λ (n : Node). compare_problem names n at) (sym c.outline.ensures) ∙ (sym c.compare_problem.ensures ∙ c.in-Some.is) in
    answers-same (compare_act o x y left (texts_of names s)) (throw left (texts_of names s)
    (problem_text names s p)) names c.refuse.new.symbols s
    c.refuse.new.bindings left c.refuse.new.fuel c.refuse.result
    (λ w same. refused-some _ (problem_text names s p) left (texts_of names s) w (order_told o x y left (texts_of names s) w)
    (ap compare_error (sym (followed-text names s c.args.order.now at c.followed-at.ensures.value))
    ∙ (sym (compare-refused names s at t refl) ∙ ap (ball_of names s) found)))
    c.refuse.ensures

pub returns-in-None : goal.returns-in-None
returns-in-None c =
    let names = c.args.symbols.now in
    let s = c.args.bindings.now in
    let at = c.followed-at.result in
    let t = term_at s.terms at in
    let left = c.args.fuel.now in
    let o = text_at names s c.args.order.now in
    let x = text_at names s c.args.a.now in
    let y = text_at names s c.args.b.now in
    let found : compare_problem names (head t) at ≡ None =
    ap (λ (n : Node). compare_problem names n at) (sym c.outline.ensures) ∙ (sym c.compare_problem.ensures ∙ c.in-None.is) in
    answers-same (compare_act o x y left (texts_of names s)) (order_told o x y left (texts_of names s)) names c.tell_order.new.symbols s
    c.tell_order.new.bindings left c.tell_order.new.fuel c.tell_order.result
    (λ w same. refused-none _ left (texts_of names s) w (order_told o x y left (texts_of names s) w)
    (ap compare_error (sym (followed-text names s c.args.order.now at c.followed-at.ensures.value))
    ∙ (sym (compare-refused names s at t refl) ∙ ap (ball_of names s) found)))
    c.tell_order.ensures
