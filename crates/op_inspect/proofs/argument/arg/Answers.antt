use Rattle.std.proofs.Common.{◌≡◌, ap, sym, ◌∙◌, subst, refl, Some, None}
use Rattle.op_logic.specs.Term.{args_of}
use Rattle.op_term.specs.Head.{head}
use Rattle.op_term.specs.Places.{term_at}
use Rattle.op_term.specs.declared.node.Node.{Node}
use Rattle.op_trace.specs.Builtins.{throw}
use Rattle.op_inspect.specs.Construction.{arg_act, arg_found, count_in}
use Rattle.op_inspect.specs.Outcomes.{text_at, texts_of}
use Rattle.op_inspect.specs.inner.Refused.{arg_problem, natural_of}
use Rattle.op_inspect.specs.inner.Problems.{problem_text}
use Rattle.op_inspect.proofs.Acting.{answers-same}
use Rattle.op_inspect.proofs.Constructing.{arg-refused, arg-found, natural-is, arg-throws, arg-finds}
use Rattle.op_inspect.proofs.Refusals.{FoundIsKnown, ball_of}
use Rattle.op_inspect.proofs.TextsLater.{followed-known, followed-text}
use Rattle.op_inspect.proofs.argument.arg.Goals as goal

pub refuse-requires-clause-problem : goal.refuse-requires-clause-problem
refuse-requires-clause-problem c =
    let names = c.args.symbols.now in
    let s = c.args.bindings.now in
    let i = c.followed-place.result in
    let t = c.followed-whole.result in
    let ki = followed-known names s c.args.index.now i c.followed-place.ensures.there c.followed-place.ensures.value c.requires.setting
    c.requires.index in
    let kt = followed-known names s c.args.term.now t c.followed-whole.ensures.there c.followed-whole.ensures.value c.requires.setting
    c.requires.term in
    subst (FoundIsKnown names s) (sym c.arg_problem.ensures ∙ c.in-Some.is)
    (arg-found names s i t ki kt c.outline-number.result c.outline.result)

pub unify_argument-requires-clause-whole : goal.unify_argument-requires-clause-whole
unify_argument-requires-clause-whole c =
    followed-known c.args.symbols.now c.args.bindings.now c.args.term.now c.followed-whole.result c.followed-whole.ensures.there
    c.followed-whole.ensures.value c.requires.setting c.requires.term

pub returns-in-Some : goal.returns-in-Some
returns-in-Some c =
    let names = c.args.symbols.now in
    let s = c.args.bindings.now in
    let i = c.followed-place.result in
    let t = c.followed-whole.result in
    let left = c.args.fuel.now in
    let σ = texts_of names s in
    let n = text_at names s c.args.index.now in
    let x = text_at names s c.args.term.now in
    let a = text_at names s c.args.value.now in
    let p = c.in-Some.problem in
    let fi = followed-text names s c.args.index.now i c.followed-place.ensures.value in
    let ft = followed-text names s c.args.term.now t c.followed-whole.ensures.value in
    let found : arg_problem (head (term_at s.terms i)) (head (term_at s.terms t)) i t ≡ Some p =
    ap (λ (m : Node). arg_problem m (head (term_at s.terms t)) i t) (sym c.outline-number.ensures)
    ∙ (ap (λ (m : Node). arg_problem c.outline-number.result m i t) (sym c.outline.ensures) ∙ (sym c.arg_problem.ensures ∙ c.in-Some.is)) in
    answers-same (arg_act n x a left σ) (throw left σ (problem_text names s p)) names c.refuse.new.symbols s c.refuse.new.bindings left
    c.refuse.new.fuel c.refuse.result
    (λ w same. arg-throws left σ w n x a (text_at names s i) (text_at names s t) (problem_text names s p) fi ft
    (sym (arg-refused names s i t (term_at s.terms i) (term_at s.terms t) refl refl) ∙ ap (ball_of names s) found))
    c.refuse.ensures

pub returns-in-None : goal.returns-in-None
returns-in-None c =
    let names = c.args.symbols.now in
    let s = c.args.bindings.now in
    let i = c.followed-place.result in
    let t = c.followed-whole.result in
    let left = c.args.fuel.now in
    let σ = texts_of names s in
    let n = text_at names s c.args.index.now in
    let x = text_at names s c.args.term.now in
    let a = text_at names s c.args.value.now in
    let fi = followed-text names s c.args.index.now i c.followed-place.ensures.value in
    let ft = followed-text names s c.args.term.now t c.followed-whole.ensures.value in
    let found : arg_problem (head (term_at s.terms i)) (head (term_at s.terms t)) i t ≡ None =
    ap (λ (m : Node). arg_problem m (head (term_at s.terms t)) i t) (sym c.outline-number.ensures)
    ∙ (ap (λ (m : Node). arg_problem c.outline-number.result m i t) (sym c.outline.ensures) ∙ (sym c.arg_problem.ensures ∙ c.in-None.is)) in
    let number : c.natural_of.result ≡ count_in (text_at names s i) =
    c.natural_of.ensures ∙ (ap natural_of c.outline-number.ensures ∙ natural-is names (term_at s.terms i)) in
    answers-same (arg_act n x a left σ) (arg_found c.natural_of.result (args_of (text_at names s t)) a left σ) names
    c.args.symbols.now s c.unify_argument.new.bindings left c.unify_argument.new.fuel c.unify_argument.result
    (λ w same. arg-finds left σ w n x a (text_at names s i) (text_at names s t) c.natural_of.result fi ft
    (sym (arg-refused names s i t (term_at s.terms i) (term_at s.terms t) refl refl) ∙ ap (ball_of names s) found) number)
    c.unify_argument.ensures
