use Rattle.std.proofs.Common.{◌≡◌, ap, sym, ◌∙◌, subst, refl, Some, None}
use Rattle.op_term.specs.Head.{head}
use Rattle.op_term.specs.Places.{term_at}
use Rattle.op_term.specs.declared.node.Node.{Node}
use Rattle.op_trace.specs.Builtins.{throw}
use Rattle.op_inspect.specs.Construction.{functor_built, made_functor, count_in}
use Rattle.op_inspect.specs.Outcomes.{text_at, texts_of}
use Rattle.op_inspect.specs.inner.Made.{CanName}
use Rattle.op_inspect.specs.inner.Refused.{functor_problem, natural_of}
use Rattle.op_inspect.specs.inner.Problems.{problem_text}
use Rattle.op_inspect.proofs.Acting.{answers-same}
use Rattle.op_inspect.proofs.Constructing.{functor-refused, functor-found, can-name, natural-is, functor-throws, functor-makes}
use Rattle.op_inspect.proofs.Refusals.{FoundIsKnown, ball_of}
use Rattle.op_inspect.proofs.TextsLater.{followed-known, followed-text}
use Rattle.op_inspect.proofs.functor.build_functor.Goals as goal

pub refuse-requires-clause-problem : goal.refuse-requires-clause-problem
refuse-requires-clause-problem c =
    let names = c.args.symbols.now in
    let s = c.args.bindings.now in
    let f = c.followed-name.result in
    let n = c.followed-count.result in
    let kf = followed-known names s c.args.name.now f c.followed-name.ensures.there c.followed-name.ensures.value c.requires.setting
    c.requires.name in
    let kn = followed-known names s c.args.count.now n c.followed-count.ensures.there c.followed-count.ensures.value c.requires.setting
    c.requires.count in
    subst (FoundIsKnown names s) (sym c.functor_problem.ensures ∙ c.in-Some.is)
    (functor-found names s f n kf kn c.outline.result c.outline-number.result)

pub unify_functor-requires-clause-name : goal.unify_functor-requires-clause-name
unify_functor-requires-clause-name c =
    followed-known c.args.symbols.now c.args.bindings.now c.args.name.now c.followed-name.result c.followed-name.ensures.there
    c.followed-name.ensures.value c.requires.setting c.requires.name

pub unify_functor-requires-clause-can : goal.unify_functor-requires-clause-can
unify_functor-requires-clause-can c =
    let s = c.args.bindings.now in
    let f = c.followed-name.result in
    let n = c.followed-count.result in
    subst (CanName (term_at s.terms f)) (sym c.natural_of.ensures)
    (can-name (term_at s.terms f) c.outline-number.result f n
    (ap (λ (m : Node). functor_problem m c.outline-number.result f n) (sym c.outline.ensures) ∙ (sym c.functor_problem.ensures
    ∙ c.in-None.is)))

pub returns-in-Some : goal.returns-in-Some
returns-in-Some c =
    let names = c.args.symbols.now in
    let s = c.args.bindings.now in
    let f = c.followed-name.result in
    let n = c.followed-count.result in
    let left = c.args.fuel.now in
    let σ = texts_of names s in
    let t = text_at names s c.args.at.now in
    let x = text_at names s c.args.name.now in
    let y = text_at names s c.args.count.now in
    let p = c.in-Some.problem in
    let ff = followed-text names s c.args.name.now f c.followed-name.ensures.value in
    let fn = followed-text names s c.args.count.now n c.followed-count.ensures.value in
    let found : functor_problem (head (term_at s.terms f)) (head (term_at s.terms n)) f n ≡ Some p =
    ap (λ (m : Node). functor_problem m (head (term_at s.terms n)) f n) (sym c.outline.ensures)
    ∙ (ap (λ (m : Node). functor_problem c.outline.result m f n) (sym c.outline-number.ensures)
    ∙ (sym c.functor_problem.ensures ∙ c.in-Some.is)) in
    answers-same (functor_built t x y left σ) (throw left σ (problem_text names s p)) names c.refuse.new.symbols s c.refuse.new.bindings
    left c.refuse.new.fuel c.refuse.result
    (λ w same. functor-throws left σ w t x y (text_at names s f) (text_at names s n) (problem_text names s p) ff fn
    (sym (functor-refused names s f n (term_at s.terms f) (term_at s.terms n) refl refl) ∙ ap (ball_of names s) found))
    c.refuse.ensures

pub returns-in-None : goal.returns-in-None
returns-in-None c =
    let names = c.args.symbols.now in
    let s = c.args.bindings.now in
    let f = c.followed-name.result in
    let n = c.followed-count.result in
    let left = c.args.fuel.now in
    let σ = texts_of names s in
    let t = text_at names s c.args.at.now in
    let x = text_at names s c.args.name.now in
    let y = text_at names s c.args.count.now in
    let ff = followed-text names s c.args.name.now f c.followed-name.ensures.value in
    let fn = followed-text names s c.args.count.now n c.followed-count.ensures.value in
    let found : functor_problem (head (term_at s.terms f)) (head (term_at s.terms n)) f n ≡ None =
    ap (λ (m : Node). functor_problem m (head (term_at s.terms n)) f n) (sym c.outline.ensures)
    ∙ (ap (λ (m : Node). functor_problem c.outline.result m f n) (sym c.outline-number.ensures)
    ∙ (sym c.functor_problem.ensures ∙ c.in-None.is)) in
    let number : c.natural_of.result ≡ count_in (text_at names s n) =
    c.natural_of.ensures ∙ (ap natural_of c.outline-number.ensures ∙ natural-is names (term_at s.terms n)) in
    answers-same (functor_built t x y left σ) (made_functor t (text_at names s f) c.natural_of.result left σ) names
    c.args.symbols.now s c.unify_functor.new.bindings left c.unify_functor.new.fuel c.unify_functor.result
    (λ w same. functor-makes left σ w t x y (text_at names s f) (text_at names s n) c.natural_of.result ff fn
    (sym (functor-refused names s f n (term_at s.terms f) (term_at s.terms n) refl refl) ∙ ap (ball_of names s) found) number)
    c.unify_functor.ensures
