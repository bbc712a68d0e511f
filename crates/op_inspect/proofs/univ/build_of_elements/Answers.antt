use Rattle.std.proofs.Common.{◌≡◌, ℕ, ap, sym, ◌∙◌, subst, refl, length}
use Rattle.std.specs.Prelude.{Some, None}
use Rattle.op_logic.specs.Term.{arity}
use Rattle.op_term.specs.Head.{head}
use Rattle.op_term.specs.Places.{term_at}
use Rattle.op_term.specs.declared.node.Node.{Node}
use Rattle.op_trace.specs.Builtins.{throw}
use Rattle.op_inspect.specs.Construction.{univ_of_elements, term_made}
use Rattle.op_inspect.specs.Outcomes.{text_at, texts_of}
use Rattle.op_inspect.specs.inner.Refused.{head_problem}
use Rattle.op_inspect.specs.inner.Problems.{problem_text}
use Rattle.op_inspect.specs.inner.Seen.{texts}
use Rattle.op_inspect.proofs.Acting.{answers-same}
use Rattle.op_inspect.proofs.ArgumentTexts.{texts-arity}
use Rattle.op_inspect.proofs.Constructing.{head-refused, head-found, can-head}
use Rattle.op_inspect.proofs.MakingParts.{univ-throws, univ-makes}
use Rattle.op_inspect.proofs.Refusals.{FoundIsKnown, ball_of}
use Rattle.op_inspect.proofs.TextsLater.{followed-known, followed-text}
use Rattle.op_inspect.proofs.univ.build_of_elements.Goals as goal

pub refuse-requires-clause-problem : goal.refuse-requires-clause-problem
refuse-requires-clause-problem c =
    let names = c.args.symbols.now in
    let s = c.args.bindings.now in
    let q = c.followed-name.result in
    let known = followed-known names s c.args.head.now q c.followed-name.ensures.there c.followed-name.ensures.value c.requires.setting
    c.requires.head in
    subst (FoundIsKnown names s) (sym c.head_problem.ensures ∙ c.in-Some.is)
    (head-found names s q q known c.outline.result (length c.args.args.now))

pub unify_made-requires-clause-name : goal.unify_made-requires-clause-name
unify_made-requires-clause-name c =
    followed-known c.args.symbols.now c.args.bindings.now c.args.head.now c.followed-name.result c.followed-name.ensures.there
    c.followed-name.ensures.value c.requires.setting c.requires.head

pub unify_made-requires-clause-can : goal.unify_made-requires-clause-can
unify_made-requires-clause-can c =
    let s = c.args.bindings.now in
    let q = c.followed-name.result in
    can-head (term_at s.terms q) (length c.args.args.now) q
    (ap (λ (m : Node). head_problem m (length c.args.args.now) q) (sym c.outline.ensures) ∙ (sym c.head_problem.ensures ∙ c.in-None.is))

pub returns-in-Some : goal.returns-in-Some
returns-in-Some c =
    let names = c.args.symbols.now in
    let s = c.args.bindings.now in
    let q = c.followed-name.result in
    let left = c.args.fuel.now in
    let σ = texts_of names s in
    let t = text_at names s c.args.at.now in
    let h = text_at names s c.args.head.now in
    let ts = texts names s c.args.args.now in
    let p = c.in-Some.problem in
    let found : head_problem (head (term_at s.terms q)) (arity ts) q ≡ Some p =
    ap (λ (k : ℕ). head_problem (head (term_at s.terms q)) k q) (texts-arity names s c.args.args.now)
    ∙ (ap (λ (m : Node). head_problem m (length c.args.args.now) q) (sym c.outline.ensures) ∙ (sym c.head_problem.ensures ∙ c.in-Some.is)) in
    answers-same (univ_of_elements t h ts left σ) (throw left σ (problem_text names s p)) names c.refuse.new.symbols s
    c.refuse.new.bindings left c.refuse.new.fuel c.refuse.result
    (λ w same. univ-throws left σ w t h (text_at names s q) (problem_text names s p) ts
    (followed-text names s c.args.head.now q c.followed-name.ensures.value)
    (sym (head-refused names s q q (term_at s.terms q) ts refl) ∙ ap (ball_of names s) found))
    c.refuse.ensures

pub returns-in-None : goal.returns-in-None
returns-in-None c =
    let names = c.args.symbols.now in
    let s = c.args.bindings.now in
    let q = c.followed-name.result in
    let left = c.args.fuel.now in
    let σ = texts_of names s in
    let t = text_at names s c.args.at.now in
    let h = text_at names s c.args.head.now in
    let ts = texts names s c.args.args.now in
    let found : head_problem (head (term_at s.terms q)) (arity ts) q ≡ None =
    ap (λ (k : ℕ). head_problem (head (term_at s.terms q)) k q) (texts-arity names s c.args.args.now)
    ∙ (ap (λ (m : Node). head_problem m (length c.args.args.now) q) (sym c.outline.ensures) ∙ (sym c.head_problem.ensures ∙ c.in-None.is)) in
    answers-same (univ_of_elements t h ts left σ) (term_made t (text_at names s q) ts left σ) names c.args.symbols.now s
    c.unify_made.new.bindings left c.unify_made.new.fuel c.unify_made.result
    (λ w same. univ-makes left σ w t h (text_at names s q) ts
    (followed-text names s c.args.head.now q c.followed-name.ensures.value)
    (sym (head-refused names s q q (term_at s.terms q) ts refl) ∙ ap (ball_of names s) found))
    c.unify_made.ensures
