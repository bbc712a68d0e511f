use Rattle.std.proofs.Common.{◌≡◌, ℕ, ◌-◌, ◌<◌, ◌≤◌, ap, sym, ◌∙◌, subst, arith, length, Ok, false}
use Rattle.op_logic.specs.Names.{HasNames, named}
use Rattle.op_logic.specs.Term.{Term, args_of, nth_arg, arity}
use Rattle.op_logic.proofs.ShiftedTerms.{nth-names}
use Rattle.op_term.proofs.ArgumentLists.{count-head}
use Rattle.op_term.specs.Arguments.{argument_count}
use Rattle.op_term.specs.Places.{term_at}
use Rattle.op_trace.specs.Database.{Text}
use Rattle.op_inspect.specs.Answering.{decided, unify_terms}
use Rattle.op_inspect.specs.Construction.{arg_found}
use Rattle.op_inspect.specs.Outcomes.{text_at, texts_of}
use Rattle.op_inspect.specs.declared.outcome.Outcome.TheVariants.{No}
use Rattle.op_inspect.proofs.Acting.{answers-same, decided-answers}
use Rattle.op_inspect.proofs.Constructing.{none-found, one-found}
use Rattle.op_inspect.proofs.ArgumentTexts.{args-names, arity-text, nth-text}
use Rattle.op_inspect.proofs.argument.unify_argument.Goals as goal

pub argument-part-requires-clause-within : goal.argument-part-requires-clause-within
argument-part-requires-clause-within c =
    let count : c.arity.result ≡ arity (args_of (term_at c.args.bindings.now.terms c.args.whole.now)) =
    c.arity.ensures ∙ (ap argument_count c.outline.ensures ∙ count-head (term_at c.args.bindings.now.terms c.args.whole.now)) in
    let below : c.args.place - 1 < arity (args_of (term_at c.args.bindings.now.terms c.args.whole.now)) =
    omega (arith, count, c.if-place-eq0.false, c.if-place-arity.false) in
    below

pub unify_terms-requires-clause-b : goal.unify_terms-requires-clause-b
unify_terms-requires-clause-b c =
    let names = c.args.symbols.now in
    let t = term_at c.args.bindings.now.terms c.args.whole.now in (
      c.argument-part.ensures.there,
      subst (HasNames (length names)) (sym c.argument-part.ensures.value)
          (nth-names (length names) (args_of t) (c.args.place - 1) (args-names (length names) t c.requires.whole.1)),
    )

pub returns-then-place-eq0 : goal.returns-then-place-eq0
returns-then-place-eq0 c =
    let names = c.args.symbols.now in
    let s = c.args.bindings.now in
    let left = c.args.fuel.now in
    let σ = texts_of names s in
    let ts = args_of (text_at names s c.args.whole.now) in
    let a = text_at names s c.args.value.now in
    answers-same (arg_found c.args.place ts a left σ) (decided false σ) names names s s left left (Ok No)
    (λ w same. ap (λ (k : ℕ). arg_found k ts a left σ w) c.if-place-eq0.true) (decided-answers false names s left c.requires.setting)

pub returns-then-place-arity : goal.returns-then-place-arity
returns-then-place-arity c =
    let names = c.args.symbols.now in
    let s = c.args.bindings.now in
    let left = c.args.fuel.now in
    let σ = texts_of names s in
    let t = term_at s.terms c.args.whole.now in
    let ts = args_of (text_at names s c.args.whole.now) in
    let a = text_at names s c.args.value.now in
    let count : c.arity.result ≡ arity (args_of t) = c.arity.ensures ∙ (ap argument_count c.outline.ensures ∙ count-head t) in
    let few : arity ts < c.args.place = omega (arith, count, arity-text names t, c.if-place-arity.true) in
    answers-same (arg_found c.args.place ts a left σ) (decided false σ) names names s s left left (Ok No)
    (λ w same. none-found ts a left σ w c.args.place few) (decided-answers false names s left c.requires.setting)

pub returns-else-place-arity : goal.returns-else-place-arity
returns-else-place-arity c =
    let names = c.args.symbols.now in
    let s = c.args.bindings.now in
    let left = c.args.fuel.now in
    let σ = texts_of names s in
    let t = term_at s.terms c.args.whole.now in
    let ts = args_of (text_at names s c.args.whole.now) in
    let a = text_at names s c.args.value.now in
    let part = c.argument-part.result in
    let count : c.arity.result ≡ arity (args_of t) = c.arity.ensures ∙ (ap argument_count c.outline.ensures ∙ count-head t) in
    let some : 0 < c.args.place = omega (arith, c.if-place-eq0.false) in
    let few : c.args.place ≤ arity ts = omega (arith, count, arity-text names t, c.if-place-arity.false) in
    let below : c.args.place - 1 < arity (args_of t) = omega (arith, some, count, c.if-place-arity.false) in
    let same : nth_arg ts (c.args.place - 1) ≡ text_at names s part =
    nth-text names t (c.args.place - 1) below ∙ ap (named names) (sym c.argument-part.ensures.value) in
    answers-same (arg_found c.args.place ts a left σ) (λ w. unify_terms a (text_at names s part) left σ w w) names names s
    c.unify_terms.new.bindings left c.unify_terms.new.fuel c.unify_terms.result
    (λ w _. one-found ts a left σ w c.args.place some few ∙ ap (λ (x : Term Text). unify_terms a x left σ w w) same)
    c.unify_terms.ensures
