use Rattle.std.proofs.Common.{ℕ, ap, refl, length}
use Rattle.op_trace.specs.Act.{pay}
use Rattle.op_inspect.specs.Answering.{unify_terms}
use Rattle.op_inspect.specs.Construction.{term_made, with_arguments}
use Rattle.op_inspect.specs.Outcomes.{text_at, texts_of}
use Rattle.op_inspect.specs.inner.Seen.{texts}
use Rattle.op_inspect.proofs.ArgumentTexts.{texts-arity}
use Rattle.op_inspect.proofs.SpentSteps.{not-begun}
use Rattle.op_inspect.proofs.TextsLater.{known-later, setting-later}
use Rattle.op_inspect.proofs.Values.{made-unified}
use Rattle.op_inspect.proofs.univ.unify_made.Goals as goal

pub returns-in_err-spend : goal.returns-in_err-spend
returns-in_err-spend c =
    let names = c.args.symbols.now in
    let s = c.args.bindings.now in
    let left = c.args.fuel.now in
    let a = text_at names s c.args.at.now in
    let f = text_at names s c.args.name.now in
    let ts = texts names s c.args.args.now in
    let σ = texts_of names s in
    not-begun (term_made a f ts left σ) (length c.args.args.now) (λ l w. unify_terms a (with_arguments f ts) l σ w w) names s left
    c.spend.new.self c.from_residual.result
    (λ w. ap (λ (n : ℕ). pay n left w (λ l. unify_terms a (with_arguments f ts) l σ w w)) (texts-arity names s c.args.args.now))
    c.in_err-spend.ensures.err (c.in_err-spend.ensures.spent.0 refl) c.from_residual.ensures

pub unify_terms-requires-clause-a : goal.unify_terms-requires-clause-a
unify_terms-requires-clause-a c =
    known-later c.args.symbols.now c.args.symbols.now c.args.bindings.now c.make_term.new.bindings c.args.at.now
    c.in_ok-made.ensures.stays c.requires.at

pub unify_terms-requires-clause-setting : goal.unify_terms-requires-clause-setting
unify_terms-requires-clause-setting c =
    setting-later c.args.symbols.now c.args.symbols.now c.args.bindings.now c.make_term.new.bindings c.in_ok-made.ensures.stays
    c.in_ok-made.ensures.made.bound c.requires.setting

pub returns : goal.returns
returns c =
    let names = c.args.symbols.now in
    let s = c.args.bindings.now in
    let t = c.make_term.new.bindings in
    let left = c.args.fuel.now in
    let a = text_at names s c.args.at.now in
    let f = text_at names s c.args.name.now in
    let ts = texts names s c.args.args.now in
    let σ = texts_of names s in
    made-unified (term_made a f ts left σ) (length c.args.args.now) (with_arguments f ts) names names names s t c.unify_terms.new.bindings
    c.args.at.now c.in_ok-made.made left c.spend.new.self c.unify_terms.new.fuel c.unify_terms.result c.in_ok-made.ensures.made
    c.in_ok-made.ensures.stays c.requires.setting c.requires.at
    (λ w. ap (λ (n : ℕ). pay n left w (λ l. unify_terms a (with_arguments f ts) l σ w w)) (texts-arity names s c.args.args.now))
    c.in_ok-spend.ensures.ok c.unify_terms.ensures
