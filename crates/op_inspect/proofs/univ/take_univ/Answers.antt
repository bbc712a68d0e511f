use Rattle.std.proofs.Common.{◌≡◌, ℕ, ap, sym, ◌∙◌, subst, refl, List, All}
use Rattle.op_logic.specs.Term.{arity, args_of}
use Rattle.op_term.proofs.ArgumentLists.{count-head}
use Rattle.op_term.specs.Arguments.{argument_count}
use Rattle.op_term.specs.Places.{term_at}
use Rattle.op_trace.specs.Act.{pay}
use Rattle.op_inspect.specs.Answering.{unify_terms}
use Rattle.op_inspect.specs.Construction.{univ_taken, parts_of}
use Rattle.op_inspect.specs.Lists.{list_of}
use Rattle.op_inspect.specs.Outcomes.{text_at, texts_of, IsKnown}
use Rattle.op_inspect.specs.inner.Seen.{texts}
use Rattle.op_inspect.specs.inner.Settings.{Makes, Stays}
use Rattle.op_inspect.proofs.ArgumentTexts.{arity-text}
use Rattle.op_inspect.proofs.MakingParts.{parts-known, makes-parts}
use Rattle.op_inspect.proofs.SpentSteps.{not-begun}
use Rattle.op_inspect.proofs.TextsLater.{known-later, setting-later, stays-stays}
use Rattle.op_inspect.proofs.Values.{made-unified}
use Rattle.op_inspect.proofs.univ.take_univ.Goals as goal

pub returns-in_err-spend : goal.returns-in_err-spend
returns-in_err-spend c =
    let names = c.args.symbols.now in
    let s = c.args.bindings.now in
    let left = c.args.fuel.now in
    let t = text_at names s c.args.at.now in
    let l = text_at names s c.args.list.now in
    let σ = texts_of names s in
    let count : c.arity.result ≡ arity (args_of t) =
    c.arity.ensures ∙ (ap argument_count c.outline.ensures
    ∙ (count-head (term_at s.terms c.args.at.now) ∙ sym (arity-text names (term_at s.terms c.args.at.now)))) in
    not-begun (univ_taken t l left σ) c.arity.result (λ k w. unify_terms l (list_of (parts_of t)) k σ w w) names s left
    c.spend.new.self c.from_residual.result
    (λ w. ap (λ (n : ℕ). pay n left w (λ k. unify_terms l (list_of (parts_of t)) k σ w w)) (sym count))
    c.in_err-spend.ensures.err (c.in_err-spend.ensures.spent.0 refl) c.from_residual.ensures

pub parts_of-requires-clause-name : goal.parts_of-requires-clause-name
parts_of-requires-clause-name c = c.in_ok-name.ensures.made.known.0

pub parts_of-requires-clause-at : goal.parts_of-requires-clause-at
parts_of-requires-clause-at c =
    (known-later c.args.symbols.now c.args.symbols.now c.args.bindings.now c.make_name.new.bindings c.args.at.now
    c.in_ok-name.ensures.stays c.requires.at).0

pub make_list-requires : goal.make_list-requires
make_list-requires c =
    let names = c.args.symbols.now in
    subst (All (IsKnown names c.make_name.new.bindings)) (sym c.deref.ensures.value)
    (parts-known names c.args.bindings.now c.make_name.new.bindings c.args.at.now c.in_ok-name.name c.in_ok-parts.parts.items
    c.requires.at c.in_ok-name.ensures.made c.in_ok-name.ensures.stays c.in_ok-parts.ensures.terms c.in_ok-parts.ensures.there)

pub unify_terms-requires-clause-a : goal.unify_terms-requires-clause-a
unify_terms-requires-clause-a c =
    let names = c.args.symbols.now in
    let b = c.make_list.new.symbols in
    known-later names b c.args.bindings.now c.make_list.new.bindings c.args.list.now
    (stays-stays names names b c.args.bindings.now c.make_name.new.bindings c.make_list.new.bindings c.in_ok-name.ensures.stays
    c.in_ok-made.ensures.stays) c.requires.list

pub unify_terms-requires-clause-setting : goal.unify_terms-requires-clause-setting
unify_terms-requires-clause-setting c =
    let names = c.args.symbols.now in
    let b = c.make_list.new.symbols in
    setting-later names b c.args.bindings.now c.make_list.new.bindings
    (stays-stays names names b c.args.bindings.now c.make_name.new.bindings c.make_list.new.bindings c.in_ok-name.ensures.stays
    c.in_ok-made.ensures.stays) (c.in_ok-made.ensures.made.bound ∙ c.in_ok-name.ensures.made.bound) c.requires.setting

pub returns : goal.returns
returns c =
    let names = c.args.symbols.now in
    let s = c.args.bindings.now in
    let t = c.make_name.new.bindings in
    let b = c.make_list.new.symbols in
    let u = c.make_list.new.bindings in
    let left = c.args.fuel.now in
    let at = c.args.at.now in
    let x = text_at names s at in
    let l = text_at names s c.args.list.now in
    let σ = texts_of names s in
    let made = c.in_ok-made.made in
    let count : c.arity.result ≡ arity (args_of x) =
    c.arity.ensures ∙ (ap argument_count c.outline.ensures
    ∙ (count-head (term_at s.terms at) ∙ sym (arity-text names (term_at s.terms at)))) in
    let parts : Makes names t b u made (list_of (texts names t c.in_ok-parts.parts.items)) =
    subst (λ (rs : List ℕ). Makes names t b u made (list_of (texts names t rs))) c.deref.ensures.value c.in_ok-made.ensures.made in
    let whole : Makes names s b u made (list_of (parts_of x)) =
    makes-parts names s t at c.in_ok-name.name c.in_ok-parts.parts.items c.requires.at c.in_ok-name.ensures.made
    c.in_ok-name.ensures.stays c.in_ok-parts.ensures.terms b u made parts in
    let stays : Stays names b s u = stays-stays names names b s t u c.in_ok-name.ensures.stays c.in_ok-made.ensures.stays in
    made-unified (univ_taken x l left σ) c.arity.result (list_of (parts_of x)) names b b s u c.unify_terms.new.bindings
    c.args.list.now made left c.spend.new.self c.unify_terms.new.fuel c.unify_terms.result whole stays c.requires.setting c.requires.list
    (λ w. ap (λ (n : ℕ). pay n left w (λ k. unify_terms l (list_of (parts_of x)) k σ w w)) (sym count))
    c.in_ok-spend.ensures.ok c.unify_terms.ensures
