use Rattle.std.proofs.Common.{◌≡◌, ℕ, ◌<◌, List, All, ap, sym, ◌∙◌, subst, arith, length}
use Rattle.std.proofs.lemmas.List.Elements.{All-nil, All-push}
use Rattle.op_logic.specs.Bind.{apply}
use Rattle.op_logic.specs.Names.{HasNames, named}
use Rattle.op_logic.specs.Term.{Term, args_of, nth_arg, size}
use Rattle.op_logic.proofs.ShiftedTerms.{nth-names}
use Rattle.op_term.specs.Places.{term_at}
use Rattle.op_bind.specs.State.{bindings}
use Rattle.op_inspect.specs.Lists.{with_element, listed}
use Rattle.op_inspect.specs.Outcomes.{text_at, texts_of, IsKnown}
use Rattle.op_inspect.specs.inner.Nodes.{HasItsName}
use Rattle.op_inspect.specs.inner.Seen.{with_elements}
use Rattle.op_inspect.specs.declared.lists.Spine.TheVariants.{Cell, End, Open, Other}
use Rattle.op_inspect.proofs.ArgumentTexts.{args-names}
use Rattle.op_inspect.proofs.Refusals.{head-known}
use Rattle.op_inspect.proofs.SeenLists.{says-by, elements-push, elements-end, elements-partial, elements-none}
use Rattle.op_inspect.proofs.TextsLater.{followed-known}
use Rattle.op_inspect.proofs.lists.listed.Goals as goal

pub spine-init : goal.spine-init
spine-init c = record {
  seen = ap (λ (rs : List ℕ). with_elements c.args.symbols.now c.args.bindings.now rs
      (listed (texts_of c.args.symbols.now c.args.bindings.now) (text_at c.args.symbols.now c.args.bindings.now c.args.list.now)))
      (sym c.new-elements.ensures.items);
  rest = c.requires.list;
  elements = subst (All (IsKnown c.args.symbols.now c.args.bindings.now)) (sym c.new-elements.ensures.items)
      (All-nil (IsKnown c.args.symbols.now c.args.bindings.now));
}

pub spine_of-requires : goal.spine_of-requires
spine_of-requires c =
    let names = c.args.symbols.now in
    let s = c.args.bindings.now in
    let known = followed-known names s c.spine.rest c.followed-at.result c.followed-at.ensures.there c.followed-at.ensures.value
    c.requires.setting c.spine.invariant.rest in
    subst (HasItsName (length names)) (sym c.outline.ensures) (head-known (length names) (term_at s.terms c.followed-at.result) known.1)

pub argument-requires-clause-within : goal.argument-requires-clause-within
argument-requires-clause-within c =
    let names = c.args.symbols.now in
    let s = c.args.bindings.now in
    let says = says-by names (bindings s) (term_at s.terms c.spine.rest) c.followed-at.ensures.acyclic
    (term_at s.terms c.followed-at.result) c.followed-at.ensures.value c.outline.result c.spine_of.result Cell c.outline.ensures c.spine_of.ensures
    c.in-Cell.is in
    let two = says.0 in
    omega (arith, two)

pub argument-rest-requires-clause-within : goal.argument-rest-requires-clause-within
argument-rest-requires-clause-within c =
    let names = c.args.symbols.now in
    let s = c.args.bindings.now in
    let says = says-by names (bindings s) (term_at s.terms c.spine.rest) c.followed-at.ensures.acyclic
    (term_at s.terms c.followed-at.result) c.followed-at.ensures.value c.outline.result c.spine_of.result Cell c.outline.ensures c.spine_of.ensures
    c.in-Cell.is in
    let two = says.0 in
    omega (arith, two)

pub spine-smaller : goal.spine-smaller
spine-smaller c =
    let names = c.args.symbols.now in
    let s = c.args.bindings.now in
    let says = says-by names (bindings s) (term_at s.terms c.spine.rest) c.followed-at.ensures.acyclic
    (term_at s.terms c.followed-at.result) c.followed-at.ensures.value c.outline.result c.spine_of.result Cell c.outline.ensures c.spine_of.ensures
    c.in-Cell.is in
    subst (λ (x : Term ℕ). size (apply (bindings s) x) < size (apply (bindings s) (term_at s.terms c.spine.rest)))
    (sym c.argument-rest.ensures.value) says.1.1

pub spine-preserved : goal.spine-preserved
spine-preserved c =
    let names = c.args.symbols.now in
    let s = c.args.bindings.now in
    let q = term_at s.terms c.followed-at.result in
    let old = c.spine.elements.items in
    let e = c.argument.result in
    let r = c.argument-rest.result in
    let says = says-by names (bindings s) (term_at s.terms c.spine.rest) c.followed-at.ensures.acyclic
    (term_at s.terms c.followed-at.result) c.followed-at.ensures.value c.outline.result c.spine_of.result Cell c.outline.ensures c.spine_of.ensures
    c.in-Cell.is in
    let known = followed-known names s c.spine.rest c.followed-at.result c.followed-at.ensures.there c.followed-at.ensures.value
    c.requires.setting c.spine.invariant.rest in
    let args = args-names (length names) q known.1 in
    let element : IsKnown names s e =
    (c.argument.ensures.there, subst (HasNames (length names)) (sym c.argument.ensures.value) (nth-names (length names) (args_of q) 0 args)) in
    let cell : listed (texts_of names s) (text_at names s c.spine.rest)
    ≡ with_element (text_at names s e) (listed (texts_of names s) (text_at names s r)) =
    says.1.0 ∙ (ap (λ (x : Term ℕ). with_element (named names x) (listed (texts_of names s) (named names (nth_arg (args_of q) 1))))
    (sym c.argument.ensures.value)
    ∙ ap (λ (x : Term ℕ). with_element (text_at names s e) (listed (texts_of names s) (named names x)))
    (sym c.argument-rest.ensures.value)) in
    record {
      seen =
          c.spine.invariant.seen
          ∙ (ap (with_elements names s old) cell
          ∙ (sym (elements-push names s old e (listed (texts_of names s) (text_at names s r)))
          ∙ ap (λ (rs : List ℕ). with_elements names s rs (listed (texts_of names s) (text_at names s r))) (sym c.in_ok-push-in-Cell.ensures.items)));
      rest = (
        c.argument-rest.ensures.there,
        subst (HasNames (length names)) (sym c.argument-rest.ensures.value) (nth-names (length names) (args_of q) 1 args),
      );
      elements = subst (All (IsKnown names s)) (sym c.in_ok-push-in-Cell.ensures.items)
          (All-push (IsKnown names s) old e c.spine.invariant.elements element);
    }

pub returns-in-End : goal.returns-in-End
returns-in-End c =
    let names = c.args.symbols.now in
    let s = c.args.bindings.now in
    let says = says-by names (bindings s) (term_at s.terms c.spine.rest) c.followed-at.ensures.acyclic
    (term_at s.terms c.followed-at.result) c.followed-at.ensures.value c.outline.result c.spine_of.result End c.outline.ensures c.spine_of.ensures
    c.in-End.is in (
      c.spine.invariant.seen ∙ (ap (with_elements names s c.spine.elements.items) says ∙ elements-end names s c.spine.elements.items),
      c.spine.invariant.elements,
    )

pub returns-in-Open : goal.returns-in-Open
returns-in-Open c =
    let names = c.args.symbols.now in
    let s = c.args.bindings.now in
    let says = says-by names (bindings s) (term_at s.terms c.spine.rest) c.followed-at.ensures.acyclic
    (term_at s.terms c.followed-at.result) c.followed-at.ensures.value c.outline.result c.spine_of.result Open c.outline.ensures c.spine_of.ensures
    c.in-Open.is in
    c.spine.invariant.seen ∙ (ap (with_elements names s c.spine.elements.items) says ∙ elements-partial names s c.spine.elements.items)

pub returns-in-Other : goal.returns-in-Other
returns-in-Other c =
    let names = c.args.symbols.now in
    let s = c.args.bindings.now in
    let says = says-by names (bindings s) (term_at s.terms c.spine.rest) c.followed-at.ensures.acyclic
    (term_at s.terms c.followed-at.result) c.followed-at.ensures.value c.outline.result c.spine_of.result Other c.outline.ensures c.spine_of.ensures
    c.in-Other.is in
    c.spine.invariant.seen ∙ (ap (with_elements names s c.spine.elements.items) says ∙ elements-none names s c.spine.elements.items)
