use Rattle.std.proofs.Common.{ℕ, List, All, subst, sym}
use Rattle.op_logic.specs.Term.{Args}
use Rattle.op_term.specs.Variables.{distinct_variables}
use Rattle.op_bind.specs.State.{value_of}
use Rattle.op_trace.specs.Database.{Text}
use Rattle.op_inspect.specs.Copies.{variables_as}
use Rattle.op_inspect.specs.Lists.{list_of}
use Rattle.op_inspect.specs.Outcomes.{IsKnown}
use Rattle.op_inspect.specs.inner.Seen.{texts}
use Rattle.op_inspect.specs.inner.Settings.{Makes}
use Rattle.op_inspect.proofs.MeetingVariables.{variables-texts, variables-known}
use Rattle.op_inspect.proofs.TextsLater.{known-later, setting-later}
use Rattle.op_inspect.proofs.Values.{made-free}
use Rattle.op_inspect.proofs.variables.unify_variables.Goals as goal

pub make_list-requires : goal.make_list-requires
make_list-requires c =
    let names = c.args.symbols.now in
    let s = c.args.bindings.now in
    subst (All (IsKnown names s)) (sym c.deref.ensures.value)
    (variables-known names s c.in_ok-found.found.items (distinct_variables (value_of s c.args.term.now)) c.in_ok-found.ensures.terms
    c.in_ok-found.ensures.there)

pub unify_terms-requires-clause-a : goal.unify_terms-requires-clause-a
unify_terms-requires-clause-a c =
    known-later c.args.symbols.now c.make_list.new.symbols c.args.bindings.now c.make_list.new.bindings c.args.list.now
    c.in_ok-made.ensures.stays c.requires.list

pub unify_terms-requires-clause-setting : goal.unify_terms-requires-clause-setting
unify_terms-requires-clause-setting c =
    setting-later c.args.symbols.now c.make_list.new.symbols c.args.bindings.now c.make_list.new.bindings
    c.in_ok-made.ensures.stays c.in_ok-made.ensures.made.bound c.requires.setting

pub returns : goal.returns
returns c =
    let names = c.args.symbols.now in
    let s = c.args.bindings.now in
    let b = c.make_list.new.symbols in
    let u = c.make_list.new.bindings in
    let vs = distinct_variables (value_of s c.args.term.now) in
    let made = c.in_ok-made.made in
    let found : Makes names s b u made (list_of (texts names s c.in_ok-found.found.items)) =
    subst (λ (rs : List ℕ). Makes names s b u made (list_of (texts names s rs))) c.deref.ensures.value c.in_ok-made.ensures.made in
    let whole : Makes names s b u made (list_of (variables_as vs)) =
    subst (λ (ts : Args Text). Makes names s b u made (list_of ts))
    (variables-texts names s c.in_ok-found.found.items vs c.in_ok-found.ensures.terms) found in
    made-free (list_of (variables_as vs)) names b b s u c.unify_terms.new.bindings c.args.list.now made c.args.fuel.now
    c.unify_terms.new.fuel c.unify_terms.result whole c.in_ok-made.ensures.stays c.requires.setting c.requires.list c.unify_terms.ensures
