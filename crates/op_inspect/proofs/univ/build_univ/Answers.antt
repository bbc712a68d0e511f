use Rattle.std.proofs.Common.{ap, sym, ◌∙◌, List, ℕ, subst, All}
use Rattle.std.specs.Prelude.{codes}
use Rattle.op_trace.specs.Builtins.{instantiation_error, type_error, throw}
use Rattle.op_inspect.specs.Construction.{univ_built, univ_listed}
use Rattle.op_inspect.specs.Lists.{Listed, Elements, listed}
use Rattle.op_inspect.specs.Outcomes.{text_at, texts_of, IsKnown}
use Rattle.op_inspect.specs.inner.Seen.{texts, IsSeen}
use Rattle.op_inspect.proofs.Acting.{answers-same}
use Rattle.op_inspect.proofs.univ.build_univ.Goals as goal

pub build_of_list-requires-clause-elements : goal.build_of_list-requires-clause-elements
build_of_list-requires-clause-elements c =
    subst (All (IsKnown c.args.symbols.now c.args.bindings.now)) (sym c.deref.ensures.value)
    (subst (IsSeen c.args.symbols.now c.args.bindings.now (listed (texts_of c.args.symbols.now c.args.bindings.now)
    (text_at c.args.symbols.now c.args.bindings.now c.args.list.now))) c.in-List.is c.in_ok-elements.ensures).1

pub returns-in-List : goal.returns-in-List
returns-in-List c =
    let names = c.args.symbols.now in
    let s = c.args.bindings.now in
    let left = c.args.fuel.now in
    let σ = texts_of names s in
    let t = text_at names s c.args.at.now in
    let l = text_at names s c.args.list.now in
    answers-same (univ_built t l left σ) (univ_listed (Elements (texts names s c.deref.result.now)) t l left σ) names
    c.build_of_list.new.symbols s c.build_of_list.new.bindings left c.build_of_list.new.fuel c.build_of_list.result
    (λ w _. ap (λ (x : Listed). univ_listed x t l left σ w)
    ((subst (IsSeen names s (listed σ l)) c.in-List.is c.in_ok-elements.ensures).0
    ∙ ap (λ (rs : List ℕ). Elements (texts names s rs)) (sym c.deref.ensures.value)))
    c.build_of_list.ensures

pub returns-in-Partial : goal.returns-in-Partial
returns-in-Partial c =
    let names = c.args.symbols.now in
    let s = c.args.bindings.now in
    let left = c.args.fuel.now in
    let σ = texts_of names s in
    let t = text_at names s c.args.at.now in
    let l = text_at names s c.args.list.now in
    answers-same (univ_built t l left σ) (throw left σ instantiation_error) names
    c.refuse.new.symbols s c.refuse.new.bindings left c.refuse.new.fuel c.refuse.result
    (λ w _. ap (λ (x : Listed). univ_listed x t l left σ w) (subst (IsSeen names s (listed σ l)) c.in-Partial.is c.in_ok-elements.ensures))
    c.refuse.ensures

pub returns-in-NoList : goal.returns-in-NoList
returns-in-NoList c =
    let names = c.args.symbols.now in
    let s = c.args.bindings.now in
    let left = c.args.fuel.now in
    let σ = texts_of names s in
    let t = text_at names s c.args.at.now in
    let l = text_at names s c.args.list.now in
    answers-same (univ_built t l left σ) (throw left σ (type_error (codes "list") l)) names
    c.refuse-in-NoList.new.symbols s c.refuse-in-NoList.new.bindings left c.refuse-in-NoList.new.fuel c.refuse-in-NoList.result
    (λ w _. ap (λ (x : Listed). univ_listed x t l left σ w) (subst (IsSeen names s (listed σ l)) c.in-NoList.is c.in_ok-elements.ensures))
    c.refuse-in-NoList.ensures
