use Rattle.std.proofs.Common.{ap, subst, codes}
use Rattle.op_trace.specs.Builtins.{throw, type_error}
use Rattle.op_inspect.specs.Copies.{variables_act, variables_listed, no_list_error}
use Rattle.op_inspect.specs.Lists.{Listed, listed}
use Rattle.op_inspect.specs.Outcomes.{text_at, texts_of}
use Rattle.op_inspect.specs.inner.Seen.{IsSeen}
use Rattle.op_inspect.proofs.Acting.{answers-same}
use Rattle.op_inspect.proofs.Refusals.{refused-some, refused-none}
use Rattle.op_inspect.proofs.variables.variables.Goals as goal

pub returns-in-NoList : goal.returns-in-NoList
returns-in-NoList c =
    let names = c.args.symbols.now in
    let s = c.args.bindings.now in
    let left = c.args.fuel.now in
    let σ = texts_of names s in
    let t = text_at names s c.args.term.now in
    let l = text_at names s c.args.list.now in
    let ball = type_error (codes "list") l in
    answers-same (variables_act t l left σ) (throw left σ ball) names c.refuse.new.symbols s c.refuse.new.bindings left
    c.refuse.new.fuel c.refuse.result
    (λ w _. refused-some (no_list_error (listed σ l) l) ball left σ w (variables_listed t l left σ w)
    (ap (λ (x : Listed). no_list_error x l) (subst (IsSeen names s (listed σ l)) c.in-NoList.is c.in_ok-elements.ensures)))
    c.refuse.ensures

pub returns-in-List : goal.returns-in-List
returns-in-List c =
    let names = c.args.symbols.now in
    let s = c.args.bindings.now in
    let left = c.args.fuel.now in
    let σ = texts_of names s in
    let t = text_at names s c.args.term.now in
    let l = text_at names s c.args.list.now in
    answers-same (variables_act t l left σ) (variables_listed t l left σ) names c.list_variables.new.symbols s
    c.list_variables.new.bindings left c.list_variables.new.fuel c.list_variables.result
    (λ w _. refused-none (no_list_error (listed σ l) l) left σ w (variables_listed t l left σ w)
    (ap (λ (x : Listed). no_list_error x l)
    ((subst (IsSeen names s (listed σ l)) c.in-List.is c.in_ok-elements.ensures).0)))
    c.list_variables.ensures

pub returns-in-Partial : goal.returns-in-Partial
returns-in-Partial c =
    let names = c.args.symbols.now in
    let s = c.args.bindings.now in
    let left = c.args.fuel.now in
    let σ = texts_of names s in
    let t = text_at names s c.args.term.now in
    let l = text_at names s c.args.list.now in
    answers-same (variables_act t l left σ) (variables_listed t l left σ) names c.list_variables-in-Partial.new.symbols s
    c.list_variables-in-Partial.new.bindings left c.list_variables-in-Partial.new.fuel c.list_variables-in-Partial.result
    (λ w _. refused-none (no_list_error (listed σ l) l) left σ w (variables_listed t l left σ w)
    (ap (λ (x : Listed). no_list_error x l)
    (subst (IsSeen names s (listed σ l)) c.in-Partial.is c.in_ok-elements.ensures)))
    c.list_variables-in-Partial.ensures
