use Rattle.std.proofs.Common.{ap, ◌∙◌, Err}
use Rattle.op_logic.specs.Names.{named}
use Rattle.op_logic.specs.Term.{Term, atom}
use Rattle.op_term.specs.Order.{standard_order, pairs_compared}
use Rattle.op_bind.specs.State.{value_of}
use Rattle.op_trace.specs.Database.{Text}
use Rattle.op_inspect.specs.Answering.{unify_terms}
use Rattle.op_inspect.specs.Comparison.{order_told, text_of_order}
use Rattle.op_inspect.specs.Outcomes.{text_at, texts_of}
use Rattle.op_inspect.proofs.Acting.{paid-fault}
use Rattle.op_inspect.proofs.MakingTerms.{makes-text}
use Rattle.op_inspect.proofs.TextsLater.{stays-self, known-later, setting-later}
use Rattle.op_inspect.proofs.Values.{value-known, compared-value, made-unified}
use Rattle.op_inspect.proofs.comparison.tell_order.Goals as goal

pub compare-requires-clause-a_named : goal.compare-requires-clause-a_named
compare-requires-clause-a_named c = value-known c.args.symbols.now c.args.bindings.now c.args.a.now c.requires.setting c.requires.a

pub compare-requires-clause-b_named : goal.compare-requires-clause-b_named
compare-requires-clause-b_named c = value-known c.args.symbols.now c.args.bindings.now c.args.b.now c.requires.setting c.requires.b

pub unify_terms-requires-clause-a : goal.unify_terms-requires-clause-a
unify_terms-requires-clause-a c =
    known-later c.args.symbols.now c.make_atom.new.symbols c.args.bindings.now c.make_atom.new.bindings c.args.order.now
    c.in_ok-word-in-Ok.ensures.stays c.requires.order

pub unify_terms-requires-clause-setting : goal.unify_terms-requires-clause-setting
unify_terms-requires-clause-setting c =
    setting-later c.args.symbols.now c.make_atom.new.symbols c.args.bindings.now c.make_atom.new.bindings c.in_ok-word-in-Ok.ensures.stays
    c.in_ok-word-in-Ok.ensures.made.bound c.requires.setting

pub returns-in_ok-word-in-Ok : goal.returns-in_ok-word-in-Ok
returns-in_ok-word-in-Ok c =
    let a = c.args.symbols.now in
    let s = c.args.bindings.now in
    let b = c.make_atom.new.symbols in
    let t = c.make_atom.new.bindings in
    let x = named a (value_of s c.args.a.now) in
    let y = named a (value_of s c.args.b.now) in
    let o = c.args.order.now in
    let X : Term Text = atom (text_of_order (standard_order x y)) in
    made-unified (order_told (text_at a s o) (text_at a s c.args.a.now) (text_at a s c.args.b.now) c.args.fuel.now (texts_of a s))
    (pairs_compared x y) X a b b s t c.unify_terms.new.bindings o c.in_ok-word-in-Ok.word c.args.fuel.now c.compare.new.fuel
    c.unify_terms.new.fuel
    c.unify_terms.result
    (makes-text a s b t c.in_ok-word-in-Ok.word (atom c.order_text.result.now) X c.in_ok-word-in-Ok.ensures.made
    (ap (λ (f : Text). atom f) (c.order_text.ensures ∙ ap text_of_order c.in-Ok.ensures.value)))
    c.in_ok-word-in-Ok.ensures.stays c.requires.setting c.requires.order
    (λ w. compared-value a s c.args.a.now c.args.b.now c.args.fuel.now w
    (λ r l. unify_terms (text_at a s o) (atom (text_of_order r)) l (texts_of a s) w w))
    c.in-Ok.ensures.paid c.unify_terms.ensures

pub returns-in-Err : goal.returns-in-Err
returns-in-Err c =
    let a = c.args.symbols.now in
    let s = c.args.bindings.now in
    let x = named a (value_of s c.args.a.now) in
    let y = named a (value_of s c.args.b.now) in
    let o = c.args.order.now in
    let X : Term Text = atom (text_of_order (standard_order x y)) in
    paid-fault (order_told (text_at a s o) (text_at a s c.args.a.now) (text_at a s c.args.b.now) c.args.fuel.now (texts_of a s))
    (pairs_compared x y) (λ l w. unify_terms (text_at a s o) X l (texts_of a s) w w) a a s s c.args.fuel.now c.compare.new.fuel
    c.in-Err.fault
    (λ w. compared-value a s c.args.a.now c.args.b.now c.args.fuel.now w
    (λ r l. unify_terms (text_at a s o) (atom (text_of_order r)) l (texts_of a s) w w))
    (stays-self a s) c.in-Err.ensures.falls (λ e. c.in-Err.ensures.spent (ap Err e))
