use Rattle.std.proofs.Common.{◌≡◌, ◌+◌, ℕ, ap, sym, ◌∙◌, arith, refl}
use Rattle.op_logic.specs.Term.{Term}
use Rattle.op_trace.specs.Database.{Text}
use Rattle.op_inspect.specs.Answering.{unify_terms}
use Rattle.op_inspect.specs.Construction.{made_functor, variables_from, with_arguments}
use Rattle.op_inspect.specs.Outcomes.{text_at, texts_of}
use Rattle.op_inspect.proofs.Acting.{paid-then}
use Rattle.op_inspect.proofs.SpentSteps.{not-begun}
use Rattle.op_inspect.proofs.TextsLater.{known-later, text-later, setting-later, texts-later}
use Rattle.op_inspect.proofs.Values.{unified-part}
use Rattle.op_inspect.proofs.functor.unify_functor.Goals as goal

pub returns-in_err-spend : goal.returns-in_err-spend
returns-in_err-spend c =
    let names = c.args.symbols.now in
    let s = c.args.bindings.now in
    let left = c.args.fuel.now in
    let n = c.args.count in
    let a = text_at names s c.args.at.now in
    let f = text_at names s c.args.name.now in
    let new : ℕ → Term Text = λ k. with_arguments f (variables_from k n) in
    not-begun (made_functor a f n left (texts_of names s)) n
    (λ l w. unify_terms a (new w.variables) l (texts_of names s) w (record w { variables = w.variables + n })) names s left
    c.spend.new.self c.from_residual.result (λ w. refl) c.in_err-spend.ensures.err (c.in_err-spend.ensures.spent.0 refl)
    c.from_residual.ensures

pub unify_terms-requires-clause-a : goal.unify_terms-requires-clause-a
unify_terms-requires-clause-a c =
    known-later c.args.symbols.now c.args.symbols.now c.args.bindings.now c.make_functor.new.bindings c.args.at.now
    c.in_ok-made.ensures.stays c.requires.at

pub unify_terms-requires-clause-setting : goal.unify_terms-requires-clause-setting
unify_terms-requires-clause-setting c =
    setting-later c.args.symbols.now c.args.symbols.now c.args.bindings.now c.make_functor.new.bindings c.in_ok-made.ensures.stays
    c.in_ok-made.ensures.made.bound c.requires.setting

pub returns : goal.returns
returns c =
    let names = c.args.symbols.now in
    let s = c.args.bindings.now in
    let t = c.make_functor.new.bindings in
    let n = c.args.count in
    let left = c.args.fuel.now in
    let middle = c.spend.new.self in
    let a = text_at names s c.args.at.now in
    let f = text_at names s c.args.name.now in
    let made = c.in_ok-made.made in
    let stays = c.in_ok-made.ensures.stays in
    let new : ℕ → Term Text = λ k. with_arguments f (variables_from k n) in
    paid-then (made_functor a f n left (texts_of names s)) n
    (λ l w. unify_terms a (new w.variables) l (texts_of names s) w (record w { variables = w.variables + n }))
    (λ w. unify_terms (text_at names t c.args.at.now) (text_at names t made) middle (texts_of names t) w w) names names names s t
    c.unify_terms.new.bindings left middle c.unify_terms.new.fuel c.unify_terms.result stays (λ w. refl) c.in_ok-spend.ensures.ok
    (λ w same.
    let counted : w.variables + n ≡ t.count = omega (arith, same, c.in_ok-made.ensures.made.count) in
    unified-part w (record w { variables = w.variables + n }) (record w { variables = t.count }) a (text_at names t c.args.at.now)
    (new w.variables) (text_at names t made) (texts_of names s) (texts_of names t) middle
    (ap (λ (k : ℕ). record w { variables = k }) counted) (sym (text-later names names s t c.args.at.now stays c.requires.at))
    (ap new same ∙ sym c.in_ok-made.ensures.made.text)
    (sym (texts-later names names s t stays c.in_ok-made.ensures.made.bound c.requires.setting)))
    c.unify_terms.ensures
