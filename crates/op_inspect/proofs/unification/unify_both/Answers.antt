use Rattle.std.proofs.Common.{◌≡◌, ◌-◌, ap, sym, ◌∙◌, Ok, Err, Some, [], ◌∷◌, arith, subst}
use Rattle.op_term.specs.Places.{term_at}
use Rattle.op_logic.specs.Term.{Term}
use Rattle.op_trace.specs.Database.{Text}
use Rattle.op_trace.specs.World.{World}
use Rattle.op_trace.specs.Act.{Act}
use Rattle.op_inspect.specs.Answering.{succeeds_with, unify_pairs, unify_terms}
use Rattle.op_inspect.specs.Outcomes.{text_at, texts_of}
use Rattle.op_inspect.specs.inner.Settings.{Stays}
use Rattle.op_inspect.proofs.Acting.{IsPart, answers-from, fault-answers}
use Rattle.op_inspect.proofs.TextsLater.{stays-self, text-later}
use Rattle.op_inspect.proofs.Unifying.{found-yes, unified-less, unifier-short, both-part, both-spent, both-no-answers, atomic-text}
use Rattle.op_bind.specs.State.{bindings}
use Rattle.op_inspect.proofs.unification.unify_both.Goals as goal

pub unify_terms-requires-clause-setting : goal.unify_terms-requires-clause-setting
unify_terms-requires-clause-setting c =
    found-yes c.args.symbols.now c.count-count.ensures.table c.args.bindings.now c.args.a.now c.args.b.now c.args.fuel.now
    c.requires.setting c.requires.a c.requires.b c.unify.new.self c.unify.new.fuel c.in-Ok-Yes.ensures.grows c.in-Ok-Yes.ensures.later.count
    (c.in-Ok-Yes.ensures.yes (ap Ok c.in-Ok-Yes.field-0-is))

pub returns-in-Ok-Yes : goal.returns-in-Ok-Yes
returns-in-Ok-Yes c =
    let names = c.args.symbols.now in
    let s = c.args.bindings.now in
    let t = c.unify.new.self in
    let left = c.args.fuel.now in
    let l = c.unify.new.fuel in
    let atomic = atomic-text names (term_at s.terms c.args.b.now) c.requires.atomic in
    let e = c.in-Ok-Yes.ensures.yes (ap Ok c.in-Ok-Yes.field-0-is) in
    let less = unified-less left l s (term_at s.terms c.args.a.now) (term_at s.terms c.args.b.now) (Some (bindings t)) e in
    let stays : Stays names names s t = record { kept = (stays-self names s).kept; grows = c.in-Ok-Yes.ensures.grows } in
    let third = text-later names names s t c.args.c.now stays c.requires.c in
    let fourth = text-later names names s t c.args.d.now stays c.requires.d in
    answers-from (λ w. unify_pairs ((text_at names s c.args.a.now, text_at names s c.args.b.now)
    ∷ (text_at names s c.args.c.now, text_at names s c.args.d.now) ∷ []) left (texts_of names s) w w)
    (λ w. unify_terms (text_at names t c.args.c.now) (text_at names t c.args.d.now) l (texts_of names t) w w) (left - l)
    names names names s t c.unify_terms.new.bindings left l c.unify_terms.new.fuel c.unify_terms.result stays (omega (arith, less))
    (λ w same.
    let v : World = record w { variables = t.count } in
    let here : w ≡ v = ap (λ n. record w { variables = n }) (same ∙ sym c.in-Ok-Yes.ensures.later.count) in
    let terms : unify_terms (text_at names s c.args.c.now) (text_at names s c.args.d.now) l (texts_of names t) v v
    ≡ unify_terms (text_at names t c.args.c.now) (text_at names t c.args.d.now) l (texts_of names t) v v =
    ap (λ (x : Term Text). unify_terms x (text_at names s c.args.d.now) l (texts_of names t) v v) (sym third)
    ∙ ap (λ (x : Term Text). unify_terms (text_at names t c.args.c.now) x l (texts_of names t) v v) (sym fourth) in
    subst (λ (x : Act). IsPart (left - l) (unify_pairs ((text_at names s c.args.a.now, text_at names s c.args.b.now)
    ∷ (text_at names s c.args.c.now, text_at names s c.args.d.now) ∷ []) left (texts_of names s) w w) x) terms
    (both-part names c.count-count.ensures.table s c.args.a.now c.args.b.now c.args.c.now c.args.d.now left c.requires.setting c.requires.a
    c.requires.b atomic t l e w v here))
    c.unify_terms.ensures

pub returns-in-Ok-No : goal.returns-in-Ok-No
returns-in-Ok-No c =
    let names = c.args.symbols.now in
    let s = c.args.bindings.now in
    both-no-answers names c.count-count.ensures.table s c.args.a.now c.args.b.now c.args.c.now c.args.d.now c.args.fuel.now
    c.requires.setting
    c.requires.a c.requires.b (atomic-text names (term_at s.terms c.args.b.now) c.requires.atomic) c.unify.new.self c.unify.new.fuel
    c.in-Ok-No.ensures.grows c.in-Ok-No.ensures.later.count (c.in-Ok-No.ensures.no (ap Ok c.in-Ok-No.field-0-is))

pub returns-in-Err : goal.returns-in-Err
returns-in-Err c =
    let names = c.args.symbols.now in
    let s = c.args.bindings.now in
    fault-answers (λ w. unify_pairs ((text_at names s c.args.a.now, text_at names s c.args.b.now)
    ∷ (text_at names s c.args.c.now, text_at names s c.args.d.now) ∷ []) c.args.fuel.now (texts_of names s) w w)
    names names s c.unify.new.self c.args.fuel.now c.unify.new.fuel c.in-Err.fault
    (record { kept = (stays-self names s).kept; grows = c.in-Err.ensures.grows }) c.in-Err.ensures.falls
    (λ e w same. unifier-short _ c.args.fuel.now w w succeeds_with
    (both-spent names c.count-count.ensures.table s c.args.a.now c.args.b.now c.args.c.now c.args.d.now c.args.fuel.now c.requires.setting
    c.requires.a c.requires.b (atomic-text names (term_at s.terms c.args.b.now) c.requires.atomic) (c.in-Err.ensures.spent (ap Err e))))
