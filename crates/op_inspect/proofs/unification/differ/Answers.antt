use Rattle.std.proofs.Common.{ap, ◌∙◌, Ok, Err, Some, refl}
use Rattle.op_inspect.specs.Answering.{succeeds_without, different_act}
use Rattle.op_inspect.specs.Outcomes.{text_at, texts_of}
use Rattle.op_inspect.proofs.Acting.{fault-answers}
use Rattle.op_inspect.proofs.TextsLater.{stays-self}
use Rattle.op_inspect.proofs.Unifying.{undone-answers, no-answers, unifier-short, found_text, found-text}
use Rattle.op_logic.specs.Laws.{rename_solved}
use Rattle.op_logic.specs.Names.{name_at}
use Rattle.op_bind.specs.State.{bindings, undone, Marked}
use Rattle.op_inspect.proofs.unification.differ.Goals as goal

pub returns-in-Ok-Yes : goal.returns-in-Ok-Yes
returns-in-Ok-Yes c =
    no-answers c.args.symbols.now c.count-count.ensures.table c.args.bindings.now c.args.a.now c.args.b.now c.args.fuel.now
    c.requires.setting c.requires.a c.requires.b c.unify.new.self c.unify.new.fuel c.in-Ok-Yes.ensures.grows c.in-Ok-Yes.ensures.later.count
    (succeeds_without (texts_of c.args.symbols.now c.args.bindings.now)) (Some (bindings c.unify.new.self)) refl
    (c.in-Ok-Yes.ensures.yes (ap Ok c.in-Ok-Yes.field-0-is))

pub returns-in-Ok-No : goal.returns-in-Ok-No
returns-in-Ok-No c =
    undone-answers c.args.symbols.now c.count-count.ensures.table c.args.bindings.now c.args.a.now c.args.b.now c.args.fuel.now
    c.requires.setting c.requires.a c.requires.b c.unify.new.self c.unify.new.fuel c.in-Ok-No.ensures.grows c.in-Ok-No.ensures.later.count
    c.undo_to.new.self (c.undo_to.ensures ∙ ap (λ (m : Marked). undone c.unify.new.self m) c.mark-mark.ensures.mark)
    (c.in-Ok-No.ensures.no (ap Ok c.in-Ok-No.field-0-is))

pub returns-in-Err : goal.returns-in-Err
returns-in-Err c =
    let names = c.args.symbols.now in
    let s = c.args.bindings.now in
    fault-answers (different_act (text_at names s c.args.a.now) (text_at names s c.args.b.now) c.args.fuel.now (texts_of names s))
    names names s c.unify.new.self c.args.fuel.now c.unify.new.fuel c.in-Err.fault
    (record { kept = (stays-self names s).kept; grows = c.in-Err.ensures.grows }) c.in-Err.ensures.falls
    (λ e w same. unifier-short (found_text names c.count-count.ensures.table s c.args.a.now c.args.b.now c.args.fuel.now c.requires.setting
    c.requires.a c.requires.b) c.args.fuel.now w w (succeeds_without (texts_of names s))
    (found-text names c.count-count.ensures.table s c.args.a.now c.args.b.now c.args.fuel.now c.requires.setting c.requires.a c.requires.b
    ∙ ap (rename_solved (name_at names)) (c.in-Err.ensures.spent (ap Err e))))
