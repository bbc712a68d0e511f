use Rattle.std.proofs.Common.{◌≡◌, length, ap, arith}
use Rattle.op_bind.specs.State.{Marked}
use Rattle.op_bind.proofs.StateGrowth.{mark-stays}
use Rattle.op_text_cases.proofs.loaded.add_unified.Goals as goal

pub add_undone-requires-clause-good : goal.add_undone-requires-clause-good
add_undone-requires-clause-good c = mark-stays c.args.bindings.now c.add_answer.new.bindings c.mark-mark.result
    c.mark-mark.ensures.good c.in_ok-add_answer.ensures

pub add_undone-requires-clause-there : goal.add_undone-requires-clause-there
add_undone-requires-clause-there c = omega (arith, c.requires, ap (λ (m : Marked). m.terms) c.mark-mark.ensures.mark)
