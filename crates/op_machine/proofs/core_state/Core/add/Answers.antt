use Rattle.std.proofs.Common.{sym, ap, subst, ◌∙◌}
use Rattle.op_machine.specs.declared.core_state.Core.{Core}
use Rattle.op_machine.specs.declared.continuations.Item.{Item}
use Rattle.op_machine.proofs.InvariantLaws.{added-choice_points, added-good}
use Rattle.std.proofs.Common.{List}
use Rattle.op_machine.specs.Meaning.{choice_points_in}
use Rattle.op_machine.specs.inner.Invariant.{IsGood}
use Rattle.op_machine.proofs.core_state.Core.add.Goals as goal

pub returns-clause-choices : goal.returns-clause-choices
returns-clause-choices c =
    let old : Core = c.args.self.now in
    ap (λ (L : List (List Item)). choice_points_in (record old { continuations = L })) c.in_ok-add.ensures.ok
    ∙ added-choice_points old c.args.item c.args.rest c.requires.good

pub returns-clause-good : goal.returns-clause-good
returns-clause-good c =
    let old : Core = c.args.self.now in
    subst (λ (L : List (List Item)). IsGood (record old { continuations = L })) (sym c.in_ok-add.ensures.ok)
    (added-good old c.args.item c.args.rest c.requires.good c.requires.item c.requires.there c.requires.entered)
