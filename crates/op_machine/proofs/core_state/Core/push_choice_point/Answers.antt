use Rattle.std.proofs.Common.{sym, ap, ◌∙◌, subst}
use Rattle.op_frames.specs.Frames.{Framed}
use Rattle.op_machine.specs.declared.choice_points.Alternative.{Alternative}
use Rattle.op_machine.specs.declared.core_state.Core.{Core}
use Rattle.op_machine.specs.Meaning.{Frame, choice_points_in}
use Rattle.op_machine.specs.inner.Invariant.{IsGood}
use Rattle.op_machine.proofs.MadeChoices.{IsMadeNow, made-good, made-choice_points}
use Rattle.op_machine.proofs.core_state.Core.push_choice_point.Goals as goal

pub returns-clause-choices : goal.returns-clause-choices
returns-clause-choices c =
    let old : Core = c.args.self.now in
    let f : Frame = c.choice_now-choice.result in
    let h = c.choice_now-choice.ensures in
    let now : IsMadeNow old c.args.kind c.args.goal c.args.rest f =
    record { mark = h.mark; good = h.good; rest = h.rest; kept = h.kept } in
    ap (λ (x : Framed Alternative). choice_points_in (record old { frames = x })) c.in_ok-push_choice.ensures.ok
    ∙ made-choice_points old c.args.kind c.args.goal c.args.rest f now

pub returns-clause-good : goal.returns-clause-good
returns-clause-good c =
    let old : Core = c.args.self.now in
    let f : Frame = c.choice_now-choice.result in
    let h = c.choice_now-choice.ensures in
    let now : IsMadeNow old c.args.kind c.args.goal c.args.rest f =
    record { mark = h.mark; good = h.good; rest = h.rest; kept = h.kept } in
    subst (λ (x : Framed Alternative). IsGood (record old { frames = x })) (sym c.in_ok-push_choice.ensures.ok)
    (made-good old c.args.kind c.args.goal c.args.rest f now c.requires.good c.requires.there c.requires.goal c.requires.kind
    c.requires.tried)
