use Rattle.std.proofs.Common.{◌≡◌, ◌++◌, ◌∷◌, [], length, sym, ◌∙◌, ap, subst, arith}
use Rattle.std.specs.Prelude.{IsTrue, ◌↔◌}
use Rattle.std.specs.Bool.{OnFalse}
use Rattle.op_token.specs.Cut.{IsOpen, IsFollowed}
use Rattle.op_token.specs.Kind.{kind_of}
use Rattle.op_token.specs.Walk.{step_of, has_ended}
use Rattle.op_token.proofs.TermTexts.{walk_length, walked_push, push_says}
use Rattle.op_token.proofs.cutter.Cutter.push.Goals as goal
use Rattle.op_token.proofs.cutter.Cutter.push.Goals.{After-has_ended}

pub step-self-inside-requires : goal.step-self-inside-requires
step-self-inside-requires c =
    let e : c.self.inside.walk.at ≡ length c.self.inside.bytes.items =
    ap (λ w. w.at) c.self.invariant ∙ walk_length c.self.inside.bytes.items in
    omega (arith, c.in_ok-push.ensures.upper_bound, c.in_ok-push.ensures.len, c.self.inside.bytes.ok.0)

says : (c : After-has_ended)
    → (IsTrue c.has_ended.result ↔ IsFollowed (c.self.inside.bytes.items ++ c.args.byte ∷ []))
    × OnFalse c.has_ended.result (IsOpen (c.self.inside.bytes.items ++ c.args.byte ∷ []))
says c =
    push_says c.self.inside.bytes.items c.args.byte c.has_ended.result (subst IsOpen (sym c.self.view_is) c.requires.open)
    (c.has_ended.ensures
    ∙ ap (λ w. has_ended w.mode) c.step-self-inside.ensures
    ∙ ap (λ k. has_ended (step_of c.self.inside.walk k).mode) c.of.ensures
    ∙ ap (λ w. has_ended (step_of w (kind_of c.args.byte)).mode) c.self.invariant
    ∙ ap (λ w. has_ended w.mode) (sym (walked_push c.self.inside.bytes.items c.args.byte)))

pub returns-clause-ended : goal.returns-clause-ended
returns-clause-ended c = subst (λ q. IsTrue c.has_ended.result ↔ IsFollowed q) (sym c.in_ok-push.ensures.items) (says c).0

pub returns-clause-going : goal.returns-clause-going
returns-clause-going c = subst (λ q. OnFalse c.has_ended.result (IsOpen q)) (sym c.in_ok-push.ensures.items) (says c).1
