use Rattle.std.proofs.Common.{Ok, sym, ap, ◌∙◌}
use Rattle.op_machine.proofs.CaughtBalls.{unified-loaded, loaded-within}
use Rattle.op_machine.proofs.catching.unify_ball.Goals as goal

pub load-requires : goal.load-requires
load-requires c = loaded-within c.args.terms.now.count c.args.ball.now c.requires.ball

pub returns-in-Ok-Yes-clause-yes : goal.returns-in-Ok-Yes-clause-yes
returns-in-Ok-Yes-clause-yes c =
    λ e. sym (unified-loaded c.args.terms.now c.load.new.self c.args.ball.now c.in_ok-ball.ball c.args.catcher.now c.args.fuel.now
    c.in_ok-ball.ensures.grows c.in_ok-ball.ensures.bindings c.in_ok-ball.ensures.value c.requires.catcher)
    ∙ c.in-Ok-Yes.ensures.yes (ap Ok c.in-Ok-Yes.field-0-is)

pub returns-in-Ok-No-clause-no : goal.returns-in-Ok-No-clause-no
returns-in-Ok-No-clause-no c =
    λ e. sym (unified-loaded c.args.terms.now c.load.new.self c.args.ball.now c.in_ok-ball.ball c.args.catcher.now c.args.fuel.now
    c.in_ok-ball.ensures.grows c.in_ok-ball.ensures.bindings c.in_ok-ball.ensures.value c.requires.catcher)
    ∙ c.in-Ok-No.ensures.no (ap Ok c.in-Ok-No.field-0-is)

pub returns-in-Err-clause-spent : goal.returns-in-Err-clause-spent
returns-in-Err-clause-spent c =
    λ e. sym (unified-loaded c.args.terms.now c.load.new.self c.args.ball.now c.in_ok-ball.ball c.args.catcher.now c.args.fuel.now
    c.in_ok-ball.ensures.grows c.in_ok-ball.ensures.bindings c.in_ok-ball.ensures.value c.requires.catcher)
    ∙ c.in-Err.ensures.spent e
