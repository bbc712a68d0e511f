use Rattle.std.proofs.Common.{sym, subst}
use Rattle.op_cursor.specs.declared.part.Side.{Side}
use Rattle.op_cursor.specs.inner.Stacks.{IsFollowed}
use Rattle.op_cursor.proofs.FollowedSides.{followed-event}
use Rattle.op_cursor.proofs.matching.followed.Goals as goal

pub returns-in-Event : goal.returns-in-Event
returns-in-Event c =
    subst (λ (s : Side). IsFollowed c.args.whole.now.terms c.args.values.now s s) (sym c.in-Event.is)
    (followed-event c.args.whole.now.terms c.args.values.now c.in-Event.field-0)
