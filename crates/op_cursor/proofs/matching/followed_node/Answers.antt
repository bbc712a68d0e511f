use Rattle.std.proofs.Common.{refl}
use Rattle.op_cursor.proofs.FollowedSides.{followed-bound}
use Rattle.op_cursor.proofs.matching.followed_node.Goals as goal

pub returns-in-Some : goal.returns-in-Some
returns-in-Some c =
    followed-bound c.args.whole.now.terms c.args.values.now c.args.at c.in-Var.v c.in-Some.part c.in-Var.ensures
    (λ w. c.in-Some.ensures.some c.in-Some.part refl w) (λ w. c.in-Some.ensures.part c.in-Some.part refl w)
