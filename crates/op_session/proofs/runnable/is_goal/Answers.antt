use Rattle.std.proofs.Common.{◌∙◌}
use Rattle.op_session.proofs.RunnableBodies.{built-struct}
use Rattle.op_session.proofs.runnable.is_goal.Goals as goal

pub returns-in-Struct : goal.returns-in-Struct
returns-in-Struct g c =
    c.is_built-in-Struct.ensures
    ∙ built-struct c.args.store.now.names (g.T.Tree.term c.args.tree.now c.args.at.now) c.in-Struct.name c.in-Struct.arity
    c.in-Struct.ensures
