use Rattle.std.proofs.Common.{ap, ◌∙◌}
use Rattle.op_store.specs.Stored.{database_of}
use Rattle.op_store.proofs.Soundness.{joined-sound, joined-world}
use Rattle.op_store.proofs.store.Store.goal.Goals as goal

pub invariant_of-self : goal.invariant_of-self
invariant_of-self c = joined-sound _ _ _ _ _ _ _ c.self.invariant c.count-count.ensures.table c.read_goal-goal.ensures.kept

pub returns-clause-world : goal.returns-clause-world
returns-clause-world c = joined-world _ _ _ _ _ _ _ c.self.invariant c.read_goal-goal.ensures.kept ∙ ap database_of c.self.view_is
