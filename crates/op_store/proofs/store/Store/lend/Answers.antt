use Rattle.std.proofs.Common.{ap, ◌∙◌}
use Rattle.op_store.specs.Stored.{database_of}
use Rattle.op_store.proofs.Soundness.{joined-sound, joined-world}
use Rattle.op_store.proofs.store.Store.lend.Goals as goal

pub invariant_of-self : goal.invariant_of-self
invariant_of-self g c = joined-sound _ _ _ _ _ _ _ c.self.invariant c.count-count.ensures.table c.borrow-answer.ensures.names

pub returns-clause-world : goal.returns-clause-world
returns-clause-world g c = joined-world _ _ _ _ _ _ _ c.self.invariant c.borrow-answer.ensures.names ∙ ap database_of c.self.view_is
