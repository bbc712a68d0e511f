use Rattle.std.proofs.Common.{List, length, Option, subst}
use Rattle.op_bind.specs.declared.places.Clause.{Clause as NumberedClause}
use Rattle.op_store.specs.Snapshots.{snapshot_clauses}
use Rattle.op_machine.specs.Program.{AreKnown}
use Rattle.op_machine.proofs.core_state.Core.enter_box.Goals as goal

pub push_more-requires-clause-known : goal.push_more-requires-clause-known
push_more-requires-clause-known c =
    let P : Option (List NumberedClause) → Type 0 = λ o. AreKnown (length c.args.self.now.store.names) (snapshot_clauses o) in
    subst P c.in-Some.is c.requires.known
