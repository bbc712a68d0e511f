use Rattle.std.proofs.Common.{sym, subst}
use Rattle.op_store.specs.NumberedProcedures.{NumberedProcedures, with_numbered_procedure, extended_numbered, numbered_procedure_in}
use Rattle.op_bind.specs.declared.places.Clause.{Clause as NumberedClause}
use Rattle.op_store.specs.Stored.{Stored, IsSound}
use Rattle.op_store.specs.NumberedProcedures.{IsNumberedClause}
use Rattle.std.specs.Prelude.{length}
use Rattle.op_store.proofs.Soundness.{sound-joins}
use Rattle.op_store.proofs.store.Store.add.Goals as goal

pub invariant_of-self-2 : goal.invariant_of-self-2
invariant_of-self-2 c =
    let i = c.self.inside in
    let s : Stored =
    record { locked = i.locked; names = i.symbols; table = i.ops; flags = i.flags; procedures = i.procedures; next = i.next } in
    let r : NumberedClause = record { id = i.next; head = c.args.head; body = c.args.body; vars = c.args.vars } in
    let clause : IsNumberedClause (length i.symbols) c.args.pi r =
    subst (λ (x : Stored). IsNumberedClause (length x.names) c.args.pi
    (record { id = x.next; head = c.args.head; body = c.args.body; vars = c.args.vars })) (sym c.self.view_is) c.requires in
    let joined : IsSound
    (record s {
      procedures = with_numbered_procedure i.procedures c.args.pi
          (extended_numbered (numbered_procedure_in i.procedures c.args.pi) r);
      next = c.in_ok-next.next;
    }) =
    let j = sound-joins s c.args.pi r c.self.invariant clause in
    record { names = j.names; begins = j.begins; table = j.table; procedures = j.procedures } in
    subst (λ (ps : NumberedProcedures). IsSound (record s { procedures = ps; next = c.in_ok-next.next }))
    (sym c.in_ok-add.ensures.ok) joined
