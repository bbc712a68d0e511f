use Rattle.std.proofs.Common.{take, length, sym, subst}
use Rattle.op_store.specs.NumberedProcedures.{NumberedProcedures}
use Rattle.op_store.specs.Stored.{Stored, IsSound}
use Rattle.op_store.proofs.DirectiveLaws.{procedures-front}
use Rattle.op_store.proofs.store.Store.forget_procedures.Goals as goal

pub invariant_of-self : goal.invariant_of-self
invariant_of-self c =
    let i = c.self.inside in
    let s : Stored =
    record { locked = i.locked; names = i.symbols; table = i.ops; flags = i.flags; procedures = i.procedures; next = i.next } in
    let h : IsSound (record s { procedures = take c.args.count i.procedures }) = record {
      names = c.self.invariant.names;
      begins = c.self.invariant.begins;
      table = c.self.invariant.table;
      procedures = procedures-front (length i.symbols) c.args.count i.procedures c.self.invariant.procedures;
    } in
    subst (λ (ps : NumberedProcedures). IsSound (record s { procedures = ps })) (sym c.truncate.ensures) h
