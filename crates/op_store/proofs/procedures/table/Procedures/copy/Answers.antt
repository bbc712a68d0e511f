use Rattle.op_store.proofs.ProcedureLaws.{insert-more}
use Rattle.op_store.proofs.procedures.table.Procedures.copy.Goals as goal

pub procedures-preserved : goal.procedures-preserved
procedures-preserved c =
    insert-more c.self.inside.by_indicator.entries c.procedures.by_indicator.entries c.insert.new.self.entries c.procedures.i
    c.unwrap.result.0.now c.unwrap.result.1.now c.in_ok-copy.field-0 c.len-i-end.ensures.unique
    (rw c.unwrap.ensures at c.get_index.ensures.entry) c.in_ok-copy.ensures c.procedures.invariant c.in_ok-insert.ensures.entries
