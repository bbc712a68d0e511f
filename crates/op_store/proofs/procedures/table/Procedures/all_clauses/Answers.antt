use Rattle.op_store.specs.declared.procedures.pi.Pi.{Pi}
use Rattle.op_store.specs.declared.procedures.procedure.Procedure.{Procedure as NumberedProcedure}
use Rattle.op_store.proofs.SharedClauses.{values}
use Rattle.op_store.proofs.ProcedureLaws.{all-more}
use Rattle.op_store.proofs.procedures.table.Procedures.all_clauses.Goals as goal

pub procedures-preserved : goal.procedures-preserved
procedures-preserved c =
    let e : Pi × NumberedProcedure = (c.unwrap.result.0.now, c.unwrap.result.1.now) in
    all-more c.self.inside.by_indicator.entries c.procedures.i e (values c.procedures.all.items) (values c.add_to.new.all.items)
    (rw c.unwrap.ensures at c.get_index.ensures.entry) c.procedures.invariant c.in_ok-add_to.ensures
