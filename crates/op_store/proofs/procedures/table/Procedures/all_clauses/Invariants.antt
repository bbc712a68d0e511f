use Rattle.std.proofs.Common.{◌≡◌, take}
use Rattle.op_store.specs.NumberedProcedures.{all_numbered_clauses}
use Rattle.op_store.proofs.SharedClauses.{values}
use Rattle.op_store.proofs.procedures.table.Procedures.all_clauses.Given as goal

abbrev pub invariant-procedures : goal.invariant-procedures
invariant-procedures l = values l.all.items ≡ all_numbered_clauses (take l.i l.self-inside.by_indicator.entries)
