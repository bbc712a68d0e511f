use Rattle.std.proofs.Common.{◌≡◌, take}
use Rattle.op_store.proofs.procedures.table.Procedures.copy.Given as goal

abbrev pub invariant-procedures : goal.invariant-procedures
invariant-procedures l = l.by_indicator.entries ≡ take l.i l.self-inside.by_indicator.entries
