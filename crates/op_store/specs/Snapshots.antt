-- What a snapshot of a procedure has.
use Rattle.std.specs.Prelude.{List, [], Option, Some, None}
use Rattle.op_bind.specs.declared.places.Clause.{Clause as NumberedClause}

-- no clauses where there is no procedure
abbrev pub snapshot_clauses : Option (List NumberedClause) → List NumberedClause
snapshot_clauses None = []
snapshot_clauses (Some snapshot) = snapshot
