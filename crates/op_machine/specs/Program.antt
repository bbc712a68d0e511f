-- A program as a machine sees it: the clauses of a store, over the numbers of its names and over the names.
use Rattle.std.specs.Prelude.{ℕ, List, map, drop, All, Option, Some, None}
use Rattle.op_logic.specs.Term.{Term}
use Rattle.op_logic.specs.Names.{named}
use Rattle.op_bind.specs.declared.places.Clause.{Clause as NumberedClause}
use Rattle.op_trace.specs.Database.{Text, Clause}
use Rattle.op_trace.specs.Visit.{Inside, Clauses, inside_procedure}
use Rattle.op_store.specs.declared.procedures.pi.Pi.{Pi}
use Rattle.op_store.specs.Stored.{Stored}
use Rattle.op_store.specs.NumberedProcedures.{clause_named, IsNumberedClause}

abbrev pub goal_named : Stored → Term ℕ → Term Text
goal_named t g = named t.names g

abbrev pub clause_in : Stored → NumberedClause → Clause
clause_in t r = clause_named t.names r

-- those of some clauses from one on
abbrev pub clauses_from : Stored → List NumberedClause → ℕ → List Clause
clauses_from t snapshot i = map (clause_named t.names) (drop i snapshot)

-- a clause of some procedure, with its names in a table of so many
abbrev pub IsKnown : ℕ → NumberedClause → Type 0
IsKnown n r = (k : Pi) × IsNumberedClause n k r

abbrev pub AreKnown : ℕ → List NumberedClause → Type 0
AreKnown n snapshot = All (λ r. IsKnown n r) snapshot

-- what is in the box of a goal, by the clauses of its procedure
abbrev pub inside_snapshot : Stored → Option (List NumberedClause) → Term Text → Inside
inside_snapshot t None g = inside_procedure None g
inside_snapshot t (Some snapshot) g = Clauses (clauses_from t snapshot 0)
