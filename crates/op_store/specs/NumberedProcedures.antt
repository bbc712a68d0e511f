-- The procedures of a store: over the numbers of names, each with its clauses.
use Rattle.std.specs.Prelude.{◌≡◌, ◌<◌, ℕ, ◌==◌, ◌&&◌, Bool, false, true, List, [], ◌∷◌, ◌++◌, map, Option, Some, None, All}
use Rattle.std.specs.List.{flat_map}
use Rattle.std.specs.Map.{lookup}
use Rattle.indexmap.specs.IndexMap.{insert_entry}
use Rattle.op_logic.specs.Term.{Term, var, int, node, arity, IsWithin}
use Rattle.op_logic.specs.Names.{name_at, named, HasNames}
use Rattle.op_term.specs.Head.{sym}
use Rattle.op_trace.specs.Database.{Text, Clause}
use Rattle.op_bind.specs.declared.places.Clause.{Clause as NumberedClause}
use Rattle.op_store.specs.declared.procedures.pi.Pi.{Pi}
use Rattle.op_store.specs.declared.procedures.procedure.Procedure.{Procedure as NumberedProcedure}
use Rattle.op_trace.specs.Database.{Indicator, name_arity, Procedure}

abbrev pub NumberedProcedures : Type 0
NumberedProcedures = List (Pi × NumberedProcedure)

abbrev pub pi_eq : Pi → Pi → Bool
pi_eq a b = (a.name.0 == b.name.0) && (a.arity == b.arity)

abbrev pub numbered_procedure_in : NumberedProcedures → Pi → Option NumberedProcedure
numbered_procedure_in procedures k = lookup (pi_eq k) procedures

abbrev pub with_numbered_procedure : NumberedProcedures → Pi → NumberedProcedure → NumberedProcedures
with_numbered_procedure procedures k r = insert_entry pi_eq procedures k r

abbrev pub extended_numbered : Option NumberedProcedure → NumberedClause → NumberedProcedure
extended_numbered None r = record { dynamic = false; clauses = r ∷ [] }
extended_numbered (Some p) r = record { dynamic = p.dynamic; clauses = p.clauses ++ r ∷ [] }

-- the clauses of all procedures
abbrev pub all_numbered_clauses : NumberedProcedures → List NumberedClause
all_numbered_clauses procedures = flat_map (λ e. e.1.clauses) procedures

abbrev pub no_numbered_clauses : NumberedProcedure
no_numbered_clauses = record { dynamic = true; clauses = [] }

-- the procedure that a term is of
abbrev pub pi_of : Term ℕ → Option Pi
pi_of (var v) = None
pi_of (int i) = None
pi_of (node f ts) = Some (record { name = sym f; arity = arity ts })

-- the same over texts

abbrev pub indicator_named : List Text → Pi → Indicator
indicator_named names k = name_arity (name_at names k.name.0) k.arity

abbrev pub clause_named : List Text → NumberedClause → Clause
clause_named names r = record { id = r.id; head = named names r.head; body = named names r.body; variables = r.vars }

abbrev pub procedure_named : List Text → NumberedProcedure → Procedure
procedure_named names p = record { dynamic = p.dynamic; clauses = map (clause_named names) p.clauses }

abbrev pub procedures_named : List Text → NumberedProcedures → List (Indicator × Procedure)
procedures_named names procedures = map (λ e. (indicator_named names e.0, procedure_named names e.1)) procedures

-- a clause for a procedure, whose names are among so many, and whose variables are counted
pub record IsNumberedClause (n : ℕ) (k : Pi) (r : NumberedClause) : Type 0 where
  pub for : pi_of r.head ≡ Some k
  pub head_names : HasNames n r.head
  pub body_names : HasNames n r.body
  pub head_within : IsWithin r.vars r.head
  pub body_within : IsWithin r.vars r.body

pub record IsNumberedProcedure (n : ℕ) (k : Pi) (p : NumberedProcedure) : Type 0 where
  pub name : k.name.0 < n
  pub clauses : All (λ r. IsNumberedClause n k r) p.clauses

abbrev pub AreNumberedProcedures : ℕ → NumberedProcedures → Type 0
AreNumberedProcedures n [] = Unit {0}
AreNumberedProcedures n (e ∷ es) = IsNumberedProcedure n e.0 e.1 × AreNumberedProcedures n es
