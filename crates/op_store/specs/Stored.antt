-- What a store has, over the numbers of its names, and the world that this is.
use Rattle.std.specs.Prelude.{◌≡◌, ℕ, suc, false, List, [], ◌∷◌, ◌++◌, Bool, Option, Some, None, length, take, codes}
use Rattle.op_logic.specs.Names.{IsTable}
use Rattle.op_term.specs.Ops.{Table, iso_table}
use Rattle.op_term.specs.Ops as ops
use Rattle.op_trace.specs.Database.{Text}
use Rattle.op_term.specs.declared.quotes.DoubleQuotes.TheVariants.{Codes}
use Rattle.op_bind.specs.declared.places.Clause.{Clause as NumberedClause}
use Rattle.op_trace.specs.declared.flags.Flags.{Flags}
use Rattle.op_store.specs.declared.names.locked.Locked.{Locked}
use Rattle.op_store.specs.declared.procedures.pi.Pi.{Pi}
use Rattle.op_trace.specs.Database.{Database, Procedure}
use Rattle.op_store.specs.NumberedProcedures.{NumberedProcedures, numbered_procedure_in, with_numbered_procedure, extended_numbered}
use Rattle.op_store.specs.NumberedProcedures.{all_numbered_clauses, procedures_named, AreNumberedProcedures}

-- which names are locked; the names; the operators; the flags; the procedures; the number of the next clause
pub record Stored : Type 0 where
  pub locked : Locked
  pub names : List Text
  pub table : Table
  pub flags : Flags
  pub procedures : NumberedProcedures
  pub next : ℕ

abbrev pub database_of : Stored → Database
database_of s = record { procedures = procedures_named s.names s.procedures; next = s.next; table = s.table; flags = s.flags }

-- the names that each store has first: those of the control constructs (ISO/IEC 13211-1, 7.8), where call has any number of arguments
abbrev pub control_names : List Text
control_names = codes "true" ∷ codes "fail" ∷ codes "false" ∷ codes "," ∷ codes ";" ∷ codes "->" ∷ codes "!" ∷ codes "call" ∷ []

-- those of the builtins of control (7.8, 8.15 and 8.17)
abbrev pub builtin_names : List Text
builtin_names = codes "once" ∷ codes "\\+" ∷ codes "throw" ∷ codes "halt" ∷ codes "catch" ∷ []

-- and those of the errors of these (7.12.2)
abbrev pub error_names : List Text
error_names =
    codes "error" ∷ codes "opium" ∷ codes "instantiation_error" ∷ codes "type_error" ∷ codes "callable" ∷ codes "integer" ∷
    codes "existence_error" ∷ codes "procedure" ∷ codes "/" ∷ []

abbrev pub first_names : List Text
first_names = control_names ++ (builtin_names ++ error_names)

-- at first: the operators of the standard, text in double quotes as codes, and unknown procedures are errors
abbrev pub new_store : Locked → Stored
new_store l = record {
  locked = l;
  names = first_names;
  table = iso_table;
  flags = record { quotes = Codes; unknown_fails = false };
  procedures = [];
  next = 0;
}

-- a clause joins at the end of its procedure
abbrev pub with_numbered_clause : Stored → Pi → NumberedClause → Stored
with_numbered_clause s k r = record s {
  procedures = with_numbered_procedure s.procedures k (extended_numbered (numbered_procedure_in s.procedures k) r);
  next = suc s.next;
}

-- all clauses, procedure by procedure in order of first sight
abbrev pub numbered_clauses : Stored → List NumberedClause
numbered_clauses s = all_numbered_clauses s.procedures

abbrev pub is_dynamic_procedure : Option Procedure → Bool
is_dynamic_procedure None = false
is_dynamic_procedure (Some p) = p.dynamic

-- the names begin with those that come first, and those of the procedures and their clauses are among them
pub record IsSound (s : Stored) : Type 0 where
  pub names : IsTable s.names
  pub begins : take (length first_names) s.names ≡ first_names
  pub table : ops.IsTable s.table
  pub procedures : AreNumberedProcedures (length s.names) s.procedures
