-- What the texts of a program make, and what a run may change of it: the procedures with their clauses (the database of ISO/IEC 13211-1,
-- 7.5), the operators (6.3.4) and the flags (7.11). Names are texts, as lists of bytes.
use Rattle.std.specs.Prelude.{ℕ, suc, ◌==◌, ◌&&◌, Bool, true, false, List, [], ◌∷◌, ◌++◌, Option, Some, None, bytes_eq, if◌then◌else◌}
use Rattle.std.specs.List.{flat_map}
use Rattle.op_logic.specs.Term.{Term, var, int, node, arity}
use Rattle.op_term.specs.Ops.{Table}
use Rattle.op_trace.specs.declared.flags.Flags.{Flags}

abbrev pub Text : Type 0
Text = List ℕ

abbrev pub text_eq : Text → Text → Bool
text_eq = bytes_eq

-- a clause (7.4, 7.5), its variables numbered from 0 in order of first occurrence in head and body, and how many there are; its own
-- number is given once
pub record Clause : Type 0 where
  pub id : ℕ
  pub head : Term Text
  pub body : Term Text
  pub variables : ℕ

-- a predicate indicator: a name, and how many arguments
pub record Indicator : Type 0 where
  pub name : Text
  pub arity : ℕ

abbrev pub name_arity : Text → ℕ → Indicator
name_arity f n = record { name = f; arity = n }

abbrev pub same_indicator : Indicator → Indicator → Bool
same_indicator a b = bytes_eq a.name b.name && (a.arity == b.arity)

-- the procedure that a head or a goal is of; none for a variable or a number
abbrev pub indicator_of_term : Term Text → Option Indicator
indicator_of_term (var v) = None
indicator_of_term (int i) = None
indicator_of_term (node f ts) = Some (name_arity f (arity ts))

-- the clauses in their order, and whether the program may change them
pub record Procedure : Type 0 where
  pub dynamic : Bool
  pub clauses : List Clause

-- each procedure in order of first sight; the number of the next clause; the operators; the flags
pub record Database : Type 0 where
  pub procedures : List (Indicator × Procedure)
  pub next : ℕ
  pub table : Table
  pub flags : Flags

abbrev pub procedure_in : List (Indicator × Procedure) → Indicator → Option Procedure
procedure_in [] k = None
procedure_in (e ∷ es) k = if same_indicator k e.0 then Some e.1 else procedure_in es k

abbrev pub with_procedure : List (Indicator × Procedure) → Indicator → Procedure → List (Indicator × Procedure)
with_procedure [] k p = (k, p) ∷ []
with_procedure (e ∷ es) k p = if same_indicator k e.0 then (e.0, p) ∷ es else e ∷ with_procedure es k p

abbrev pub set_procedure : Database → Indicator → Procedure → Database
set_procedure d k p = record d { procedures = with_procedure d.procedures k p }

-- a clause at the end of its procedure; a new procedure is static
abbrev pub extended : Option Procedure → Clause → Procedure
extended None c = record { dynamic = false; clauses = c ∷ [] }
extended (Some p) c = record { dynamic = p.dynamic; clauses = p.clauses ++ c ∷ [] }

abbrev pub with_clause : Database → Indicator → Clause → Database
with_clause d k c = record (set_procedure d k (extended (procedure_in d.procedures k) c)) { next = suc d.next }

-- a dynamic procedure without clauses
abbrev pub no_clauses : Procedure
no_clauses = record { dynamic = true; clauses = [] }

-- the procedure of a goal, or None where there is no such procedure
abbrev pub procedure_by : List (Indicator × Procedure) → Option Indicator → Option Procedure
procedure_by es None = None
procedure_by es (Some k) = procedure_in es k

abbrev pub procedure_of : Database → Term Text → Option Procedure
procedure_of d g = procedure_by d.procedures (indicator_of_term g)

-- the clauses of all procedures
abbrev pub clauses_of_database : Database → List Clause
clauses_of_database d = flat_map (λ e. e.1.clauses) d.procedures
