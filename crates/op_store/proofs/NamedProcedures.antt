-- Procedures over the numbers of names and over the names.
use Rattle.std.proofs.Common.{◌≡◌, ℕ, ◌==◌, ◌&&◌, cond, Bool, true, false, List, [], ◌∷◌, ◌++◌, map, Option, Some, None, refl, sym, ap, ◌∙◌}
use Rattle.std.specs.Prelude.{option_map, is_some, bytes_eq}
use Rattle.std.specs.List.{flat_map}
use Rattle.std.proofs.lemmas.Bool.Decides.{Decides-eqb}
use Rattle.std.proofs.lemmas.Slice.Eq.{bytes_eq-Decides}
use Rattle.std.proofs.lemmas.List.{map-append}
use Rattle.op_logic.proofs.BoolCases.{by_test}
use Rattle.op_logic.proofs.NameTables.{same_number}
use Rattle.op_logic.specs.Names.{name_at, IsTable}
use Rattle.op_trace.specs.Database.{Text, Clause}
use Rattle.op_bind.specs.declared.places.Clause.{Clause as NumberedClause}
use Rattle.op_store.specs.declared.procedures.pi.Pi.{Pi}
use Rattle.op_store.specs.declared.procedures.procedure.Procedure.{Procedure as NumberedProcedure}
use Rattle.op_trace.specs.Database.{Indicator, same_indicator, Procedure, procedure_in, with_procedure, extended, clauses_of_database}
use Rattle.op_store.specs.Stored.{Stored, numbered_clauses, database_of}
use Rattle.op_store.specs.NumberedProcedures.{NumberedProcedures, pi_eq, numbered_procedure_in, with_numbered_procedure, extended_numbered}
use Rattle.op_store.specs.NumberedProcedures.{all_numbered_clauses, indicator_named, clause_named, procedure_named}
use Rattle.op_store.specs.NumberedProcedures.{procedures_named}

text-same : (names : List Text) → IsTable names → (m n : ℕ) → bytes_eq (name_at names m) (name_at names n) ≡ (m == n)
text-same names t m n =
    by_test (m == n)
    (λ e. (bytes_eq-Decides (name_at names m) (name_at names n)).1 (ap (name_at names) ((Decides-eqb m n).0 e)) ∙ sym e)
    (λ f. by_test (bytes_eq (name_at names m) (name_at names n))
    (λ e. let same : m ≡ n = same_number names t m n ((bytes_eq-Decides (name_at names m) (name_at names n)).0 e) in
    let bad : true ≡ false = sym ((Decides-eqb m n).1 same) ∙ f in absurd cc)
    (λ e. e ∙ sym f))

pub indicator-same : (names : List Text) → IsTable names → (a b : Pi) → same_indicator (indicator_named names a) (indicator_named names b)
    ≡ pi_eq a b
indicator-same names t a b = ap (λ (x : Bool). x && (a.arity == b.arity)) (text-same names t a.name.0 b.name.0)

found-on : (names : List Text) (b : Bool) (p : NumberedProcedure) (o : Option NumberedProcedure)
    → cond b (Some (procedure_named names p)) (option_map (procedure_named names) o)
    ≡ option_map (procedure_named names) (cond b (Some p) o)
found-on names true p o = refl
found-on names false p o = refl

-- a procedure is found by its number as by its name
pub found-named : (names : List Text) → IsTable names → (ps : NumberedProcedures) (k : Pi)
    → procedure_in (procedures_named names ps) (indicator_named names k) ≡ option_map (procedure_named names) (numbered_procedure_in ps k)
found-named names t [] k = refl
found-named names t (e ∷ es) k =
    ap (λ (b : Bool). cond b (Some (procedure_named names e.1)) (procedure_in (procedures_named names es) (indicator_named names k)))
    (indicator-same names t k e.0)
    ∙ (ap (λ (o : Option Procedure). cond (pi_eq k e.0) (Some (procedure_named names e.1)) o) (found-named names t es k)
    ∙ found-on names (pi_eq k e.0) e.1 (numbered_procedure_in es k))

put-on : (names : List Text) (b : Bool) (k : Pi) (old new : NumberedProcedure) (es more : NumberedProcedures)
    → cond b ((indicator_named names k, procedure_named names new) ∷ procedures_named names es)
    ((indicator_named names k, procedure_named names old) ∷ procedures_named names more)
    ≡ procedures_named names (cond b ((k, new) ∷ es) ((k, old) ∷ more))
put-on names true k old new es more = refl
put-on names false k old new es more = refl

pub put-named : (names : List Text) → IsTable names → (ps : NumberedProcedures) (k : Pi) (p : NumberedProcedure)
    → with_procedure (procedures_named names ps) (indicator_named names k) (procedure_named names p)
    ≡ procedures_named names (with_numbered_procedure ps k p)
put-named names t [] k p = refl
put-named names t (e ∷ es) k p =
    ap (λ (b : Bool). cond b ((indicator_named names e.0, procedure_named names p) ∷ procedures_named names es)
    ((indicator_named names e.0, procedure_named names e.1) ∷ with_procedure (procedures_named names es) (indicator_named names k)
    (procedure_named names p)))
    (indicator-same names t k e.0)
    ∙ (ap (λ (ps : List (Indicator × Procedure)). cond (pi_eq k e.0)
    ((indicator_named names e.0, procedure_named names p) ∷ procedures_named names es)
    ((indicator_named names e.0, procedure_named names e.1) ∷ ps)) (put-named names t es k p)
    ∙ put-on names (pi_eq k e.0) e.0 e.1 p es (with_numbered_procedure es k p))

pub extended-named : (names : List Text) (o : Option NumberedProcedure) (r : NumberedClause)
    → extended (option_map (procedure_named names) o) (clause_named names r) ≡ procedure_named names (extended_numbered o r)
extended-named names None r = refl
extended-named names (Some p) r =
    ap (λ (cs : List Clause). let x : Procedure = record { dynamic = p.dynamic; clauses = cs } in x)
    (sym (map-append (clause_named names) p.clauses (r ∷ [])))

-- all clauses, over the names
pub clauses-named : (names : List Text) (ps : NumberedProcedures)
    → map (clause_named names) (all_numbered_clauses ps) ≡ flat_map (λ e. e.1.clauses) (procedures_named names ps)
clauses-named names [] = refl
clauses-named names (e ∷ es) =
    map-append (clause_named names) e.1.clauses (all_numbered_clauses es)
    ∙ ap (λ (cs : List Clause). map (clause_named names) e.1.clauses ++ cs) (clauses-named names es)

-- the clauses of a world are those of its store
pub clauses-of : (s : Stored) → map (clause_named s.names) (numbered_clauses s) ≡ clauses_of_database (database_of s)
clauses-of s = clauses-named s.names s.procedures

some-named : (names : List Text) (o : Option NumberedProcedure) → is_some o ≡ is_some (option_map (procedure_named names) o)
some-named names None = refl
some-named names (Some p) = refl

pub is-named : (names : List Text) → IsTable names → (ps : NumberedProcedures) (k : Pi)
    → is_some (numbered_procedure_in ps k) ≡ is_some (procedure_in (procedures_named names ps) (indicator_named names k))
is-named names t ps k = some-named names (numbered_procedure_in ps k) ∙ ap is_some (sym (found-named names t ps k))
