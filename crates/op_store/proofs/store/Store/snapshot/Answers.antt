use Rattle.std.proofs.Common.{◌≡◌, ℕ, List, map, length, Option, Some, None, All, sym, ap, ◌∙◌, subst}
use Rattle.std.specs.Prelude.{option_map}
use Rattle.op_trace.specs.Database.{Clause, procedure_by, procedure_of}
use Rattle.op_bind.specs.declared.places.Clause.{Clause as NumberedClause}
use Rattle.op_trace.specs.Database.{Procedure, procedure_in}
use Rattle.op_store.specs.declared.procedures.procedure.Procedure.{Procedure as NumberedProcedure}
use Rattle.op_store.specs.declared.procedures.pi.Pi.{Pi}
use Rattle.op_store.specs.Stored.{Stored, database_of}
use Rattle.op_store.specs.NumberedProcedures.{indicator_named, clause_named, procedure_named}
use Rattle.op_store.proofs.NamedProcedures.{found-named}
use Rattle.op_store.proofs.Soundness.{procedure-at}
use Rattle.op_store.specs.NumberedProcedures.{IsNumberedClause, pi_of}
use Rattle.op_store.proofs.AddedClauses.{indicator-of-named}
use Rattle.op_logic.specs.Term.{Term}
use Rattle.op_logic.specs.Names.{named}
use Rattle.op_store.proofs.store.Store.snapshot.Goals as goal

abbrev clauses_in : Stored → Pi → Option (List Clause)
clauses_in s k = option_map (λ (p : Procedure). p.clauses) (procedure_in (database_of s).procedures (indicator_named s.names k))

pub returns-in_ok-copy-in-Some-clause-world : goal.returns-in_ok-copy-in-Some-clause-world
returns-in_ok-copy-in-Some-clause-world c =
    let i = c.self.inside in
    let p : NumberedProcedure = c.in-Some.procedure.now in
    subst (λ (s : Stored). Some (map (clause_named s.names) c.in_ok-copy-in-Some.field-0) ≡ clauses_in s c.args.pi) c.self.view_is
    (ap (λ (rs : List NumberedClause). Some (map (clause_named i.symbols) rs)) c.in_ok-copy-in-Some.ensures
    ∙ (ap (λ (o : Option NumberedProcedure). option_map (λ (q : Procedure). q.clauses)
    (option_map (procedure_named i.symbols) o)) c.in-Some.ensures
    ∙ ap (option_map (λ (q : Procedure). q.clauses)) (sym (found-named i.symbols c.count-names.ensures.table i.procedures c.args.pi))))

pub returns-in-None-clause-world : goal.returns-in-None-clause-world
returns-in-None-clause-world c =
    let i = c.self.inside in
    subst (λ (s : Stored). None ≡ clauses_in s c.args.pi) c.self.view_is
    (ap (λ (o : Option NumberedProcedure). option_map (λ (q : Procedure). q.clauses)
    (option_map (procedure_named i.symbols) o)) c.in-None.ensures
    ∙ ap (option_map (λ (q : Procedure). q.clauses)) (sym (found-named i.symbols c.count-names.ensures.table i.procedures c.args.pi)))

pub returns-in_ok-copy-in-Some-clause-sound : goal.returns-in_ok-copy-in-Some-clause-sound
returns-in_ok-copy-in-Some-clause-sound c =
    let i = c.self.inside in
    let p : NumberedProcedure = c.in-Some.procedure.now in
    subst (λ (s : Stored). All (λ r. IsNumberedClause (length s.names) c.args.pi r) c.in_ok-copy-in-Some.field-0) c.self.view_is
    (subst (λ (rs : List NumberedClause). All (λ r. IsNumberedClause (length i.symbols) c.args.pi r) rs) (sym c.in_ok-copy-in-Some.ensures)
    (procedure-at (length i.symbols) c.args.pi i.procedures p c.self.invariant.procedures (sym c.in-Some.ensures)).clauses)

-- the clauses of the procedure of a goal
clauses-of-goal : (s : Stored) (k : Pi) (o : Option (List NumberedClause)) → option_map (map (clause_named s.names)) o ≡ clauses_in s k
    → (g : Term ℕ)
    → pi_of g ≡ Some k → option_map (λ (p : Procedure). p.clauses) (procedure_of (database_of s) (named s.names g))
    ≡ option_map (map (clause_named s.names)) o
clauses-of-goal s k o h g e =
    ap (λ x. option_map (λ (p : Procedure). p.clauses) (procedure_by (database_of s).procedures x))
    (indicator-of-named s.names g ∙ ap (option_map (indicator_named s.names)) e)
    ∙ sym h

pub returns-in_ok-copy-in-Some-clause-procedure : goal.returns-in_ok-copy-in-Some-clause-procedure
returns-in_ok-copy-in-Some-clause-procedure c =
    clauses-of-goal c.args.self.now c.args.pi (Some c.in_ok-copy-in-Some.field-0) (returns-in_ok-copy-in-Some-clause-world c)

pub returns-in-None-clause-procedure : goal.returns-in-None-clause-procedure
returns-in-None-clause-procedure c = clauses-of-goal c.args.self.now c.args.pi None (returns-in-None-clause-world c)
