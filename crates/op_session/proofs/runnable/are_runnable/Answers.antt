use Rattle.std.proofs.Common.{◌≡◌, Bool, sym, ap, ◌∙◌, subst, All, IfOk, length}
use Rattle.std.specs.List.{list_all}
use Rattle.op_logic.specs.Names.{HasNames, named}
use Rattle.op_bind.specs.declared.places.Clause.{Clause as NumberedClause}
use Rattle.op_trace.specs.Database.{Clause}
use Rattle.op_store.specs.Stored.{database_of}
use Rattle.op_store.specs.NumberedProcedures.{clause_named}
use Rattle.op_session.specs.Runnable.{is_runnable, are_runnable}
use Rattle.op_session.proofs.RunnableBodies.{procedures-bodies, list_all-map}
use Rattle.op_session.proofs.runnable.are_runnable.Goals as goal

pub are_runnable_clauses-requires-clause-names : goal.are_runnable_clauses-requires-clause-names
are_runnable_clauses-requires-clause-names c =
    let s = c.args.store.now in
    subst (All (λ (r : NumberedClause). HasNames (length s.names) r.body)) (sym c.in_ok-clauses.ensures.clauses)
    (procedures-bodies (length s.names) s.procedures c.in_ok-clauses.ensures.sound.procedures)

pub returns : goal.returns
returns c =
    let s = c.args.store.now in
    let e : list_all (λ (r : NumberedClause). is_runnable (named s.names r.body)) c.in_ok-clauses.clauses
    ≡ are_runnable (database_of s) =
    sym (list_all-map (λ (k : Clause). is_runnable k.body) (clause_named s.names) c.in_ok-clauses.clauses)
    ∙ ap (list_all (λ (k : Clause). is_runnable k.body)) c.in_ok-clauses.ensures.world in
    subst (λ (x : Bool). IfOk c.are_runnable_clauses.result (λ b. b ≡ x)) e c.are_runnable_clauses.ensures
