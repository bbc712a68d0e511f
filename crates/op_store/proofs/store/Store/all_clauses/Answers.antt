use Rattle.std.proofs.Common.{List, map, ap, ◌∙◌}
use Rattle.op_bind.specs.declared.places.Clause.{Clause as NumberedClause}
use Rattle.op_store.specs.Stored.{Stored, numbered_clauses}
use Rattle.op_store.specs.NumberedProcedures.{clause_named}
use Rattle.op_store.proofs.NamedProcedures.{clauses-of}
use Rattle.op_store.proofs.ProcedureLaws.{if-ok}
use Rattle.op_store.proofs.store.Store.all_clauses.Goals as goal

pub returns-clause-world : goal.returns-clause-world
returns-clause-world c =
    let s : Stored = c.args.self.now in
    if-ok c.all_clauses.result
    (λ (rs : List NumberedClause) e. ap (map (clause_named s.names)) (e ∙ ap numbered_clauses c.self.view_is) ∙ clauses-of s)
    c.all_clauses.ensures
