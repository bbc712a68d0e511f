use Rattle.std.proofs.Common.{◌≡◌, ◌++◌, ◌∷◌, [], List, Option, Some, sym, ap, ◌∙◌}
use Rattle.op_bind.specs.declared.places.Clause.{Clause as NumberedClause}
use Rattle.op_store.specs.declared.procedures.procedure.Procedure.{Procedure as NumberedProcedure}
use Rattle.std.specs.Map.{set_value}
use Rattle.op_store.specs.NumberedProcedures.{NumberedProcedures, pi_eq, numbered_procedure_in, with_numbered_procedure, extended_numbered}
use Rattle.op_store.proofs.ProcedureLaws.{set-inserts, set-same, on-ok, on-err-map}
use Rattle.op_store.proofs.procedures.table.Procedures.add.Goals as goal

pub returns-in-Some-clause-ok : goal.returns-in-Some-clause-ok
returns-in-Some-clause-ok c =
    let es : NumberedProcedures = c.self.inside.by_indicator.entries in
    let p : NumberedProcedure = c.in-Some.procedure.now in
    let w : NumberedProcedure = record { dynamic = p.dynamic; clauses = c.push.new.self } in
    let got : numbered_procedure_in es c.args.pi ≡ Some p = sym c.in-Some.ensures.value in
    let e = (c.get_mut.follows.holds w).0 in
    on-ok c.push.result
    (λ (q : c.push.new.self ≡ p.clauses ++ c.args.clause ∷ []).
    let written : w ≡ extended_numbered (numbered_procedure_in es c.args.pi) c.args.clause =
    ap (λ (rs : List NumberedClause). let x : NumberedProcedure = record { dynamic = p.dynamic; clauses = rs } in x) q
    ∙ sym (ap (λ (o : Option NumberedProcedure). extended_numbered o c.args.clause) got) in
    e ∙ (set-inserts c.args.pi es p w got ∙ (ap (with_numbered_procedure es c.args.pi) written
    ∙ ap (λ (ps : NumberedProcedures). with_numbered_procedure ps c.args.pi
    (extended_numbered (numbered_procedure_in ps c.args.pi) c.args.clause)) c.self.view_is)))
    c.push.ensures.ok

pub returns-in-Some-clause-err : goal.returns-in-Some-clause-err
returns-in-Some-clause-err c =
    let es : NumberedProcedures = c.self.inside.by_indicator.entries in
    let p : NumberedProcedure = c.in-Some.procedure.now in
    let w : NumberedProcedure = record { dynamic = p.dynamic; clauses = c.push.new.self } in
    let got : numbered_procedure_in es c.args.pi ≡ Some p = sym c.in-Some.ensures.value in
    let e = (c.get_mut.follows.holds w).0 in
    on-err-map c.push.result
    (λ (q : c.push.new.self ≡ p.clauses).
    let same : w ≡ p = ap (λ (rs : List NumberedClause). let x : NumberedProcedure = record { dynamic = p.dynamic; clauses = rs } in x) q in
    e ∙ (ap (λ (x : NumberedProcedure). set_value (pi_eq c.args.pi) es x) same ∙ (set-same c.args.pi es p got ∙ c.self.view_is)))
    c.push.ensures.err
