use Rattle.std.proofs.Common.{◌≡◌, false, Option, sym, ap, ◌∙◌, subst}
use Rattle.std.specs.Prelude.{option_map}
use Rattle.op_trace.specs.Database.{procedure_in}
use Rattle.op_store.specs.declared.procedures.procedure.Procedure.{Procedure as NumberedProcedure}
use Rattle.op_store.specs.Stored.{Stored, database_of, is_dynamic_procedure}
use Rattle.op_store.specs.NumberedProcedures.{indicator_named, procedure_named}
use Rattle.op_store.proofs.NamedProcedures.{found-named}
use Rattle.op_store.proofs.store.Store.is_dynamic.Goals as goal

pub returns-in-Some : goal.returns-in-Some
returns-in-Some c =
    let i = c.self.inside in
    let p : NumberedProcedure = c.in-Some.procedure.now in
    subst (λ (s : Stored). p.dynamic ≡ is_dynamic_procedure (procedure_in (database_of s).procedures (indicator_named s.names c.args.pi)))
    c.self.view_is
    (ap (λ (o : Option NumberedProcedure). is_dynamic_procedure (option_map (procedure_named i.symbols) o)) c.in-Some.ensures
    ∙ ap is_dynamic_procedure (sym (found-named i.symbols c.count-names.ensures.table i.procedures c.args.pi)))

pub returns-in-None : goal.returns-in-None
returns-in-None c =
    let i = c.self.inside in
    subst (λ (s : Stored). false
    ≡ is_dynamic_procedure (procedure_in (database_of s).procedures (indicator_named s.names c.args.pi))) c.self.view_is
    (ap (λ (o : Option NumberedProcedure). is_dynamic_procedure (option_map (procedure_named i.symbols) o)) c.in-None.ensures
    ∙ ap is_dynamic_procedure (sym (found-named i.symbols c.count-names.ensures.table i.procedures c.args.pi)))
