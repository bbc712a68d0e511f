use Rattle.std.proofs.Common.{◌≡◌, ap, ◌∙◌, subst}
use Rattle.std.specs.Prelude.{is_some}
use Rattle.op_trace.specs.Database.{procedure_in}
use Rattle.op_store.specs.Stored.{Stored, database_of}
use Rattle.op_store.specs.NumberedProcedures.{indicator_named}
use Rattle.op_store.proofs.NamedProcedures.{is-named}
use Rattle.op_store.proofs.ProcedureLaws.{is-copied}
use Rattle.op_store.proofs.store.Store.has_procedure.Goals as goal

pub returns : goal.returns
returns c =
    let i = c.self.inside in
    subst (λ (s : Stored). c.is_some.result ≡ is_some (procedure_in (database_of s).procedures (indicator_named s.names c.args.pi)))
    c.self.view_is
    (c.is_some.ensures ∙ (is-copied c.find.result
    ∙ (ap is_some c.find.ensures ∙ is-named i.symbols c.self.invariant.names i.procedures c.args.pi)))
