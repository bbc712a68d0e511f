use Rattle.std.proofs.Common.{◌≡◌, ◌<◌, length, take, Some, Ok, sym, ap, ◌∙◌, subst}
use Rattle.std.specs.Prelude.{option_map}
use Rattle.op_logic.specs.Names.{IsTable}
use Rattle.op_store.specs.declared.procedures.procedure.Procedure.{Procedure as NumberedProcedure}
use Rattle.op_store.specs.NumberedProcedures.{NumberedProcedures, numbered_procedure_in, with_numbered_procedure, no_numbered_clauses}
use Rattle.op_store.specs.Stored.{Stored, IsSound, database_of}
use Rattle.op_store.proofs.DirectiveLaws.{made-kept, made-static, made-new, none-there, new-behind, procedures-dynamic}
use Rattle.op_store.proofs.store.Store.make_dynamic.Goals as goal

pub invariant_of-self-in-None : goal.invariant_of-self-in-None
invariant_of-self-in-None c =
    let i = c.self.inside in
    let s : Stored =
    record { locked = i.locked; names = i.symbols; table = i.ops; flags = i.flags; procedures = i.procedures; next = i.next } in
    let h : IsSound (record s { procedures = with_numbered_procedure i.procedures c.args.pi no_numbered_clauses }) = record {
      names = c.self.invariant.names;
      begins = c.self.invariant.begins;
      table = c.self.invariant.table;
      procedures = procedures-dynamic (length i.symbols) c.args.pi i.procedures
          (subst (λ (x : Stored). c.args.pi.name.0 < length x.names) (sym c.self.view_is) c.requires) c.self.invariant.procedures;
    } in
    subst (λ (ps : NumberedProcedures). IsSound (record s { procedures = ps })) (sym c.in_ok-make_dynamic-in-None.ensures.ok) h

pub returns-in-Some-true-clause-tells : goal.returns-in-Some-true-clause-tells
returns-in-Some-true-clause-tells c =
    made-kept c.args.self.now c.args.pi c.is_locked-locked.result
    (subst (λ (x : Stored). IsTable x.names) c.self.view_is c.self.invariant.names) c.is_locked-locked.ensures c.if-locked.false
    (ap Some (sym c.in-Some-true.field-0-test) ∙ (c.in-Some-true.ensures
    ∙ ap (λ (x : Stored). option_map (λ (p : NumberedProcedure). p.dynamic) (numbered_procedure_in x.procedures c.args.pi)) c.self.view_is))

pub returns-in-Some-false-clause-tells : goal.returns-in-Some-false-clause-tells
returns-in-Some-false-clause-tells c = (
  made-static c.args.self.now c.args.pi c.is_locked-locked.result
      (subst (λ (x : Stored). IsTable x.names) c.self.view_is c.self.invariant.names) c.is_locked-locked.ensures c.if-locked.false
      (ap Some (sym c.in-Some-false.field-0-test) ∙ (c.in-Some-false.ensures
      ∙ ap (λ (x : Stored). option_map (λ (p : NumberedProcedure). p.dynamic)
      (numbered_procedure_in x.procedures c.args.pi)) c.self.view_is)),
  tt,
)

pub returns-in_ok-make_dynamic-in-None-clause-tells : goal.returns-in_ok-make_dynamic-in-None-clause-tells
returns-in_ok-make_dynamic-in-None-clause-tells c =
    let ps : NumberedProcedures = c.make_dynamic.new.self in
    made-new c.args.self.now c.args.pi ps c.is_locked-locked.result
    (subst (λ (x : Stored). IsTable x.names) c.self.view_is c.self.invariant.names) c.is_locked-locked.ensures c.if-locked.false
    (c.in-None.ensures ∙ ap
    (λ (x : Stored). option_map (λ (p : NumberedProcedure). p.dynamic) (numbered_procedure_in x.procedures c.args.pi)) c.self.view_is)
    (c.in_ok-make_dynamic-in-None.ensures.ok
    ∙ ap (λ (x : Stored). with_numbered_procedure x.procedures c.args.pi no_numbered_clauses) c.self.view_is)
    ∙ ap (λ (x : Stored). Ok (database_of (record x { procedures = ps }))) (sym c.self.view_is)

pub returns-in_ok-make_dynamic-in-None-clause-front : goal.returns-in_ok-make_dynamic-in-None-clause-front
returns-in_ok-make_dynamic-in-None-clause-front c =
    let i = c.self.inside in
    subst (λ (x : Stored). take (length x.procedures) c.make_dynamic.new.self ≡ x.procedures) c.self.view_is
    (ap (take (length i.procedures)) c.in_ok-make_dynamic-in-None.ensures.ok
    ∙ new-behind i.procedures c.args.pi no_numbered_clauses (none-there i.procedures c.args.pi c.in-None.ensures))
