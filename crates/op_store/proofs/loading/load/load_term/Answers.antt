use Rattle.std.proofs.Common.{sym, ap, ◌∙◌}
use Rattle.op_logic.specs.Names.{named}
use Rattle.op_store.specs.Load.{loaded, stopped, line_at, fault_line}
use Rattle.op_reader.specs.declared.fault.ReadFaultKind.{ReadFaultKind}
use Rattle.op_store.specs.Fault.{syntax}
use Rattle.op_store.specs.Queries.{fault_named}
use Rattle.op_store.specs.Stored.{Stored, database_of}
use Rattle.op_store.proofs.LoadLaws.{term-kept, stopped-same, step-end, step-refused, step-fault, step-goes}
use Rattle.op_store.proofs.loading.load.load_term.Goals as goal

pub returns-in-Ok-clause-tells : goal.returns-in-Ok-clause-tells
returns-in-Ok-clause-tells c =
    let old : Stored = c.args.store.now in
    let mid : Stored = c.read.new.self in
    let new : Stored = c.take_term.new.store in
    let read = c.in-Ok-Term.read in
    step-goes old.locked (database_of old) (database_of new) c.args.line c.args.bytes.now (named mid.names read.term) read.names read.used
    (rw c.in-Ok-Term.field-0-is at c.in-Ok-Term.ensures.tells)
    (term-kept old mid new read.term _ c.read.ensures.world c.read.ensures.kept c.take_term.ensures.names
    (rw c.in-Ok-Term.field-0-is at c.in-Ok-Term.ensures.known) c.in-Ok.ensures.tells)

pub returns-in-Ok-Term-clause-tells : goal.returns-in-Ok-Term-clause-tells
returns-in-Ok-Term-clause-tells c = λ n.
    let old : Stored = c.args.store.now in
    let mid : Stored = c.read.new.self in
    let new : Stored = c.take_term.new.store in
    let read = c.in-Ok-Term.read in
    let told = rw c.in-Err-Refused.field-0-is at c.in-Err-Refused.ensures.tells in
    step-fault old.locked (database_of old) c.args.line c.args.bytes.now (named mid.names read.term) read.names read.used
    (fault_named new.names c.in-Err-Refused.kind) (rw c.in-Ok-Term.field-0-is at c.in-Ok-Term.ensures.tells)
    (term-kept old mid new read.term _ c.read.ensures.world c.read.ensures.kept c.take_term.ensures.names
    (rw c.in-Ok-Term.field-0-is at c.in-Ok-Term.ensures.known) told.0) n
    ∙ stopped-same (database_of old) (database_of new) _ c.line_at.result (fault_named new.names c.in-Err-Refused.kind)
    (sym (c.in-Err-Refused.ensures.err ∙ c.read.ensures.world))
    (sym (c.line_at.ensures ∙ ap (line_at c.args.line c.args.bytes.now) c.first_token.ensures))

pub returns-in-Ok-End-clause-tells : goal.returns-in-Ok-End-clause-tells
returns-in-Ok-End-clause-tells c = λ n.
    let old : Stored = c.args.store.now in
    step-end old.locked (database_of old) c.args.line c.args.bytes.now (rw c.in-Ok-End.field-0-is at c.in-Ok-End.ensures.tells) n
    ∙ ap loaded (sym c.read.ensures.world)

pub returns-in-Err-Bad-clause-tells : goal.returns-in-Err-Bad-clause-tells
returns-in-Err-Bad-clause-tells c = λ n.
    let old : Stored = c.args.store.now in
    step-refused old.locked (database_of old) c.args.line c.args.bytes.now c.in-Err-Bad.place c.in-Err-Bad.kind
    (rw c.in-Err-Bad.field-0-is at c.in-Err-Bad.ensures.tells) n
    ∙ stopped-same (database_of old) (database_of c.read.new.self) _ c.fault_line.result (syntax c.in-Err-Bad.kind)
    (sym c.read.ensures.world)
    (sym (c.fault_line.ensures ∙ ap (fault_line c.args.line c.args.bytes.now) c.in-Err-Bad.place-is))
    ∙ ap (λ (k : ReadFaultKind). stopped (database_of c.read.new.self) c.fault_line.result (syntax k)) (sym c.in-Err-Bad.kind-is)
