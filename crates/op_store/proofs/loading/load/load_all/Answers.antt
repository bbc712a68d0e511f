use Rattle.std.proofs.Common.{suc, length, sym, ap, arith}
use Rattle.op_store.specs.Load.{Loaded, loaded}
use Rattle.op_store.specs.Stored.{Stored, database_of}
use Rattle.op_store.proofs.LoadedTerms.{at-last, at-most, err-told, err-stands}
use Rattle.op_store.proofs.loading.load.load_all.Goals as goal

pub returns-in-Err-clause-tells : goal.returns-in-Err-clause-tells
returns-in-Err-clause-tells c =
    let old : Stored = c.args.store.now in
    err-told (Unit {0}) old.locked c.terms.store.locked
    (database_of old) c.terms.store c.load_term.new.store c.args.text.now c.terms.bytes.now c.terms.counter c.terms.line c.in-Err.fault
    c.terms.invariant.tells c.terms.invariant.locked (omega (arith, c.terms-test.true)) c.in-Err.ensures.tells

pub returns-in-Err-clause-stands : goal.returns-in-Err-clause-stands
returns-in-Err-clause-stands c =
    let old : Stored = c.args.store.now in
    err-stands old.locked c.terms.store.locked (database_of old) c.terms.store c.load_term.new.store c.args.text.now c.terms.bytes.now
    c.terms.counter c.terms.line c.in-Err.fault
    c.terms.invariant.tells c.terms.invariant.locked (omega (arith, c.terms-test.true)) c.in-Err.ensures.tells

pub returns-in-Ok-None-clause-tells : goal.returns-in-Ok-None-clause-tells
returns-in-Ok-None-clause-tells c =
    let old : Stored = c.args.store.now in
    at-last old.locked c.terms.store.locked (database_of old)
    (database_of c.terms.store) c.args.text.now c.terms.bytes.now c.terms.counter c.terms.line (loaded (database_of c.load_term.new.store))
    c.terms.invariant.tells c.terms.invariant.locked (omega (arith, c.terms-test.true))
    (rw c.in-Ok-None.field-0-is at c.in-Ok-None.ensures.tells)

pub returns-in-Ok-None-clause-stands : goal.returns-in-Ok-None-clause-stands
returns-in-Ok-None-clause-stands c =
    let old : Stored = c.args.store.now in
    let last =
    at-last old.locked c.terms.store.locked (database_of old) (database_of c.terms.store) c.args.text.now c.terms.bytes.now c.terms.counter
    c.terms.line (loaded (database_of c.load_term.new.store)) c.terms.invariant.tells c.terms.invariant.locked
    (omega (arith, c.terms-test.true)) (rw c.in-Ok-None.field-0-is at c.in-Ok-None.ensures.tells) in
    (suc (length c.args.text.now), sym (ap (λ (x : Loaded). x.world) last))

pub returns-clause-tells : goal.returns-clause-tells
returns-clause-tells c =
    let old : Stored = c.args.store.now in
    at-most old.locked (database_of old) (database_of c.terms.store) c.args.text.now c.terms.bytes.now c.terms.counter c.terms.line
    c.terms.invariant.tells (omega (arith, c.terms-test.false, c.terms.auto.counter-end))

pub returns-clause-stands : goal.returns-clause-stands
returns-clause-stands c =
    let old : Stored = c.args.store.now in
    let most =
    at-most old.locked (database_of old) (database_of c.terms.store) c.args.text.now c.terms.bytes.now c.terms.counter c.terms.line
    c.terms.invariant.tells (omega (arith, c.terms-test.false, c.terms.auto.counter-end)) in
    (suc (length c.args.text.now), sym (ap (λ (x : Loaded). x.world) most))
