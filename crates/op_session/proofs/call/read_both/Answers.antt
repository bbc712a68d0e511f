use Rattle.std.proofs.Common.{◌∙◌}
use Rattle.std.proofs.lemmas.Result.{err_from_is_err_and}
use Rattle.op_store.specs.declared.names.locked.Locked.TheVariants.{Program}
use Rattle.op_store.specs.Load.{load_text}
use Rattle.op_store.specs.Stored.{database_of}
use Rattle.op_store.specs.Queries.{query_named}
use Rattle.op_session.specs.Call.{Session, first_world, traced_of, with_loaded}
use Rattle.op_session.specs.Sight.{sight}
use Rattle.op_session.specs.inner.Refusing.{told_outcome}
use Rattle.op_session.proofs.GoingOn.{untouched_more, outcome_more, ends_further, outcome_new}
use Rattle.op_session.proofs.call.read_both.Goals as goal

pub returns-in_err-text-clause-goes : goal.returns-in_err-text-clause-goes
returns-in_err-text-clause-goes g c =
    let p = err_from_is_err_and c.from_residual.result c.from_residual.ensures.1 in rw (p.1, p.2) (c.in_err-text.ensures c.args.goal.now)

pub returns-in_err-load_program-clause-goes : goal.returns-in_err-load_program-clause-goes
returns-in_err-load_program-clause-goes g c =
    let p = err_from_is_err_and c.from_residual-in_err-load_program.result c.from_residual-in_err-load_program.ensures.1 in
    let asked = c.args.goal.now in
    let read = c.in_ok-text.ensures asked in
    let store = c.args.store.now in
    let new = outcome_new c.args.program.now asked c.in_ok-text.text c.as_slice.result.now store c.as_slice.ensures c.requires in
    rw (p.1, p.2) (λ n. ends_further _ _ _ _ _ _ _ n new (c.in_err-load_program.ensures.goes asked n) read.0 read.1)

pub returns-in_err-goal-clause-goes : goal.returns-in_err-goal-clause-goes
returns-in_err-goal-clause-goes g c =
    let p = err_from_is_err_and c.from_residual-in_err-goal.result c.from_residual-in_err-goal.ensures.1 in
    let asked = c.args.goal.now in
    let read = c.in_ok-text.ensures asked in
    let loaded = c.in_ok-load_program.ensures.goes asked in
    let store = c.args.store.now in
    let new = outcome_new c.args.program.now asked c.in_ok-text.text c.as_slice.result.now store c.as_slice.ensures c.requires in
    rw (p.1, p.2)
    (λ n. ends_further _ _ _ _ _ _ _ n (new ∙ loaded.1) (c.in_err-goal.ensures.goes n) (untouched_more _ _ _ read.0 loaded.0) read.1)

pub returns-clause-goes : goal.returns-clause-goes
returns-clause-goes g c =
    let program = c.args.program.now in
    let asked = c.args.goal.now in
    let read = c.in_ok-text.ensures asked in
    let loaded = c.in_ok-load_program.ensures.goes asked in
    let query = c.in_ok-goal.ensures.goes in
    let read_into = c.read_goal.new.store in
    let store = c.args.store.now in
    let new = outcome_new program asked c.in_ok-text.text c.as_slice.result.now store c.as_slice.ensures c.requires in (
      untouched_more _ _ _ (untouched_more _ _ _ read.0 loaded.0) query.0,
      outcome_more (told_outcome (sight g.D.Desk c.args.desk.now).shelf program asked)
          (with_loaded program asked (load_text Program first_world c.in_ok-text.text))
          (Session (traced_of 10000000 (database_of read_into) (query_named read_into.names c.in_ok-goal.goal)))
          read.1 (new ∙ loaded.1 ∙ query.1),
    )
