use Rattle.std.proofs.Common.{◌≡◌, ◌∙◌, ap, sym, length, Err, Ok, List, ℕ, subst}
use Rattle.std.proofs.lemmas.Result.{err_from_is_err_and}
use Rattle.op_store.specs.Load.{goal_of}
use Rattle.op_store.specs.Stored.{database_of}
use Rattle.op_store.specs.Queries.{query_named, TellsGoal}
use Rattle.op_session.proofs.CallEnds.{leaves_memory, untouched_start}
use Rattle.op_session.specs.Call.{Session, traced_of}
use Rattle.op_session.proofs.CallOutcomes.{renamed, goal-sound, goal-refused}
use Rattle.op_session.proofs.GoingOn.{outcome_query}
use Rattle.op_session.proofs.call.read_goal.Goals as goal

pub refuse-requires : goal.refuse-requires
refuse-requires g c = goal-sound c.args.store.now.table c.args.store.now.flags.quotes c.as_bytes.result.now c.goal.new.self.names
    (length c.goal.new.self.names) c.in-Err.fault c.in-Err.ensures.tells

pub returns-in-Err-clause-goes : goal.returns-in-Err-clause-goes
returns-in-Err-clause-goes g c = λ n.
    let old = c.args.store.now in
    let told : TellsGoal c.goal.new.self.names (Err c.in-Err.fault) (goal_of old.table old.flags.quotes c.args.text.now) =
    subst (λ (t : List ℕ). TellsGoal c.goal.new.self.names (Err c.in-Err.fault) (goal_of old.table old.flags.quotes t))
    c.as_bytes.ensures.value c.in-Err.ensures.tells in
    goal-refused (database_of old) c.goal.new.self.names
    (goal_of old.table old.flags.quotes c.args.text.now) c.in-Err.fault _ _ _ n told c.refuse.ensures

pub returns-in_err-is_runnable_goal-clause-goes : goal.returns-in_err-is_runnable_goal-clause-goes
returns-in_err-is_runnable_goal-clause-goes g c =
    let p = err_from_is_err_and c.from_residual.result c.from_residual.ensures.1 in
    rw (p.1, p.2) (λ n. leaves_memory _ _ _ n (untouched_start _))

pub returns-in_err-demand_runnable-clause-goes : goal.returns-in_err-demand_runnable-clause-goes
returns-in_err-demand_runnable-clause-goes g c =
    let p = err_from_is_err_and c.from_residual-in_err-demand_runnable.result c.from_residual-in_err-demand_runnable.ensures.1 in
    let old = c.args.store.now in
    let new = c.goal.new.self in
    let q = query_named new.names c.in-Ok.goal in
    let text : goal_of old.table old.flags.quotes c.args.text.now ≡ Ok q =
    ap (goal_of old.table old.flags.quotes) (sym c.as_bytes.ensures.value) ∙ c.in-Ok.ensures.tells in
    let outcome = outcome_query (database_of old) (database_of new) _ q _ c.in-Ok.ensures.world text c.in_ok-is_runnable_goal.ensures in
    rw (p.1, p.2)
    (λ n. renamed _ _ _ _ _ n n (sym outcome) (c.in_err-demand_runnable.ensures (Session (traced_of 10000000 (database_of new) q)) n))

pub returns-clause-goes : goal.returns-clause-goes
returns-clause-goes g c =
    let old = c.args.store.now in
    let new = c.goal.new.self in
    let q = query_named new.names c.in-Ok.goal in
    let text : goal_of old.table old.flags.quotes c.args.text.now ≡ Ok q =
    ap (goal_of old.table old.flags.quotes) (sym c.as_bytes.ensures.value) ∙ c.in-Ok.ensures.tells in
    let outcome = outcome_query (database_of old) (database_of new) _ q _ c.in-Ok.ensures.world text c.in_ok-is_runnable_goal.ensures in
    let goes = c.in_ok-demand_runnable.ensures (Session (traced_of 10000000 (database_of new) q)) in
    (goes.0, outcome ∙ goes.1)
