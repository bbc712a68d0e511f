use Rattle.op_store.specs.declared.loading.load_fault.LoadFault.TheVariants.{Memory, At}
use Rattle.op_session.proofs.CallEnds.{untouched_start}
use Rattle.op_session.proofs.CallOutcomes.{refuses-as, refuses-memory, refuses-load}
use Rattle.op_session.proofs.talk.refuse.Goals as goal

pub returns-in-Memory : goal.returns-in-Memory
returns-in-Memory g c = refuses-as c.args.store.now.names c.args.name.now c.args.fault Memory _ _ _ c.in-Memory.is
    (refuses-memory c.args.store.now.names c.args.name.now _ (untouched_start _))

pub returns-in-At : goal.returns-in-At
returns-in-At g c =
    refuses-as c.args.store.now.names c.args.name.now c.args.fault (At c.in-At.line c.in-At.kind) _ _ _ c.in-At.is
    (rw c.ended_as.ensures
    (refuses-load c.args.store.now.names c.args.name.now c.in-At.line c.in-At.kind _ _ c.say_refused.result c.say_refused.ensures))
