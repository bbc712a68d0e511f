use Rattle.std.proofs.Common.{false}
use Rattle.op_machine.specs.declared.turn.Last.TheVariants as last
use Rattle.op_machine.proofs.AnswerLaws.{begun-run}
use Rattle.op_machine.proofs.machine.Machine.start.Goals as goal

pub returns-clause-run : goal.returns-clause-run
returns-clause-run c =
    begun-run c.args.store c.args.goal.now.body c.args.goal.now.vars c.args.goal.now.names c.args.budget c.args.wanted c.in_ok-core.core
    last.Nothing false c.in_ok-core.ensures.begun
