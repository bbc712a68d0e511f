use Rattle.std.proofs.lemmas.Result.{IfOk-weaker}
use Rattle.op_machine.specs.declared.core_state.Core.{Core}
use Rattle.op_machine.specs.inner.Moves.{Makes}
use Rattle.op_machine.proofs.MadeJoins.{makes-joins}
use Rattle.op_machine.proofs.core_state.Core.make_no_solution.Goals as goal

pub returns-clause-made : goal.returns-clause-made
returns-clause-made c =
    let old : Core = c.args.self.now in
    let failed : Core = c.make_atom.new.self in
    let paired : Core = c.make_pair.new.self in
    let done : Core = c.make_atom-2.new.self in
    let new : Core = c.make_pair-2.new.self in
    let failure = c.in_ok-failure.failure in
    let condition = c.in_ok-condition.condition in
    let success = c.in_ok-success.success in
    let first = makes-joins old failed paired failure condition c.in_ok-failure.ensures.made c.in_ok-condition.ensures.made in
    let both = makes-joins old paired done condition success first c.in_ok-success.ensures.made in
    IfOk-weaker c.make_pair-2.result (Makes done new) (Makes old new) (λ r m. makes-joins old done new success r both m)
    c.make_pair-2.ensures.made
