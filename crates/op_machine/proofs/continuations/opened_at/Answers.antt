use Rattle.std.proofs.Common.{arith}
use Rattle.op_machine.proofs.ContinuationLaws.{length_continuations_of}
use Rattle.op_machine.proofs.continuations.opened_at.Goals as goal

pub returns-in-Some-clause-small : goal.returns-in-Some-clause-small
returns-in-Some-clause-small c =
    omega (
      arith,
      c.args.cells.now.ok.0,
      c.args.cells.now.small,
      length_continuations_of c.args.cells.now.items,
      c.requires.there,
      c.in-Some.ensures.begins.shallow,
      c.in-Some.ensures.begins.depth,
    )
