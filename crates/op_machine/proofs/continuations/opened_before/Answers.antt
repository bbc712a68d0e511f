use Rattle.std.proofs.Common.{arith}
use Rattle.op_machine.proofs.ContinuationLaws.{length_continuations_of}
use Rattle.op_machine.proofs.continuations.opened_before.Goals as goal

pub overflow_add-result : goal.overflow_add-result
overflow_add-result c =
    omega (
      arith,
      c.args.cells.now.ok.0,
      c.args.cells.now.small,
      length_continuations_of c.args.cells.now.items,
      c.requires.there,
      c.opened_at-parent.ensures.shallow,
    )
