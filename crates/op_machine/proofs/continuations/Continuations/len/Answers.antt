use Rattle.std.proofs.Common.{length, List, ◌∙◌, ap, arith}
use Rattle.op_machine.specs.declared.continuations.Item.{Item}
use Rattle.op_machine.proofs.ContinuationLaws.{length_continuations_of}
use Rattle.op_machine.proofs.continuations.Continuations.len.Goals as goal

pub returns-clause-count : goal.returns-clause-count
returns-clause-count c = omega (arith, c.self.inside.cells.ok.0, length_continuations_of c.self.inside.cells.items)
    ∙ ap (λ (L : List (List Item)). length L) c.self.view_is
