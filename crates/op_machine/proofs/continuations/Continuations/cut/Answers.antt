use Rattle.std.proofs.Common.{◌-◌, ◌≤◌, length, List, take, sym, ◌∙◌, ap, subst}
use Rattle.op_machine.specs.declared.continuations.Item.{Item}
use Rattle.op_machine.specs.declared.continuations.Cell.{Cell}
use Rattle.op_machine.specs.inner.Continuations.{AreLinked, only_empty, continuations_of}
use Rattle.op_machine.proofs.ContinuationLaws.{continuations-cut, linked-cut}
use Rattle.op_machine.proofs.continuations.Continuations.cut.Goals as goal

pub invariant_of-self : goal.invariant_of-self
invariant_of-self c =
    subst (λ (cs : List Cell). AreLinked only_empty cs) (sym c.truncate.ensures.items)
    (linked-cut only_empty c.self.inside.cells.items (c.args.n - 1) c.self.invariant)

pub returns : goal.returns
returns c =
    let there : c.args.n ≤ length (continuations_of c.self.inside.cells.items) =
    subst (λ (L : List (List Item)). c.args.n ≤ length L) (sym c.self.view_is) c.requires.there in
    ap continuations_of c.truncate.ensures.items
    ∙ (continuations-cut c.self.inside.cells.items c.args.n c.requires.some there
    ∙ ap (λ (L : List (List Item)). take c.args.n L) c.self.view_is)
