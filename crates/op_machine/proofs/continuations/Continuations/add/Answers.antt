use Rattle.std.proofs.Common.{◌<◌, List, [], ◌∷◌, ◌++◌, length, ap, sym, ◌∙◌, subst, arith}
use Rattle.op_machine.specs.declared.continuations.Item.{Item}
use Rattle.op_machine.specs.declared.continuations.Cell.{Cell}
use Rattle.op_machine.specs.inner.Continuations.{continuation_in, continuations_of, only_empty, AreLinked}
use Rattle.op_machine.proofs.ContinuationLaws.{AreLinked-push, continuations_after-push, length_continuations_of}
use Rattle.op_machine.proofs.continuations.Continuations.add.Goals as goal

pub invariant_of-self-2 : goal.invariant_of-self-2
invariant_of-self-2 c =
    let there : c.args.rest < length (continuations_of c.self.inside.cells.items) =
    subst (λ (L : List (List Item)). c.args.rest < length L) (sym c.self.view_is) c.requires in
    subst (λ (cs : List Cell). AreLinked only_empty cs) (sym c.in_ok-push.ensures.items)
    (AreLinked-push only_empty c.self.inside.cells.items _ c.self.invariant there
    c.opened_before-parent.ensures.parent c.opened_before-parent.ensures.depth)

pub returns-clause-number : goal.returns-clause-number
returns-clause-number c =
    omega (
      arith,
      c.len.ensures,
      c.in_ok-push.ensures.len,
      c.self.inside.cells.ok.0,
      length_continuations_of c.self.inside.cells.items,
      ap
          length c.self.view_is,
    )

pub returns-clause-ok : goal.returns-clause-ok
returns-clause-ok c =
    ap continuations_of c.in_ok-push.ensures.items ∙ (continuations_after-push only_empty c.self.inside.cells.items _
    ∙ ap (λ (L : List (List Item)). L ++ (c.args.item ∷ continuation_in L c.args.rest) ∷ []) c.self.view_is)
