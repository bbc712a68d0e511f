use Rattle.std.proofs.Common.{length, subst}
use Rattle.op_cursor.specs.inner.Parts.{HasOwnNames}
use Rattle.op_cursor.proofs.part.side_outline.Goals as goal

pub returns-in-Pattern-clause-texts : goal.returns-in-Pattern-clause-texts
returns-in-Pattern-clause-texts c = λ own h.
    c.node_outline.ensures.texts own (length c.args.view.now.names) (subst (HasOwnNames own c.args.whole.now.terms) c.in-Pattern.is h)

pub returns-in-Event-clause-texts : goal.returns-in-Event-clause-texts
returns-in-Event-clause-texts c = λ own h. c.part_outline.ensures.texts own
