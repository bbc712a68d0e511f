use Rattle.std.proofs.Common.{length}
use Rattle.op_reader.proofs.ShownNodes.{kept_length}
use Rattle.op_reader.proofs.PendingRows.{pending_more}
use Rattle.op_reader.proofs.terms.open_bracket.Goals as goal

pub returns-clause-below : goal.returns-clause-below
returns-clause-below c =
    let longer = kept_length c.args.nodes.now c.bracketed_of.new.nodes c.in_ok-found.ensures.kept in
    c.in_ok-enclose.ensures.below (length c.bracketed_of.new.nodes) c.in_ok-found.ensures.there
    (pending_more (length c.args.nodes.now) (length c.bracketed_of.new.nodes) longer c.pop-rows.new.pending
    (c.pop-rows.ensures.popped.below (length c.args.nodes.now) c.requires))
