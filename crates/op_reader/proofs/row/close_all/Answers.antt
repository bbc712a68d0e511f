use Rattle.std.proofs.Common.{◌∙◌}
use Rattle.op_reader.proofs.ClosedSpines.{kept_both, popped_there, step_there, step_term, step_priority}
use Rattle.op_reader.proofs.row.close_all.Goals as goal

pub close-requires-clause-left : goal.close-requires-clause-left
close-requires-clause-left c =
    popped_there _ c.close.branches.items c.pop.new.self.items c.in-Some.branch c.in-Some.ensures.items c.close.invariant.branches_there

pub close-preserved : goal.close-preserved
close-preserved c =
    let ts = c.close.nodes in
    let us = c.close-in-Some.new.nodes in
    let xs = c.close.branches.items in
    let bs = c.pop.new.self.items in
    let right = c.close.right in
    let part = c.in_ok-right.right in
    let e = c.in-Some.ensures.items in
    let i = c.close.invariant in
    let k = c.in_ok-right.ensures.kept in
    let p = c.in_ok-right.ensures.part in
    record {
      branches_there = step_there ts us xs bs c.in-Some.branch right part e k i.branches_there p;
      part_there = c.in_ok-right.ensures.there;
      kept = kept_both c.args.nodes.now ts us i.kept k;
      term = i.term ∙ step_term ts us xs bs c.in-Some.branch right part e k i.branches_there p;
      priority = i.priority ∙ step_priority ts us xs bs c.in-Some.branch right part e k i.branches_there p;
    }
