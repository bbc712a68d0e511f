use Rattle.std.proofs.Common.{arith}
use Rattle.op_term.specs.Places.{term_at}
use Rattle.op_reader.proofs.ShownNodes.{kept_kept, kept_new, new_below}
use Rattle.op_reader.proofs.ListNodes.{list_further}
use Rattle.op_reader.proofs.list_node.list_node.Goals as goal

pub elements-preserved : goal.elements-preserved
elements-preserved c =
    let made = c.in_ok-list.ensures.ok in
    let last = c.in_ok-list.ensures.number in record {
      inside = omega arith;
      there = new_below c.elements.nodes c.compound.new.self _ c.in_ok-list.list made last;
      kept = kept_kept c.args.nodes.now c.elements.nodes c.compound.new.self c.elements.invariant.kept
          (kept_new c.elements.nodes c.compound.new.self _ made);
      term = list_further c.args.nodes.now c.elements.nodes c.compound.new.self c.args.dot.0 c.elements.list c.elements.i
          c.in_ok-list.list c.args.elements.now
          (term_at c.args.nodes.now c.args.end) c.elements-test.true c.elements.invariant.inside c.requires.elements
          c.elements.invariant.kept c.elements.invariant.term made last;
    }
