use Rattle.std.proofs.Common.{◌≡◌, ◌<◌, ◌≤◌, length, take, drop}
use Rattle.std.specs.Prelude.{map}
use Rattle.op_term.specs.Places.{term_at}
use Rattle.op_reader.specs.Words.{list_of}
use Rattle.op_reader.proofs.list_node.list_node.Given as goal

abbrev pub invariant-elements : goal.invariant-elements
invariant-elements l = record {
  inside : l.i ≤ length l.elements;
  there : l.list < length l.nodes;
  kept : take (length l.initial.nodes) l.nodes ≡ l.initial.nodes;
  term : term_at l.nodes l.list ≡ list_of l.dot.0 (term_at l.initial.nodes l.end) (map (term_at l.initial.nodes) (drop l.i l.elements));
}

abbrev pub decreases-elements : goal.decreases-elements
decreases-elements l = l.i
