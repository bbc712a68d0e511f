use Rattle.std.proofs.Common.{◌≡◌, length, take}
use Rattle.std.specs.Prelude.{map}
use Rattle.op_reader.specs.Words.{char_term}
use Rattle.op_reader.specs.inner.Shown.{ShowsTerms}
use Rattle.op_reader.proofs.text_node.char_nodes.Given as goal

abbrev pub invariant-loop-character : goal.invariant-loop-character
invariant-loop-character l = record {
  shown : ShowsTerms l.symbols l.nodes l.elements.items (map (char_term l.quotes) (take l.character-index l.characters));
  names_kept : take (length l.initial.symbols) l.symbols ≡ l.initial.symbols;
  kept : take (length l.initial.nodes) l.nodes ≡ l.initial.nodes;
}
