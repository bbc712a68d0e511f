use Rattle.std.proofs.Common.{◌≡◌, ◌≤◌, ◌-◌, length, take}
use Rattle.op_reader.specs.Words.{source}
use Rattle.op_reader.specs.inner.Shown.{Worded}
use Rattle.op_reader.proofs.words.words_of.Given as goal

abbrev pub invariant-words : goal.invariant-words
invariant-words l = record {
  within : l.at ≤ length l.tokens;
  worded : Worded (source l.ops l.quotes l.bytes) l.tokens l.at l.symbols l.made l.words.items;
  kept : take (length l.initial.symbols) l.symbols ≡ l.initial.symbols;
}

abbrev pub decreases-words : goal.decreases-words
decreases-words l = length l.tokens - l.at
