use Rattle.std.proofs.Common.{arith, refl}
use Rattle.op_reader.specs.Words.{source}
use Rattle.op_reader.proofs.ShownNodes.{kept_all}
use Rattle.op_reader.proofs.JoinedWords.{worded_none}
use Rattle.op_reader.proofs.words.words_of.Goals as goal

pub words-init : goal.words-init
words-init c = record {
  within = omega arith;
  worded = worded_none (source c.args.ops.now c.args.quotes c.args.bytes.now) c.args.tokens.now c.args.symbols.now _
      c.new-words.result.items c.new-2.ensures refl c.new-words.ensures.items;
  kept = kept_all c.args.symbols.now;
}
