use Rattle.op_readback.proofs.ReadBackTerms.{texts-are-read-back}
use Rattle.op_readback.proofs.through_text.texts_law.Goals as goal

pub returns : goal.returns
returns c =
    texts-are-read-back c.args.ops.now c.prefix-prefix.ensures.table c.args.symbols.now c.count-count.ensures.texts
    c.args.term.now c.requires.closed c.requires.names c.integers_law.ensures
