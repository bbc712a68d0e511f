use Rattle.op_term.proofs.Integers.{passed}
use Rattle.op_term.proofs.builder.Builder.int.Goals as goal

pub push-requires-clause-small : goal.push-requires-clause-small
push-requires-clause-small c = passed c.args.i c.ranges.i
