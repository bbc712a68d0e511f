use Rattle.std.proofs.Common.{◌≡◌, ◌++◌, codes}
use Rattle.std.specs.List.{flat_map}
use Rattle.op_writer.specs.Cut.{front_of}
use Rattle.op_writer.specs.Spelling.{escaped}
use Rattle.op_writer.proofs.spelling.in_quotes.Given as goal

abbrev pub invariant-loop-c : goal.invariant-loop-c
invariant-loop-c l =
    (l.out.bytes ≡ front_of l.fn.out.limit (l.fn.out.bytes ++ (codes "'" ++ flat_map escaped l.yielded))) × (l.out.limit ≡ l.fn.out.limit)
