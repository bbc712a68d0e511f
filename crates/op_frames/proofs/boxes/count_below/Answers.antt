use Rattle.std.proofs.Common.{ltb, rules}
use Rattle.std.proofs.lemmas.List.Sorted.{IsPartitionPoint-from_clause, IsPartitionedBy-ltb}
use Rattle.op_frames.specs.declared.boxes.BoxFrame.{BoxFrame}
use Rattle.op_frames.proofs.Chains.{filter-partition}
use Rattle.op_frames.proofs.boxes.count_below.Goals as goal

pub returns-clause-first : goal.returns-clause-first
returns-clause-first c =
    let parted = IsPartitionedBy-ltb (λ (b : BoxFrame). b.number) _ c.args.from c.requires in
    let point = IsPartitionPoint-from_clause (λ (b : BoxFrame). ltb b.number c.args.from) _ _ c.partition_point.ensures.partitioned parted
    (λ a r q k. search rules) in
    filter-partition (λ (b : BoxFrame). ltb b.number c.args.from) _ _ c.partition_point.ensures.bound point.0 point.1
