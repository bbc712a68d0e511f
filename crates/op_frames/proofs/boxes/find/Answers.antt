use Rattle.std.proofs.Common.{◌≡◌, ℕ, ◌≤◌, ◌-◌, List, leb, leb-true, reverse, slice_index_or, sym, ap, ◌∙◌, arith, rules}
use Rattle.std.proofs.lemmas.Bool.{leb-false}
use Rattle.std.proofs.lemmas.List.Sorted.{IsPartitionPoint-from_clause, IsPartitionedBy-leb}
use Rattle.op_frames.specs.declared.boxes.BoxFrame.{BoxFrame}
use Rattle.op_frames.specs.Frames.{chain}
use Rattle.op_frames.proofs.Chains.{chain-zero, chain-found, chain-none}
use Rattle.op_frames.proofs.boxes.find.Goals as goal

pub returns-then-number-eq0-clause-none : goal.returns-then-number-eq0-clause-none
returns-then-number-eq0-clause-none c =
    let B : List BoxFrame = reverse c.args.boxes.now in
    ap (chain B) c.if-number-eq0.true ∙ chain-zero B

pub returns-then-end-eq0-clause-none : goal.returns-then-end-eq0-clause-none
returns-then-end-eq0-clause-none c =
    let parted = IsPartitionedBy-leb (λ (b : BoxFrame). b.number) _ c.args.number c.requires in
    let point = IsPartitionPoint-from_clause (λ (b : BoxFrame). leb b.number c.args.number)
    _ _ c.partition_point-end.ensures.partitioned parted (λ a r q k. search rules) in
    let none : BoxFrame = record { number = 0; parent = 0; goal = 0; mark = record { terms = 0; bound = 0 } } in
    chain-none c.args.boxes.now c.args.number c.partition_point-end.result none c.partition_point-end.ensures.bound
    (λ j h. absurd (omega (arith, c.if-end-eq0.true)))
    (λ j low high. leb-false _ _ (point.1 j none low high))

pub returns-then-frame-number-clause-none : goal.returns-then-frame-number-clause-none
returns-then-frame-number-clause-none c =
    let parted = IsPartitionedBy-leb (λ (b : BoxFrame). b.number) _ c.args.number c.requires in
    let point = IsPartitionPoint-from_clause (λ (b : BoxFrame). leb b.number c.args.number)
    _ _ c.partition_point-end.ensures.partitioned parted (λ a r q k. search rules) in
    let d : BoxFrame = c.index-boxes-end.result in
    let last : ℕ = c.partition_point-end.result - 1 in
    let is : d.number ≡ (slice_index_or c.args.boxes.now last d).number = ap (λ (b : BoxFrame). b.number) c.index-boxes-end.is in
    let up : (slice_index_or c.args.boxes.now last d).number ≤ c.args.number =
    leb-true _ _ (point.0 last d (omega arith) (omega (arith, c.if-end-eq0.false))) in
    chain-none c.args.boxes.now c.args.number c.partition_point-end.result d c.partition_point-end.ensures.bound
    (λ j h.
    let low : (slice_index_or c.args.boxes.now j d).number ≤ (slice_index_or c.args.boxes.now last d).number =
    c.requires j last d (omega (arith, c.if-end-eq0.false)) (omega (arith, c.if-end-eq0.false, c.partition_point-end.ensures.bound)) in
    omega (arith, low, up, is, c.if-frame-number.true))
    (λ j low high. leb-false _ _ (point.1 j d low high))

pub returns-clause-some : goal.returns-clause-some
returns-clause-some c =
    let parted = IsPartitionedBy-leb (λ (b : BoxFrame). b.number) _ c.args.number c.requires in
    let point = IsPartitionPoint-from_clause (λ (b : BoxFrame). leb b.number c.args.number)
    _ _ c.partition_point-end.ensures.partitioned parted (λ a r q k. search rules) in
    let b : BoxFrame = c.index-boxes-end.result in
    chain-found c.args.boxes.now c.args.number (c.partition_point-end.result - 1) b (omega (arith, c.if-number-eq0.false))
    (omega (arith, c.if-end-eq0.false, c.partition_point-end.ensures.bound)) (sym c.index-boxes-end.is) c.if-frame-number.false
    (λ j low high. leb-false _ _ (point.1 j b (omega (arith, c.if-end-eq0.false)) high))
