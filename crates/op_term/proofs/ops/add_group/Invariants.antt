use Rattle.std.proofs.Common.{◌≡◌, take}
use Rattle.std.specs.List.{fold}
use Rattle.op_term.specs.Ops.{with_op}
use Rattle.op_term.proofs.ops.add_group.Given as goal

abbrev pub invariant-loop-name : goal.invariant-loop-name
invariant-loop-name l = l.table ≡ fold (λ t n. with_op t l.priority l.kind n.now) l.initial.table (take l.name-index l.names)
