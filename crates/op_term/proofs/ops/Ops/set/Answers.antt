use Rattle.std.proofs.Common.{rules, ◌≡◌, Ok, subst}
use Rattle.op_term.specs.Ops.{set_in, IsTable}
use Rattle.op_term.proofs.Operators.{IsTable-set}
use Rattle.op_term.proofs.ops.Ops.set.Goals as goal

pub returns-then-priority-lt0-clause-table : goal.returns-then-priority-lt0-clause-table
returns-then-priority-lt0-clause-table c = subst IsTable c.self.view_is c.self.invariant

pub returns-then-eq-clause-table : goal.returns-then-eq-clause-table
returns-then-eq-clause-table c = subst IsTable c.self.view_is c.self.invariant

pub returns-then-is_reserved-clause-table : goal.returns-then-is_reserved-clause-table
returns-then-is_reserved-clause-table c = subst IsTable c.self.view_is c.self.invariant

pub invariant_of-self-2 : goal.invariant_of-self-2
invariant_of-self-2 c =
    let e : set_in c.self.inside.table c.args.priority c.args.kind c.args.name.now ≡ Ok c.set.new.self = search rules in
    IsTable-set c.self.inside.table c.args.priority c.args.kind c.args.name.now c.set.new.self c.self.invariant e

pub returns-clause-table : goal.returns-clause-table
returns-clause-table c =
    let e : set_in c.self.inside.table c.args.priority c.args.kind c.args.name.now ≡ Ok c.set.new.self = search rules in
    IsTable-set c.self.inside.table c.args.priority c.args.kind c.args.name.now c.set.new.self c.self.invariant e
