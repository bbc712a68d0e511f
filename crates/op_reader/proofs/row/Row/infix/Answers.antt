use Rattle.std.proofs.Common.{◌∙◌, sym, subst, length, Some, ◌<◌, ◌≤◌, arith}
use Rattle.op_logic.proofs.BoolCases.{if_true, if_false}
use Rattle.op_reader.specs.Row.{left_bound}
use Rattle.op_reader.specs.inner.RowState.{RowState, operator_of, Stands, BranchesBelow}
use Rattle.op_reader.proofs.ClosedSpines.{branches_push}
use Rattle.op_reader.proofs.RowMembers.{none_before, infix_none, infix_refused, infix_taken, branch_of}
use Rattle.op_reader.proofs.row.Row.infix.Goals as goal

pub returns-then-self-clause-stands : goal.returns-then-self-clause-stands
returns-then-self-clause-stands c = λ ps s t.
    let row : RowState =
    record { branches = c.self.inside.branches.items; last = c.self.inside.last; is_refused = c.self.inside.is_refused } in
    let stands : Stands c.args.nodes.now ps row = subst (Stands c.args.nodes.now ps) (sym c.self.view_is) s in
    infix_none (operator_of c.args.name.0 c.args.meaning) c.requires.kind c.requires.priority ps
    (none_before c.args.nodes.now ps row c.in-Some.part stands c.in-Some.is c.if-self.true) t
    ∙ sym (if_true _ _ _ c.if-self.true)

pub returns-then-left-left_bound-clause-stands : goal.returns-then-left-left_bound-clause-stands
returns-then-left-left_bound-clause-stands c = λ ps s t.
    let row : RowState =
    record { branches = c.self.inside.branches.items; last = c.self.inside.last; is_refused = c.self.inside.is_refused } in
    let stands : Stands c.args.nodes.now ps row = subst (Stands c.args.nodes.now ps) (sym c.self.view_is) s in
    let above : left_bound (operator_of c.args.name.0 c.args.meaning) < c.in_ok-left.left.priority =
    omega (arith, c.left_bound.ensures, c.if-left-left_bound.true) in
    infix_refused c.args.nodes.now c.close_below.new.nodes ps row c.in-Some.part c.in_ok-left.left c.close_below.new.branches.items
    c.args.name c.args.meaning
    c.requires.priority stands c.in-Some.is c.if-self.false c.in_ok-left.ensures.same c.in_ok-left.ensures.stops c.requires.kind above t

pub returns-clause-there : goal.returns-clause-there
returns-clause-there c =
    let n = length c.close_below.new.nodes in
    record {
      branches = subst (BranchesBelow n) (sym c.in_ok-push.ensures.items) (branches_push n c.close_below.new.branches.items
          (branch_of c.args.name c.args.meaning (Some c.in_ok-left.left.node)) c.in_ok-left.ensures.branches_there
          c.in_ok-left.ensures.part_there);
      last = tt;
    }

pub returns-clause-stands : goal.returns-clause-stands
returns-clause-stands c = λ ps s t.
    let row : RowState =
    record { branches = c.self.inside.branches.items; last = c.self.inside.last; is_refused = c.self.inside.is_refused } in
    let stands : Stands c.args.nodes.now ps row = subst (Stands c.args.nodes.now ps) (sym c.self.view_is) s in
    let within : c.in_ok-left.left.priority ≤ left_bound (operator_of c.args.name.0 c.args.meaning) =
    omega (arith, c.left_bound.ensures, c.if-left-left_bound.false) in
    infix_taken c.args.nodes.now c.close_below.new.nodes ps row c.in-Some.part c.in_ok-left.left c.close_below.new.branches.items
    c.args.name c.args.meaning
    c.requires.priority stands c.in-Some.is c.if-self.false c.in_ok-left.ensures.same c.in_ok-left.ensures.stops c.requires.kind within
    c.push.new.self.items c.in_ok-push.ensures.items t
    ∙ sym (if_false _ _ _ c.if-self.false)
