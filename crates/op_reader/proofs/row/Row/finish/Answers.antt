use Rattle.std.proofs.Common.{sym, subst}
use Rattle.op_reader.specs.inner.RowState.{RowState, Stands}
use Rattle.op_reader.proofs.RowMembers.{tree_refused, tree_above, tree_found}
use Rattle.op_reader.proofs.row.Row.finish.Goals as goal

pub returns-then-self-clause-tree : goal.returns-then-self-clause-tree
returns-then-self-clause-tree c = λ ps s.
    let ts = c.args.nodes.now in
    let row : RowState =
    record { branches = c.self.inside.branches.items; last = c.self.inside.last; is_refused = c.self.inside.is_refused } in
    let stands : Stands ts ps row = subst (Stands ts ps) (sym c.self.view_is) s in
    tree_refused ts ts ps row c.in-Some.part c.args.bound stands c.in-Some.is c.if-self.true

pub returns-then-whole-bound-clause-tree : goal.returns-then-whole-bound-clause-tree
returns-then-whole-bound-clause-tree c = λ ps s.
    let ts = c.args.nodes.now in
    let row : RowState =
    record { branches = c.self.inside.branches.items; last = c.self.inside.last; is_refused = c.self.inside.is_refused } in
    let stands : Stands ts ps row = subst (Stands ts ps) (sym c.self.view_is) s in
    tree_above ts c.close_all.new.nodes ps row c.in-Some.part c.args.bound stands c.in-Some.is c.if-self.false c.in_ok-whole.whole
    c.in_ok-whole.ensures.term c.in_ok-whole.ensures.priority c.if-whole-bound.true

pub returns-clause-tree : goal.returns-clause-tree
returns-clause-tree c = λ ps s.
    let ts = c.args.nodes.now in
    let row : RowState =
    record { branches = c.self.inside.branches.items; last = c.self.inside.last; is_refused = c.self.inside.is_refused } in
    let stands : Stands ts ps row = subst (Stands ts ps) (sym c.self.view_is) s in
    tree_found ts c.close_all.new.nodes ps row c.in-Some.part c.args.bound stands c.in-Some.is c.if-self.false c.in_ok-whole.whole
    c.in_ok-whole.ensures.term c.in_ok-whole.ensures.priority c.if-whole-bound.false
