use Rattle.std.proofs.Common.{◌≡◌, ◌∙◌, sym, subst, length, ◌<◌, ◌≤◌, ◌++◌, ◌∷◌, [], true, false, arith}
use Rattle.op_logic.proofs.BoolCases.{if_true, if_false}
use Rattle.op_reader.specs.Row.{operator, left_bound}
use Rattle.op_reader.specs.inner.RowState.{RowState, operator_of, Stands, expects_operand}
use Rattle.op_reader.proofs.ClosedSpines.{kept_length, branches_more}
use Rattle.op_reader.proofs.RowMembers.{none_before, expected_some, as_last, postfix_none, postfix_refused, postfix_taken}
use Rattle.op_reader.proofs.row.Row.postfix.Goals as goal

pub returns-then-self-clause-stands : goal.returns-then-self-clause-stands
returns-then-self-clause-stands c = λ ps s.
    let ts = c.args.nodes.now in
    let o = operator_of c.args.name.0 c.args.meaning in
    let row : RowState =
    record { branches = c.self.inside.branches.items; last = c.self.inside.last; is_refused = c.self.inside.is_refused } in
    let stands : Stands ts ps row = subst (Stands ts ps) (sym c.self.view_is) s in
    let expected : expects_operand row ≡ false =
    subst (λ (h : RowState). expects_operand h ≡ false) (sym c.self.view_is) c.requires.expected in
    let last = expected_some row expected in
    subst (Stands ts (ps ++ operator o ∷ [])) c.self.view_is
    (as_last ts (ps ++ operator o ∷ []) row last.0 last.1
    (postfix_none o c.requires.kind c.requires.priority ps (none_before ts ps row last.0 stands last.1 c.if-self.true)
    ∙ sym (if_true _ _ _ c.if-self.true)))

pub returns-then-operand-left_bound-clause-stands : goal.returns-then-operand-left_bound-clause-stands
returns-then-operand-left_bound-clause-stands c = λ ps s.
    let ts = c.args.nodes.now in
    let us = c.close_below.new.nodes in
    let o = operator_of c.args.name.0 c.args.meaning in
    let row : RowState =
    record { branches = c.self.inside.branches.items; last = c.self.inside.last; is_refused = c.self.inside.is_refused } in
    let stands : Stands ts ps row = subst (Stands ts ps) (sym c.self.view_is) s in
    let above : left_bound o < c.in_ok-operand.operand.priority = omega (arith, c.left_bound.ensures, c.if-operand-left_bound.true) in
    as_last us (ps ++ operator o ∷ []) (record {
      branches = c.close_below.new.branches.items;
      last = c.self.inside.last;
      is_refused = true;
    }) c.in-Some.part c.in-Some.is
    (postfix_refused ts us ps row c.in-Some.part c.in_ok-operand.operand c.close_below.new.branches.items c.args.name c.args.meaning
    c.requires.priority stands c.in-Some.is c.if-self.false c.in_ok-operand.ensures.same
    c.in_ok-operand.ensures.stops c.requires.kind above)

pub returns-clause-there : goal.returns-clause-there
returns-clause-there c =
    let us = c.close_below.new.nodes in
    let vs = c.close.new.nodes in
    record {
      branches = branches_more (length us) (length vs) (kept_length us vs c.in_ok-close.ensures.kept) c.close_below.new.branches.items
          c.in_ok-operand.ensures.branches_there;
      last = c.in_ok-close.ensures.there;
    }

pub returns-clause-stands : goal.returns-clause-stands
returns-clause-stands c = λ ps s.
    let ts = c.args.nodes.now in
    let us = c.close_below.new.nodes in
    let vs = c.close.new.nodes in
    let row : RowState =
    record { branches = c.self.inside.branches.items; last = c.self.inside.last; is_refused = c.self.inside.is_refused } in
    let stands : Stands ts ps row = subst (Stands ts ps) (sym c.self.view_is) s in
    let within : c.in_ok-operand.operand.priority ≤ left_bound (operator_of c.args.name.0 c.args.meaning) =
    omega (arith, c.left_bound.ensures, c.if-operand-left_bound.false) in
    postfix_taken ts us ps row c.in-Some.part c.in_ok-operand.operand c.close_below.new.branches.items c.args.name c.args.meaning
    c.requires.priority stands c.in-Some.is c.if-self.false c.in_ok-operand.ensures.same
    c.in_ok-operand.ensures.stops c.requires.kind within
    vs c.in_ok-close.field-0 c.in_ok-close.ensures.kept c.in_ok-operand.ensures.branches_there c.in_ok-close.ensures.part
    ∙ sym (if_false _ _ _ c.if-self.false)
