use Rattle.std.proofs.Common.{◌≡◌, ◌∙◌, ◌++◌, ◌∷◌, [], sym, ap, subst, true, false, None}
use Rattle.op_logic.proofs.BoolCases.{if_true, if_false}
use Rattle.op_reader.specs.Row.{operator}
use Rattle.op_reader.specs.inner.RowState.{RowState, operator_of, Stands, expects_operand, BranchesBelow, AreBelow}
use Rattle.op_reader.specs.inner.Adding.{last_is_below}
use Rattle.op_reader.proofs.ClosedSpines.{branches_push}
use Rattle.op_reader.proofs.RowMembers.{stands_open, expected_none, as_open, prefix_none, prefix_refused, prefix_taken, branch_of}
use Rattle.op_reader.proofs.row.Row.prefix.Goals as goal

pub returns-then-self-clause-stands : goal.returns-then-self-clause-stands
returns-then-self-clause-stands c = λ ts ps s.
    let o = operator_of c.args.name.0 c.args.meaning in
    let row : RowState =
    record { branches = c.self.inside.branches.items; last = c.self.inside.last; is_refused = c.self.inside.is_refused } in
    let stands : Stands ts ps row = subst (Stands ts ps) (sym c.self.view_is) s in
    let last = expected_none row (subst (λ (h : RowState). expects_operand h ≡ true) (sym c.self.view_is) c.requires.expected) in
    subst (Stands ts (ps ++ operator o ∷ [])) c.self.view_is
    (as_open ts (ps ++ operator o ∷ []) row last
    (λ t. prefix_none o c.requires.kind c.requires.priority ps t (stands_open ts ps row stands last t ∙ if_true _ _ _ c.if-self.true)
    ∙ sym (if_true _ _ _ c.if-self.true)))

pub returns-then-ends_below-clause-expects : goal.returns-then-ends_below-clause-expects
returns-then-ends_below-clause-expects c =
    let row : RowState =
    record { branches = c.self.inside.branches.items; last = c.self.inside.last; is_refused = c.self.inside.is_refused } in
    subst (λ (h : RowState). expects_operand h ≡ true) (sym c.self.view_is) c.requires.expected

pub returns-then-ends_below-clause-stands : goal.returns-then-ends_below-clause-stands
returns-then-ends_below-clause-stands c = λ ts ps s.
    let o = operator_of c.args.name.0 c.args.meaning in
    let row : RowState =
    record { branches = c.self.inside.branches.items; last = c.self.inside.last; is_refused = c.self.inside.is_refused } in
    let stands : Stands ts ps row = subst (Stands ts ps) (sym c.self.view_is) s in
    let last = expected_none row (subst (λ (h : RowState). expects_operand h ≡ true) (sym c.self.view_is) c.requires.expected) in
    let below : last_is_below c.args.meaning.priority row.branches ≡ true =
    ap (last_is_below c.args.meaning.priority) (sym c.deref.ensures.value) ∙ (sym c.ends_below.ensures ∙ c.if-ends_below.true) in
    as_open ts (ps ++ operator o ∷ []) (record { branches = c.self.inside.branches.items; last = c.self.inside.last; is_refused = true })
    last
    (prefix_refused ts ps row c.args.name c.args.meaning c.requires.kind c.requires.priority stands last c.if-self.false below)

pub returns-clause-expects : goal.returns-clause-expects
returns-clause-expects c = subst (λ (h : RowState). expects_operand h ≡ true) (sym c.self.view_is) c.requires.expected

pub returns-clause-there : goal.returns-clause-there
returns-clause-there c = λ n h.
    let row : RowState =
    record { branches = c.self.inside.branches.items; last = c.self.inside.last; is_refused = c.self.inside.is_refused } in
    let below : AreBelow n row = subst (AreBelow n) (sym c.self.view_is) h in
    record {
      branches = subst (BranchesBelow n) (sym c.in_ok-push.ensures.items) (branches_push n c.self.inside.branches.items
          (branch_of c.args.name c.args.meaning None) below.branches tt);
      last = below.last;
    }

pub returns-clause-stands : goal.returns-clause-stands
returns-clause-stands c = λ ts ps s.
    let o = operator_of c.args.name.0 c.args.meaning in
    let row : RowState =
    record { branches = c.self.inside.branches.items; last = c.self.inside.last; is_refused = c.self.inside.is_refused } in
    let stands : Stands ts ps row = subst (Stands ts ps) (sym c.self.view_is) s in
    let last = expected_none row (subst (λ (h : RowState). expects_operand h ≡ true) (sym c.self.view_is) c.requires.expected) in
    let allowed : last_is_below c.args.meaning.priority row.branches ≡ false =
    ap (last_is_below c.args.meaning.priority) (sym c.deref.ensures.value) ∙ (sym c.ends_below.ensures ∙ c.if-ends_below.false) in
    as_open ts (ps ++ operator o ∷ []) (record {
      branches = c.push.new.self.items;
      last = c.self.inside.last;
      is_refused = c.self.inside.is_refused;
    }) last
    (λ t. prefix_taken ts ps row c.args.name c.args.meaning c.requires.kind c.requires.priority stands last c.if-self.false allowed
    c.push.new.self.items c.in_ok-push.ensures.items t ∙ sym (if_false _ _ _ c.if-self.false))
