use Rattle.std.proofs.Common.{◌≡◌, ℕ, suc, ◌+◌, List, length, arith, sym, ap, subst, ◌∙◌}
use Rattle.std.proofs.lemmas.Result.{IfOk-weaker}
use Rattle.op_bind.specs.declared.places.Clause.{Clause as NumberedClause}
use Rattle.op_machine.specs.declared.core_state.Core.{Core}
use Rattle.op_machine.specs.Meaning.{goal_now, bindings_now, items_now, choice_points_in}
use Rattle.op_frames.specs.declared.boxes.BoxFrame.{BoxFrame}
use Rattle.op_machine.specs.inner.Boxes.{IsCalled}
use Rattle.op_machine.specs.Program.{clauses_from, IsKnown}
use Rattle.op_machine.specs.Resume.{with_more}
use Rattle.op_machine.proofs.AdvanceLaws.{clauses-tried, clauses-tried-advances}
use Rattle.op_machine.specs.inner.Moves.{clause_tried, clauses_tried}
use Rattle.op_machine.proofs.core_state.Core.try_clauses.Goals as goal

pub returns-clause-advances : goal.returns-clause-advances
returns-clause-advances c =
    let old = c.args.self.now in
    let mid = c.push_more.new.self in
    let one : c.args.next + 1 ≡ suc c.args.next = omega arith in
    let moved = clauses-tried old mid c.args.snapshot.now c.args.next c.clause.result.now c.args.call c.args.goal c.args.rest
    c.in_ok-push_more.ensures.rest
    (c.in_ok-push_more.ensures.choices
    ∙ ap (λ (i : ℕ). with_more (clauses_from old.store c.args.snapshot.now i) c.args.call (goal_now old c.args.goal) (bindings_now old)
    (items_now old c.args.rest) (choice_points_in old)) one)
    c.requires.here c.clause.ensures in
    IfOk-weaker c.try_clause.result _ _
    (λ s a. clauses-tried-advances old mid c.try_clause.new.self (clause_tried mid c.clause.result.now c.args.call c.args.goal c.args.rest)
    (clauses_tried old c.args.snapshot.now c.args.next c.args.call c.args.goal c.args.rest) s c.in_ok-push_more.ensures.rest moved a)
    c.try_clause.ensures.advances

pub try_clause-requires-clause-known : goal.try_clause-requires-clause-known
try_clause-requires-clause-known c =
    let r : NumberedClause = c.clause.result.now in
    let known : IsKnown (length c.args.self.now.store.names) r =
    subst (λ (q : NumberedClause). IsKnown (length c.args.self.now.store.names) q) (sym c.clause.ensures)
    (c.requires.known c.args.next r c.requires.here) in
    subst (λ (x : Core). IsKnown (length x.store.names) r) (sym c.in_ok-push_more.ensures.rest) known

pub try_clause-requires-clause-called : goal.try_clause-requires-clause-called
try_clause-requires-clause-called c =
    let old : Core = c.args.self.now in
    let mid : Core = c.push_more.new.self in
    subst (λ (x : Core). IsCalled mid.frames.boxes x.calls x.continuations c.args.call c.args.goal c.args.rest)
    (sym c.in_ok-push_more.ensures.rest)
    (subst (λ (B : List BoxFrame). IsCalled B old.calls old.continuations c.args.call c.args.goal c.args.rest)
    (sym c.in_ok-push_more.ensures.boxes) c.requires.called)
