use Rattle.std.proofs.Common.{◌<◌, List, ◌∷◌, length, sym, ap, subst, ◌∙◌, arith}
use Rattle.op_bind.specs.declared.places.Clause.{Clause as NumberedClause}
use Rattle.op_trace.specs.Visit as visit
use Rattle.op_machine.specs.declared.core_state.Core.{Core}
use Rattle.op_machine.specs.Program.{clauses_from, AreKnown}
use Rattle.op_machine.specs.Meaning.{goal_now, bindings_now, items_now, choice_points_in}
use Rattle.op_machine.proofs.ClauseLists.{with_more-here, with_more-end}
use Rattle.op_machine.proofs.core_state.Core.push_more.Goals as goal

pub returns-in_ok-push_choice_point-clause-choices : goal.returns-in_ok-push_choice_point-clause-choices
returns-in_ok-push_choice_point-clause-choices c =
    let old : Core = c.args.self.now in
    let inside : c.args.next < length c.args.snapshot.now = omega arith in
    c.in_ok-push_choice_point.ensures.choices
    ∙ (ap (λ (rs : List NumberedClause). let x : List visit.Choice =
    visit.More (clauses_from old.store rs c.args.next) c.args.call (goal_now old c.args.goal) (bindings_now old)
    (items_now old c.args.rest) ∷ choice_points_in old in x) c.in_ok-snapshot.ensures
    ∙ sym (with_more-here old c.args.snapshot.now c.args.next c.args.call c.args.goal c.args.rest (choice_points_in old) inside))

pub returns-else-next-len-clause-choices : goal.returns-else-next-len-clause-choices
returns-else-next-len-clause-choices c =
    let old : Core = c.args.self.now in
    sym (with_more-end old c.args.snapshot.now c.args.next c.args.call c.args.goal c.args.rest (choice_points_in old) (omega arith))

pub push_choice_point-requires-clause-kind : goal.push_choice_point-requires-clause-kind
push_choice_point-requires-clause-kind c =
    let old : Core = c.args.self.now in
    let inside : c.args.next < length c.args.snapshot.now = omega arith in
    let P : List NumberedClause → Type 0 = λ rs. (c.args.next < length rs) × AreKnown (length old.store.names) rs in
    subst P (sym c.in_ok-snapshot.ensures) (inside, c.requires.known)
