use Rattle.std.proofs.Common.{◌≡◌, List, ◌∷◌, sym, ◌∙◌, subst, ap, length}
use Rattle.op_frames.specs.declared.boxes.BoxFrame.{BoxFrame}
use Rattle.op_store.specs.Snapshots.{snapshot_clauses}
use Rattle.op_store.specs.Stored.{database_of}
use Rattle.op_trace.specs.Visit.{inside}
use Rattle.op_machine.specs.declared.core_state.Core.{Core}
use Rattle.op_machine.specs.Meaning.{goal_now, choice_points_in}
use Rattle.op_machine.specs.Program.{inside_snapshot, AreKnown}
use Rattle.op_machine.specs.inner.Boxes.{IsCalled}
use Rattle.op_machine.specs.inner.Invariant.{HasCalled}
use Rattle.op_machine.proofs.AdvanceLaws.{invoked-advances}
use Rattle.op_machine.proofs.core_state.Core.invoke.Goals as goal

pub enter_box-requires-clause-called : goal.enter_box-requires-clause-called
enter_box-requires-clause-called c =
    let boxed : Core = c.call_box.new.self in
    let shown : Core = c.show_event.new.self in
    let pushed : Core = c.push_choice_point.new.self in
    let at : Core → List BoxFrame → Type 0 = λ x B. IsCalled B x.calls x.continuations c.in_ok-call.call c.args.goal c.args.rest in
    let same = c.in_ok-push_choice_point.ensures.boxes ∙ ap (λ (x : Core). x.frames.boxes) c.show_event.ensures.rest in
    subst (λ (x : Core). at x pushed.frames.boxes) (sym c.in_ok-push_choice_point.ensures.rest)
    (subst (λ (x : Core). at x pushed.frames.boxes) (sym c.show_event.ensures.rest)
    (subst (λ (B : List BoxFrame). at boxed B) (sym same) c.in_ok-call.ensures.called))

pub enter_box-requires-clause-inside : goal.enter_box-requires-clause-inside
enter_box-requires-clause-inside c =
    subst (λ (x : Core). inside (database_of x.store) (goal_now x c.args.goal)
    ≡ inside_snapshot x.store c.in_ok-clauses.clauses (goal_now x c.args.goal)) (sym c.in_ok-push_choice_point.ensures.rest)
    c.in_ok-clauses.ensures.inside

pub enter_box-requires-clause-known : goal.enter_box-requires-clause-known
enter_box-requires-clause-known c =
    subst (λ (x : Core). AreKnown (length x.store.names) (snapshot_clauses c.in_ok-clauses.clauses))
    (sym c.in_ok-push_choice_point.ensures.rest) c.in_ok-clauses.ensures.known

pub push_choice_point-requires-clause-tried : goal.push_choice_point-requires-clause-tried
push_choice_point-requires-clause-tried c =
    c.last_kind-kind.ensures.tried c.args.rest
    (subst (λ (x : Core). HasCalled x c.in_ok-call.call c.args.goal c.args.rest) (sym c.show_event.ensures.rest)
    c.in_ok-call.ensures.called)

pub returns-clause-advances : goal.returns-clause-advances
returns-clause-advances c =
    let old : Core = c.args.self.now in
    let boxed : Core = c.call_box.new.self in
    let shown : Core = c.show_event.new.self in
    let pushed : Core = c.push_choice_point.new.self in
    let new : Core = c.enter_box.new.self in
    invoked-advances old boxed shown pushed new c.args.goal c.args.rest c.in_ok-call.call c.in_ok-call.ensures.number
    c.in_ok-call.ensures.rest c.in_ok-call.ensures.calls c.in_ok-call.ensures.choices
    c.show_event.ensures.rest c.in_ok-push_choice_point.ensures.rest c.in_ok-enter_box.ensures.rest
    c.show_event.ensures.seen
    (c.in_ok-push_choice_point.ensures.choices
    ∙ ap (λ x. x ∷ choice_points_in shown) (c.last_kind-kind.ensures.last c.args.rest))
    c.in_ok-enter_box.ensures.state c.in_ok-enter_box.ensures.good
    c.show_event.ensures.goal c.requires.goal
