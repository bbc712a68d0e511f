use Rattle.std.proofs.Common.{◌≡◌, pos, codes, ap, ◌∙◌, arith}
use Rattle.std.proofs.lemmas.Result.{IfOk-weaker}
use Rattle.op_logic.specs.Term.{atom, int}
use Rattle.op_logic.specs.Names.{name_at}
use Rattle.op_trace.specs.Body.{pair}
use Rattle.op_trace.specs.Builtins.{error_of}
use Rattle.op_machine.specs.declared.core_state.Core.{Core}
use Rattle.op_machine.specs.Meaning.{goal_now}
use Rattle.op_machine.proofs.ControlLaws.{first-name}
use Rattle.op_machine.proofs.MadeJoins.{made-goal, made-name_at, pair-same}
use Rattle.op_machine.proofs.core_state.Core.make_existence_error.Goals as goal

pub returns-clause-value : goal.returns-clause-value
returns-clause-value c =
    let old : Core = c.args.self.now in
    let indicated : Core = c.make_indicator.new.self in
    let kinded : Core = c.make_atom.new.self in
    let paired : Core = c.make_pair.new.self in
    let one = c.in_ok-indicator in
    let two = c.in_ok-kind in
    let three = c.in_ok-error in
    let existence : name_at kinded.store.names 19 ≡ codes "existence_error" =
    made-name_at indicated kinded two.kind two.ensures.made 19
    ∙ (made-name_at old indicated one.indicator one.ensures.made 19
    ∙ first-name old.store.names 19 c.names_law.ensures.begins (omega arith)) in
    let procedure : name_at indicated.store.names 20 ≡ codes "procedure" =
    made-name_at old indicated one.indicator one.ensures.made 20
    ∙ first-name old.store.names 20 c.names_law.ensures.begins (omega arith) in
    let body : goal_now paired three.error ≡ pair (codes "existence_error") (atom (codes "procedure"))
    (pair (codes "/") (atom (name_at old.store.names c.args.name.0)) (int (pos c.args.arity))) =
    three.ensures.value
    ∙ pair-same (name_at kinded.store.names 19) (codes "existence_error") (goal_now kinded two.kind) (atom (codes "procedure"))
    (goal_now kinded one.indicator) (pair (codes "/") (atom (name_at old.store.names c.args.name.0)) (int (pos c.args.arity)))
    existence (two.ensures.value ∙ ap atom procedure)
    (made-goal indicated kinded two.kind two.ensures.made one.indicator one.ensures.made.there ∙ one.ensures.value) in
    IfOk-weaker c.make_error.result _ _ (λ r e. e ∙ ap error_of body) c.make_error.ensures.value
