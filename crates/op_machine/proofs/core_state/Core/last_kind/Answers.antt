use Rattle.std.proofs.Common.{List, Option, sym, ap, ◌∙◌}
use Rattle.op_bind.specs.declared.places.Clause.{Clause as NumberedClause}
use Rattle.op_trace.specs.Visit.{Inside, last_choice}
use Rattle.op_machine.specs.declared.core_state.Core.{Core}
use Rattle.op_machine.specs.Meaning.{goal_now, bindings_now, items_now}
use Rattle.op_machine.specs.Program.{inside_snapshot}
use Rattle.op_machine.proofs.core_state.Core.last_kind.Goals as goal

pub returns-in-Some-clause-last : goal.returns-in-Some-clause-last
returns-in-Some-clause-last c =
    λ n.
    let old : Core = c.args.self.now in
    let g = goal_now old c.args.goal in
    ap (λ (i : Inside). last_choice i c.args.call g (bindings_now old) (items_now old n))
    (sym (c.requires.inside ∙ ap (λ (o : Option (List NumberedClause)). inside_snapshot old.store o g) c.in-Some.is))

pub returns-in-None-clause-last : goal.returns-in-None-clause-last
returns-in-None-clause-last c =
    λ n.
    let old : Core = c.args.self.now in
    let g = goal_now old c.args.goal in
    c.last_kind_alone.ensures.last n
    ∙ ap (λ (i : Inside). last_choice i c.args.call g (bindings_now old) (items_now old n))
    (sym (c.requires.inside ∙ ap (λ (o : Option (List NumberedClause)). inside_snapshot old.store o g) c.in-None.is))
