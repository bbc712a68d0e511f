use Rattle.std.proofs.Common.{ℕ, length, List, All, sym, ◌∙◌, subst, arith}
use Rattle.std.proofs.lemmas.List.Elements.{All-push}
use Rattle.op_logic.specs.Names.{HasNames}
use Rattle.op_session.proofs.RunnableBodies.{parts-of, part-names, met-one, met-two, less-one, less-two}
use Rattle.op_session.proofs.runnable.meet.Goals as goal

pub part-requires-clause-there : goal.part-requires-clause-there
part-requires-clause-there g c =
    let parts = parts-of c.args.store.now.names (g.T.Tree.term c.args.tree.now c.args.at)
    (sym c.is_control_pair-pair.ensures ∙ c.if-pair.true) in
    let two = parts.two in
    omega (arith, two)

pub part-requires-then-pair-clause-there : goal.part-requires-then-pair-clause-there
part-requires-then-pair-clause-there g c =
    let parts = parts-of c.args.store.now.names (g.T.Tree.term c.args.tree.now c.args.at)
    (sym c.is_control_pair-pair.ensures ∙ c.if-pair.true) in
    let two = parts.two in
    omega (arith, two)

pub returns-then-pair-clause-met : goal.returns-then-pair-clause-met
returns-then-pair-clause-met g c =
    met-two c.args.store.now.names (g.T.Tree.term c.args.tree.now) c.args.todo.now.items
    c.push.new.self.items c.push-then-pair.new.self.items
    c.args.at c.part-then-pair.result c.part.result (sym c.is_control_pair-pair.ensures ∙ c.if-pair.true) c.in_ok-push.ensures.items
    c.in_ok-push-2.ensures.items c.part-then-pair.ensures.value c.part.ensures.value

pub returns-then-pair-clause-less : goal.returns-then-pair-clause-less
returns-then-pair-clause-less g c =
    less-two c.args.store.now.names (g.T.Tree.term c.args.tree.now) c.args.todo.now.items
    c.push.new.self.items c.push-then-pair.new.self.items
    c.args.at c.part-then-pair.result c.part.result (sym c.is_control_pair-pair.ensures ∙ c.if-pair.true) c.in_ok-push.ensures.items
    c.in_ok-push-2.ensures.items c.part-then-pair.ensures.value c.part.ensures.value

pub returns-then-pair-clause-todo : goal.returns-then-pair-clause-todo
returns-then-pair-clause-todo g c =
    let term = g.T.Tree.term c.args.tree.now in
    let n : ℕ = length c.args.store.now.names in
    let P = λ (p : _). g.T.Tree.IsPlace c.args.tree.now p × HasNames n (term p) in
    let has = part-names c.args.store.now.names (term c.args.at) n (sym c.is_control_pair-pair.ensures
    ∙ c.if-pair.true) c.requires.names in
    let first : HasNames n (term c.part.result) = subst (HasNames n) (sym c.part.ensures.value) has.1 in
    let second : HasNames n (term c.part-then-pair.result) = subst (HasNames n) (sym c.part-then-pair.ensures.value) has.0 in
    subst (λ (ps : List _). All P ps) (sym c.in_ok-push-2.ensures.items)
    (All-push P c.push.new.self.items c.part-then-pair.result
    (subst (λ (ps : List _). All P ps) (sym c.in_ok-push.ensures.items) (All-push P c.args.todo.now.items c.part.result c.requires.todo
    (c.part.ensures.place, first)))
    (c.part-then-pair.ensures.place, second))

pub returns-clause-less : goal.returns-clause-less
returns-clause-less g c = less-one c.args.store.now.names (g.T.Tree.term c.args.tree.now)
    c.args.todo.now.items c.args.at

pub returns-clause-met : goal.returns-clause-met
returns-clause-met g c =
    met-one c.args.store.now.names (g.T.Tree.term c.args.tree.now) c.args.todo.now.items c.args.at c.is_goal.result
    (sym c.is_control_pair-pair.ensures ∙ c.if-pair.false) c.is_goal.ensures
