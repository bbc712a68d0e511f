use Rattle.std.proofs.Common.{◌≡◌, ◌<◌, ◌+◌, [], ◌∷◌, ◌++◌, ℕ, List, length, true, false, subst, sym, ap, ◌∙◌, All, refl, arith}
use Rattle.std.specs.Ordering.{is_ne}
use Rattle.op_logic.specs.Term.{args_of, arity}
use Rattle.op_logic.specs.Bind.{Pairs}
use Rattle.op_term.specs.Head.{head}
use Rattle.op_term.specs.inner.Compared.{node_order, HasItsName, pairs_from}
use Rattle.op_term.proofs.TermOrders
use Rattle.op_term.proofs.TermOrders.{IsComparing}
use Rattle.op_term.proofs.TermMeasures.{none-left}
use Rattle.op_term.proofs.ArgumentLists.{count-head}
use Rattle.op_term.proofs.order.compare.Goals as goal

pub pairs-init : goal.pairs-init
pairs-init g c =
    let term = g.T.Tree.term c.args.tree.now in
    let place = g.T.Tree.IsPlace c.args.tree.now in
    let t = term c.args.a.now in
    let u = term c.args.b.now in
    let names = c.args.symbols.now in
    let pair : g.row.T-At.Denot × g.row.T-At.Denot = (c.args.a.now, c.args.b.now) in
    let items : c.push.new.self.items ≡ pair ∷ [] = c.in_ok-push.ensures.items ∙ ap (λ xs. xs ++ pair ∷ []) c.new-todo.ensures.items in
    record {
      comparing = subst (λ (ps : List _). IsComparing names t u c.args.fuel.now c.args.fuel.now (pairs_from term ps [])) (sym items)
          (TermOrders.comparing-starts names t u c.args.fuel.now c.requires.a_named c.requires.b_named);
      there = subst (λ (ps : List _). All (λ p. place p.0 × place p.1) ps) (sym items)
          (TermOrders.all-one (λ p. place p.0 × place p.1) pair (c.requires.a, c.requires.b));
      falls = omega arith;
    }

pub returns-in_err-spend-clause-spent : goal.returns-in_err-spend-clause-spent
returns-in_err-spend-clause-spent g c = λ _.
    let term = g.T.Tree.term c.args.tree.now in
    let t = term c.args.a.now in
    let u = term c.args.b.now in
    let names = c.args.symbols.now in
    let pair = c.in-Some.pair in
    let rest = c.pop.new.self.items in
    let w = TermOrders.comparing-last term names t u c.args.fuel.now c.pairs.fuel c.pairs.todo.items rest pair c.in-Some.ensures.items
    c.pairs.invariant.comparing in
    TermOrders.comparing-spent names t u c.args.fuel.now c.pairs.fuel (term pair.0) (term pair.1) (pairs_from term rest []) w
    (c.in_err-spend.ensures.spent.0 refl)

pub node-node-requires : goal.node-node-requires
node-node-requires g c =
    let place = g.T.Tree.IsPlace c.args.tree.now in
    (TermOrders.all-last (λ p. place p.0 × place p.1) c.pairs.todo.items c.pop.new.self.items c.in-Some.pair c.in-Some.ensures.items
    c.pairs.invariant.there).0

pub node-requires : goal.node-requires
node-requires g c =
    let place = g.T.Tree.IsPlace c.args.tree.now in
    (TermOrders.all-last (λ p. place p.0 × place p.1) c.pairs.todo.items c.pop.new.self.items c.in-Some.pair c.in-Some.ensures.items
    c.pairs.invariant.there).1

pub push_pairs-requires-clause-a : goal.push_pairs-requires-clause-a
push_pairs-requires-clause-a g c =
    let place = g.T.Tree.IsPlace c.args.tree.now in
    (TermOrders.all-last (λ p. place p.0 × place p.1) c.pairs.todo.items c.pop.new.self.items c.in-Some.pair c.in-Some.ensures.items
    c.pairs.invariant.there).0

pub push_pairs-requires-clause-b : goal.push_pairs-requires-clause-b
push_pairs-requires-clause-b g c =
    let place = g.T.Tree.IsPlace c.args.tree.now in
    (TermOrders.all-last (λ p. place p.0 × place p.1) c.pairs.todo.items c.pop.new.self.items c.in-Some.pair c.in-Some.ensures.items
    c.pairs.invariant.there).1

pub push_pairs-requires-clause-todo : goal.push_pairs-requires-clause-todo
push_pairs-requires-clause-todo g c =
    let place = g.T.Tree.IsPlace c.args.tree.now in
    TermOrders.all-rest (λ p. place p.0 × place p.1) c.pairs.todo.items c.pop.new.self.items c.in-Some.pair c.in-Some.ensures.items
    c.pairs.invariant.there

pub node_order-order-requires-clause-left : goal.node_order-order-requires-clause-left
node_order-order-requires-clause-left g c =
    let term = g.T.Tree.term c.args.tree.now in
    let names = c.args.symbols.now in
    let pair = c.in-Some.pair in
    let w = TermOrders.comparing-last term names (term c.args.a.now) (term c.args.b.now) c.args.fuel.now c.pairs.fuel c.pairs.todo.items
    c.pop.new.self.items pair c.in-Some.ensures.items c.pairs.invariant.comparing in
    subst (HasItsName (length names)) (sym c.node-node.ensures)
    (TermOrders.name-of-node names (length names) (term pair.0) w.there.0)

pub node_order-order-requires-clause-right : goal.node_order-order-requires-clause-right
node_order-order-requires-clause-right g c =
    let term = g.T.Tree.term c.args.tree.now in
    let names = c.args.symbols.now in
    let pair = c.in-Some.pair in
    let w = TermOrders.comparing-last term names (term c.args.a.now) (term c.args.b.now) c.args.fuel.now c.pairs.fuel c.pairs.todo.items
    c.pop.new.self.items pair c.in-Some.ensures.items c.pairs.invariant.comparing in
    subst (HasItsName (length names)) (sym c.node.ensures)
    (TermOrders.name-of-node names (length names) (term pair.1) w.there.1)

pub returns-then-is_ne-clause-value : goal.returns-then-is_ne-clause-value
returns-then-is_ne-clause-value g c =
    let term = g.T.Tree.term c.args.tree.now in
    let t = term c.args.a.now in
    let u = term c.args.b.now in
    let names = c.args.symbols.now in
    let pair = c.in-Some.pair in
    let rest = c.pop.new.self.items in
    let w = TermOrders.comparing-last term names t u c.args.fuel.now c.pairs.fuel c.pairs.todo.items rest pair c.in-Some.ensures.items
    c.pairs.invariant.comparing in
    let o = c.node_order-order.result in
    let e : o ≡ node_order names (head (term pair.0)) (head (term pair.1)) = c.node_order-order.ensures
    ∙ (ap (λ n. node_order names n c.node.result) c.node-node.ensures ∙ ap (node_order names (head (term pair.0))) c.node.ensures) in
    let a = c.is_ne.ensures in
    let b = c.if-is_ne.true in
    let n : is_ne o ≡ true = cc in
    (TermOrders.comparing-differs names t u c.args.fuel.now c.pairs.fuel (term pair.0) (term pair.1) (pairs_from term rest []) w o
    c.spend.new.self e n c.in_ok-spend.ensures.ok).0

pub returns-then-is_ne-clause-paid : goal.returns-then-is_ne-clause-paid
returns-then-is_ne-clause-paid g c =
    let term = g.T.Tree.term c.args.tree.now in
    let t = term c.args.a.now in
    let u = term c.args.b.now in
    let names = c.args.symbols.now in
    let pair = c.in-Some.pair in
    let rest = c.pop.new.self.items in
    let w = TermOrders.comparing-last term names t u c.args.fuel.now c.pairs.fuel c.pairs.todo.items rest pair c.in-Some.ensures.items
    c.pairs.invariant.comparing in
    let o = c.node_order-order.result in
    let e : o ≡ node_order names (head (term pair.0)) (head (term pair.1)) = c.node_order-order.ensures
    ∙ (ap (λ n. node_order names n c.node.result) c.node-node.ensures ∙ ap (node_order names (head (term pair.0))) c.node.ensures) in
    let a = c.is_ne.ensures in
    let b = c.if-is_ne.true in
    let n : is_ne o ≡ true = cc in
    (TermOrders.comparing-differs names t u c.args.fuel.now c.pairs.fuel (term pair.0) (term pair.1) (pairs_from term rest []) w o
    c.spend.new.self e n c.in_ok-spend.ensures.ok).1

pub pairs-preserved : goal.pairs-preserved
pairs-preserved g c =
    let term = g.T.Tree.term c.args.tree.now in
    let t = term c.args.a.now in
    let u = term c.args.b.now in
    let names = c.args.symbols.now in
    let pair = c.in-Some.pair in
    let rest = c.pop.new.self.items in
    let w = TermOrders.comparing-last term names t u c.args.fuel.now c.pairs.fuel c.pairs.todo.items rest pair c.in-Some.ensures.items
    c.pairs.invariant.comparing in
    let o = c.node_order-order.result in
    let e : o ≡ node_order names (head (term pair.0)) (head (term pair.1)) = c.node_order-order.ensures
    ∙ (ap (λ n. node_order names n c.node.result) c.node-node.ensures ∙ ap (node_order names (head (term pair.0))) c.node.ensures) in
    let a = c.is_ne.ensures in
    let b = c.if-is_ne.false in
    let n : is_ne o ≡ false = cc in
    record {
      comparing = subst (λ (ps : Pairs ℕ). IsComparing names t u c.args.fuel.now c.spend.new.self ps) (sym c.in_ok-push_pairs.ensures.pairs)
          (TermOrders.comparing-goes names t u c.args.fuel.now c.pairs.fuel (term pair.0) (term pair.1) (pairs_from term rest []) w o
          c.spend.new.self e n c.in_ok-spend.ensures.ok);
      there = c.in_ok-push_pairs.ensures.todo;
      falls = omega (arith, c.pairs.invariant.falls, c.in_ok-spend.ensures.ok);
    }
