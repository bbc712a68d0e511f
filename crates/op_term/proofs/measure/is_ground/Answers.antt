use Rattle.std.proofs.Common.{◌≡◌, [], ◌∷◌, ◌++◌, List, map, subst, refl, sym, arith}
use Rattle.op_term.proofs.TermMeasures
use Rattle.op_term.proofs.TermMeasures.{IsMeasuring}
use Rattle.op_term.proofs.measure.is_ground.Goals as goal

pub returns-in_err-spend-clause-spent : goal.returns-in_err-spend-clause-spent
returns-in_err-spend-clause-spent g c = λ _.
    let term = g.T.Tree.term c.args.tree.now in
    let t = g.T.Tree.term c.args.tree.now c.args.at.now in
    let m = subst (λ (ps : List _). IsMeasuring t c.args.fuel.now c.walk.fuel c.walk.none (map term ps)) c.in-Some.ensures.items
    c.walk.invariant.measuring in
    TermMeasures.measuring-spent term t c.args.fuel.now c.walk.fuel c.walk.none c.pop.new.self.items c.in-Some.next m
    (c.in_err-spend.ensures.spent.0 refl)

pub walk-preserved : goal.walk-preserved
walk-preserved g c =
    let term = g.T.Tree.term c.args.tree.now in
    let t = g.T.Tree.term c.args.tree.now c.args.at.now in
    let m = subst (λ (ps : List _). IsMeasuring t c.args.fuel.now c.walk.fuel c.walk.none (map term ps)) c.in-Some.ensures.items
    c.walk.invariant.measuring in
    record {
      measuring = TermMeasures.measuring-goes term t c.args.fuel.now c.walk.fuel c.walk.none c.pop.new.self.items c.in-Some.next m
          c.spend.new.self c.push_args.new.todo.items c.node-node.result c.none_yet-none.result c.in_ok-spend.ensures.ok c.node-node.ensures
          c.none_yet-none.ensures c.in_ok-push_args.ensures.terms;
      there = c.in_ok-push_args.ensures.todo;
      falls = omega (arith, c.walk.invariant.falls, c.in_ok-spend.ensures.ok);
    }
